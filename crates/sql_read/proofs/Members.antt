-- A loop over members: how each of its ends, and its next turn, gives what reading gives.
use Rattle.std.proofs.Common.{◌≡◌, ℕ, suc, zero, ◌+◌, ◌-◌, ◌<◌, ◌≤◌, Option, None, Some, List, []}
use Rattle.std.proofs.Common.{◌∷◌, ◌++◌, length, refl, ap, sym, ◌∙◌, append_assoc, arith}
use Rattle.std.proofs.lemmas.List.{append-nil}
use Rattle.sql_read.specs.declared.lexeme.DescentFault.{DescentFault}
use Rattle.sql_read.specs.declared.lexeme.DescentFault.TheVariants as fault
use Rattle.sql_read.specs.Lexemes.{Lexeme}
use Rattle.sql_read.specs.Reading.{◌>>=◌, Read, Reader, Fails, with_front, more_at, list_at}

pub with_front-again : {A : Type 0} (xs ys : List A) (read : Read (List A)) →
    with_front xs (with_front ys read) ≡ with_front (xs ++ ys) read
with_front-again xs ys None = refl
with_front-again xs ys (Some x) = ap (λ zs. Some (zs, x.1)) (sym (append_assoc xs ys x.0))

module _ {A : Type 0} (start : List Lexeme → Option (List Lexeme)) (p : Reader A) where
  pub more_at-stop : (n : ℕ) (ts : List Lexeme) → start ts ≡ None
      → more_at start p n ts ≡ Some ([], ts)
  unfolding more_at
  more_at-stop zero ts e = refl
  more_at-stop (suc n) ts e = rw e refl

  pub more_at-step : (n : ℕ) (ts r : List Lexeme) → start ts ≡ Some r →
      more_at start p (suc n) ts ≡ (p r >>= λ x. with_front (x.0 ∷ []) (more_at start p n x.1))
  unfolding more_at
  more_at-step n ts r e = rw e refl

-- one less than what is left, at the next turn
left_is : (i n : ℕ) → i < n → n - i ≡ suc (n - (i + 1))
left_is i n h = omega arith

module _ {A : Type 0} (first : Reader A) (start : List Lexeme → Option (List Lexeme)) (p : Reader A)
  where
    pub begins : (ts rest : List Lexeme) (most : ℕ) (x : A) (front : List A) →
        first ts ≡ Some (x, rest) → most ≡ length rest → front ≡ x ∷ [] →
        with_front front (more_at start p (most - 0) rest) ≡ list_at first start p ts
    unfolding list_at
    begins ts rest most x front read long is =
        let z : most - 0 ≡ length rest = omega arith in
        rw (is, read, z) refl

    pub begins_not : (ts : List Lexeme) (e : DescentFault) → Fails e (first ts)
        → Fails e (list_at first start p ts)
    unfolding list_at
    begins_not ts fault.Syntax read = rw read refl
    begins_not ts fault.Memory read = tt

    module _ (front : List A) (i n : ℕ) (rest : List Lexeme) (whole : Read (List A))
        (kept : with_front front (more_at start p (n - i) rest) ≡ whole) where
      pub goes_on : (behind left : List Lexeme) (x : A) (longer : List A) → i < n
          → start rest ≡ Some behind →
          p behind ≡ Some (x, left) → longer ≡ front ++ x ∷ [] →
          with_front longer (more_at start p (n - (i + 1)) left) ≡ whole
      goes_on behind left x longer h next read is =
          rw is (sym (with_front-again front (x ∷ []) (more_at start p (n - (i + 1)) left))
          ∙ ap (with_front front)
          (sym (more_at-step start p (n - (i + 1)) rest behind next ∙ rw read refl))
          ∙ ap (λ k. with_front front (more_at start p k rest)) (sym (left_is i n h))
          ∙ kept)

      pub fails : (behind : List Lexeme) (e : DescentFault) → i < n → start rest ≡ Some behind →
          Fails e (p behind) → Fails e whole
      fails behind fault.Syntax h next read =
          let none : more_at start p (suc (n - (i + 1))) rest ≡ None =
          more_at-step start p (n - (i + 1)) rest behind next ∙ rw read refl in
          sym kept ∙ ap (λ k. with_front front (more_at start p k rest)) (left_is i n h)
          ∙ ap (with_front front) none
      fails behind fault.Memory h next read = tt

      pub is_done : start rest ≡ None → whole ≡ Some (front, rest)
      is_done none =
          sym kept ∙ ap (with_front front) (more_at-stop start p (n - i) rest none)
          ∙ ap (λ xs. Some (xs, rest)) (append-nil front)

      pub is_through : n ≤ i → whole ≡ Some (front, rest)
      unfolding more_at
      is_through h =
          let z : n - i ≡ 0 = omega arith in
          sym kept ∙ ap (λ k. with_front front (more_at start p k rest)) z
          ∙ ap (λ xs. Some (xs, rest)) (append-nil front)
