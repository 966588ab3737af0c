-- A test that is true of the first members of a list alone, found by halving.
use Rattle.std.proofs.Common.{◌≡◌, ◌<◌, ℕ, zero, suc, Bool, true, false, cond, not, List, [], ◌∷◌}
use Rattle.std.proofs.Common.{refl, ap, sym, ◌∙◌, map, length, get_or, take, drop, arith}
use Rattle.std.specs.List.{AllByRecursion}
use Rattle.std.specs.List.Sorted.{IsPartitionedBy, IsPartitionPoint}
use Rattle.list_laws.specs.Stretch.{Rises, drop_while, take_until}
use Rattle.list_laws.proofs.Bools.{not_true}

module _ {X Y : Type 0} (seen : X → Y) where
  none_later : (p : Y → Bool) (xs : List X) (j : ℕ) (d : X)
      → AllByRecursion (λ y. not (p y) ≡ true) (map seen xs) → j < length xs
      → p (seen (get_or xs j d)) ≡ false
  none_later p [] j d h lt = absurd (omega (arith, lt))
  none_later p (x ∷ xs) zero d h lt = not_true (p (seen x)) h.0
  none_later p (x ∷ xs) (suc j) d h lt = none_later p xs j d h.1 (omega (arith, lt))

  first_case : (p : Y → Bool) (x : X) (xs : List X) (j : ℕ) (d : X)
      → Rises (λ y. not (p y)) (map seen (x ∷ xs)) → j < length xs
      → p (seen (get_or xs j d)) ≡ true → (b : Bool) → p (seen x) ≡ b → b ≡ true
  first_case p x xs j d r lt e true h = refl
  first_case p x xs j d r lt e false h =
      let no : p (seen (get_or xs j d)) ≡ false = none_later p xs j d (r.0 (ap not h)) lt in
      absurd (cc)

  -- none that passes stands behind one that fails
  pub first_pass : (p : Y → Bool) (xs : List X) → Rises (λ y. not (p y)) (map seen xs)
      → IsPartitionedBy (λ x. p (seen x)) xs
  first_pass p [] r i j d le lt h = absurd (omega (arith, lt))
  first_pass p (x ∷ xs) r zero zero d le lt h = h
  first_pass p (x ∷ xs) r zero (suc j) d le lt h =
      first_case p x xs j d r (omega (arith, lt)) h (p (seen x)) refl
  first_pass p (x ∷ xs) r (suc i) zero d le lt h = absurd (omega (arith, le))
  first_pass p (x ∷ xs) r (suc i) (suc j) d le lt h =
      first_pass p xs r.1 i j d (omega (arith, le)) (omega (arith, lt)) h

  abbrev Splits : (Y → Bool) → List X → ℕ → Type 0
  Splits p xs i =
      IsPartitionPoint (λ x. p (seen x) ≡ true) (λ x. p (seen x) ≡ false) xs i

  later_splits : (p : Y → Bool) (x : X) (xs : List X) (i : ℕ) → Splits p (x ∷ xs) (suc i)
      → Splits p xs i
  later_splits p x xs i s = (
    λ k d le lt. s.0 (suc k) d (omega arith) (omega (arith, lt)),
    λ k d le lt. s.1 (suc k) d (omega (arith, le)) (omega (arith, lt)),
  )

  -- what is skipped ends there
  pub dropped_at : (p : Y → Bool) (xs : List X) (i : ℕ) → Splits p xs i
      → map seen (drop i xs) ≡ drop_while p (map seen xs)
  dropped_at p [] zero s = refl
  dropped_at p [] (suc i) s = refl
  dropped_at p (x ∷ xs) zero s =
      let fails : p (seen x) ≡ false = s.1 0 x (omega arith) (omega arith) in rw fails refl
  dropped_at p (x ∷ xs) (suc i) s =
      let passes : p (seen x) ≡ true = s.0 0 x (omega arith) (omega arith) in
      rw passes (dropped_at p xs i (later_splits p x xs i s))

  -- what is taken ends there
  pub taken_at : (p : Y → Bool) (xs : List X) (i : ℕ) → Splits (λ y. not (p y)) xs i
      → map seen (take i xs) ≡ take_until p (map seen xs)
  taken_at p [] zero s = refl
  taken_at p [] (suc i) s = refl
  taken_at p (x ∷ xs) zero s =
      let past : p (seen x) ≡ true = not_false (p (seen x)) (s.1 0 x (omega arith) (omega arith)) in
      rw past refl
    where
      not_false : (b : Bool) → not b ≡ false → b ≡ true
      not_false true h = refl
      not_false false h = absurd (cc)
  taken_at p (x ∷ xs) (suc i) s =
      let stays : p (seen x) ≡ false = not_true _ (s.0 0 x (omega arith) (omega arith)) in
      rw stays (ap (λ l. seen x ∷ l) (taken_at p xs i (later_splits (λ y. not (p y)) x xs i s)))

not_not : (b : Bool) → not (not b) ≡ b
not_not true = refl
not_not false = refl

-- a test that rises is one whose denial falls
pub Rises-denied : {X : Type 0} (p : X → Bool) (xs : List X) → Rises p xs
    → Rises (λ x. not (not (p x))) xs
Rises-denied p [] h = tt
Rises-denied p (x ∷ xs) h = (
  λ e. all_denied xs (h.0 (sym (not_not (p x)) ∙ e)),
  Rises-denied p xs h.1,
)
  where
    all_denied : (ys : List _) → AllByRecursion (λ y. p y ≡ true) ys
        → AllByRecursion (λ y. not (not (p y)) ≡ true) ys
    all_denied [] k = tt
    all_denied (y ∷ ys) k = (not_not (p y) ∙ k.0, all_denied ys k.1)

-- a test rises along the end of a list along which it rises
pub Rises-drop_while : {X : Type 0} (p q : X → Bool) (xs : List X) → Rises q xs
    → Rises q (drop_while p xs)
Rises-drop_while p q [] h = tt
Rises-drop_while p q (x ∷ xs) h =
    elim (p x) as (λ b. Rises q (cond b (drop_while p xs) (x ∷ xs))) [
      | true ↦ Rises-drop_while p q xs h.1
      | false ↦ h
    ]
