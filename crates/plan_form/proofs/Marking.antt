-- Marks of numbers.
use Rattle.std.proofs.Common.{◌≡◌, ◌<◌, ℕ, zero, suc, Bool, true, false, ◌||◌, ◌==◌, List, [], ◌∷◌, ◌++◌}
use Rattle.std.proofs.Common.{refl, ap, sym, ◌∙◌, length, get_or, set, arith, take, ◌+◌, subst}
use Rattle.std.proofs.Common.{append_assoc}
use Rattle.std.proofs.lemmas.List.{take_more}
use Rattle.std.proofs.lemmas.Bool.{eqb-true, eq-eqb}
use Rattle.std.specs.Prelude.{replicate}
use Rattle.list_laws.proofs.Bools.{alike}
use Rattle.sql_meaning.specs.Statements.{has_number}
use Rattle.bound_rows.specs.Levels.{Marks}

none_marked : (n k : ℕ) → get_or (replicate n false) k false ≡ false
none_marked zero k = refl
none_marked (suc n) zero = refl
none_marked (suc n) (suc k) = none_marked n k

pub no_marks : (n : ℕ) → Marks (replicate n false) []
no_marks n = record { each = λ k. sym (none_marked n k) }

different : (a b : ℕ) → (a ≡ b → ⊥) → (a == b) ≡ false
different a b h = not_case (a == b) (λ t. h (eqb-true a b t))
  where
    not_case : (c : Bool) → (c ≡ true → ⊥) → c ≡ false
    not_case true f = absurd (f refl)
    not_case false f = refl

one_more : (k m : ℕ) → (k == m) ≡ (suc k == suc m)
one_more k m =
    alike (k == m) (suc k == suc m) (λ t. eq-eqb (suc k) (suc m) (ap suc (eqb-true k m t)))
    (λ t. let e : suc k ≡ suc m = eqb-true (suc k) (suc m) t in
    let less : k ≡ m = omega (arith, e) in eq-eqb k m less)

set_at : (marks : List Bool) (m k : ℕ) → m < length marks
    → get_or (set marks m true) k false ≡ ((k == m) || get_or marks k false)
set_at [] m k lt = absurd (omega (arith, lt))
set_at (b ∷ marks) zero zero lt = sym (ap (λ e. e || b) (eq-eqb 0 0 refl))
set_at (b ∷ marks) zero (suc k) lt =
    sym (ap (λ e. e || get_or marks k false) (different (suc k) 0 (λ e. absurd (omega (arith, e)))))
set_at (b ∷ marks) (suc m) zero lt =
    sym (ap (λ e. e || b) (different 0 (suc m) (λ e. absurd (omega (arith, e)))))
set_at (b ∷ marks) (suc m) (suc k) lt =
    let below : m < length marks = omega (arith, lt) in
    set_at marks m k below ∙ ap (λ e. e || get_or marks k false) (one_more k m)

has_end : (numbers : List ℕ) (m k : ℕ)
    → has_number k (numbers ++ m ∷ []) ≡ ((k == m) || has_number k numbers)
has_end [] m k = refl
has_end (n ∷ numbers) m k =
    ap (λ b. (k == n) || b) (has_end numbers m k) ∙ swap (k == n) (k == m) (has_number k numbers)
  where
    swap : (a b c : Bool) → (a || (b || c)) ≡ (b || (a || c))
    swap true true c = refl
    swap true false c = refl
    swap false b c = refl

pub marked_more : (marks new : List Bool) (numbers : List ℕ) (m : ℕ) → m < length marks
    → new ≡ set marks m true → Marks marks numbers → Marks new (numbers ++ m ∷ [])
marked_more marks new numbers m lt e h = record {
  each = λ k.
      has_end numbers m k ∙ ap (λ b. (k == m) || b) (h.each k) ∙ sym (set_at marks m k lt)
      ∙ ap (λ l. get_or l k false) (sym e);
}

replicate_suc : {X : Type 0} (n : ℕ) (x : X) → replicate (suc n) x ≡ replicate n x ++ x ∷ []
replicate_suc zero x = refl
replicate_suc (suc n) x = ap (λ l. x ∷ l) (replicate_suc n x)

pub replicate_more : {X : Type 0} (n : ℕ) (x : X) → replicate (n + 1) x ≡ replicate n x ++ x ∷ []
replicate_more n x =
    ap (λ m. replicate m x) (let s : n + 1 ≡ suc n = omega arith in s) ∙ replicate_suc n x

-- one number of a list further
pub marked_further : (marks new : List Bool) (before numbers : List ℕ) (i : ℕ)
    → i < length numbers → get_or numbers i 0 < length marks
    → new ≡ set marks (get_or numbers i 0) true → Marks marks (before ++ take i numbers)
    → Marks new (before ++ take (i + 1) numbers)
marked_further marks new before numbers i below lt e h =
    subst (λ (l : List ℕ). Marks new (before ++ l))
    (sym (take_more numbers i 0 below))
    (subst (λ (l : List ℕ). Marks new l)
    (append_assoc before (take i numbers) (get_or numbers i 0 ∷ []))
    (marked_more marks new (before ++ take i numbers) (get_or numbers i 0) lt e h))
