-- Of numbers in order, those that differ from the one before are the first comings.
use Rattle.std.specs.Ordering.{nat_cmp, eq_by_cmp, is_eq}
use Rattle.std.specs.declared.cmp.Ordering.TheVariants.{Less, Equal, Greater}
use Rattle.std.specs.List.{dedup, dedup_from}
use Rattle.std.proofs.Common.{◌≡◌, ◌==◌, ◌<◌, ℕ, Bool, true, false, cond, List, [], ◌∷◌, refl, ap}
use Rattle.std.proofs.Common.{◌∙◌, sym, nat_lt, nat_eq, arith}
use Rattle.std.proofs.lemmas.Bool.{eqb-true, eq-eqb, ltb-true}
use Rattle.std.proofs.lemmas.Cmp.{nat_cmp_total}
use Rattle.list_laws.specs.Order.{Ascends}
use Rattle.list_laws.specs.FirstComing.{keep_first, dedup_behind}
use Rattle.list_laws.proofs.Neighbors.{kept_in_order}

less_case : (x y : ℕ) (less same : Bool) → nat_lt x y ≡ less → (x == y) ≡ same
    → is_eq (cond less Less (cond same Equal Greater)) ≡ same
less_case x y true true l e =
    let below : x < y = ltb-true x y l in
    let one : x ≡ y = eqb-true x y e in absurd (omega arith)
less_case x y true false l e = refl
less_case x y false true l e = refl
less_case x y false false l e = refl

same_is : (x y : ℕ) → eq_by_cmp nat_cmp x y ≡ (x == y)
same_is x y = less_case x y (nat_lt x y) (x == y) refl refl

turned_case : (x y : ℕ) (same : Bool) → (x == y) ≡ same → (y == x) ≡ same
turned_case x y true e = eq-eqb y x (sym (eqb-true x y e))
turned_case x y false e = apart (y == x) refl
  where
    apart : (b : Bool) → (y == x) ≡ b → b ≡ false
    apart true h = let yes : (x == y) ≡ true = eq-eqb x y (sym (eqb-true y x h)) in cc
    apart false h = refl

step_case : (k y : ℕ) (ys : List ℕ) (same : Bool) → (k == y) ≡ same
    → k ∷ dedup_behind (eq_by_cmp nat_cmp) k ys ≡ dedup_from nat_eq k ys
    → y ∷ dedup_behind (eq_by_cmp nat_cmp) y ys ≡ dedup_from nat_eq y ys
    → k ∷ dedup_behind (eq_by_cmp nat_cmp) k (y ∷ ys) ≡ dedup_from nat_eq k (y ∷ ys)
step_case k y ys true e here later =
    rw (same_is k y, e, turned_case k y true e)
    (ap (λ n. k ∷ dedup_behind (eq_by_cmp nat_cmp) n ys) (sym (eqb-true k y e)) ∙ here)
step_case k y ys false e here later =
    rw (same_is k y, e, turned_case k y false e) (ap (λ l. k ∷ l) later)

behind_is : (k : ℕ) (xs : List ℕ)
    → k ∷ dedup_behind (eq_by_cmp nat_cmp) k xs ≡ dedup_from nat_eq k xs
behind_is k [] = refl
behind_is k (y ∷ ys) = step_case k y ys (k == y) refl (behind_is k ys) (behind_is y ys)

pub each_once : (xs : List ℕ) → Ascends nat_cmp xs
    → dedup nat_eq xs ≡ keep_first (eq_by_cmp nat_cmp) [] xs
each_once [] up = refl
each_once (x ∷ xs) up =
    sym (behind_is x xs) ∙ kept_in_order nat_cmp nat_cmp_total (eq_by_cmp nat_cmp) (λ a b. refl) x xs up
