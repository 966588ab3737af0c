-- Of a list in order, the first comings are the members that differ from their neighbor.
use Rattle.std.specs.Ordering.{is_le, is_eq, ordering_reverse}
use Rattle.std.specs.declared.cmp.Ordering.{Ordering}
use Rattle.std.specs.declared.cmp.Ordering.TheVariants.{Less, Equal, Greater}
use Rattle.std.specs.Cmp.{IsTotalOrder, IsEquivalence}
use Rattle.std.proofs.Common.{◌≡◌, Bool, true, false, cond, List, [], ◌∷◌, refl, ap, sym, ◌∙◌, ◌||◌}
use Rattle.std.proofs.lemmas.Cmp.{tied_itself, alike_right, eq_by_cmp_equiv}
use Rattle.list_laws.specs.Order.{Ascends}
use Rattle.list_laws.specs.FirstComing.{keep_first, has, dedup_behind}
use Rattle.list_laws.proofs.FirstComings.{or_none}
use Rattle.list_laws.proofs.Orders.{eq_at, le_trans}

both_le : (o : Ordering) → is_le o ≡ true → is_le (ordering_reverse o) ≡ true → is_eq o ≡ true
both_le Less h k = k
both_le Equal h k = refl
both_le Greater h k = h

false_from : (a b : Bool) → (a ≡ true → b ≡ true) → b ≡ false → a ≡ false
false_from true b f h = let t = f refl in absurd (cc)
false_from false b f h = refl

-- members are the same where the order ties them
module _ {X : Type 0} (R : X → X → Ordering) (total : IsTotalOrder R) (E : X → X → Bool)
    (same : (x y : X) → E x y ≡ is_eq (R x y)) where
  pub equivalence : IsEquivalence E
  equivalence = record {
    refl = λ x. same x x ∙ ap is_eq (tied_itself total x);
    symm = λ x y. same x y ∙ (eq_by_cmp_equiv total).symm x y ∙ sym (same y x);
    congr = λ x y z h. same x z
        ∙ (eq_by_cmp_equiv total).congr x y z (sym (same x y) ∙ h) ∙ sym (same y z);
  }

  -- what stands between two that tie ties with them
  apart : (x y z : X) → is_le (R x y) ≡ true → is_le (R y z) ≡ true → E x z ≡ true → E x y ≡ true
  apart x y z low high tie =
      let at : R x z ≡ Equal = eq_at (R x z) (sym (same x z) ∙ tie) in
      let back : is_le (R y x) ≡ true = ap is_le (alike_right total x z y at) ∙ high in
      same x y ∙ both_le (R x y) low (ap is_le (sym (total.antisymm y x)) ∙ back)

  -- behind x nothing ties with what was seen but what ties with x
  abbrev Last : X → List X → Type 0
  Last x s = (z : X) → is_le (R x z) ≡ true → has E s z ≡ E x z

  more_case : (x y z : X) (s : List X) → Last x s → is_le (R x y) ≡ true → is_le (R y z) ≡ true
      → E x y ≡ false → (E y z || has E s z) ≡ E y z
  more_case x y z s h low high e =
      ap (λ b. E y z || b)
      (h z (le_trans total x y z low high) ∙ false_from (E x z) (E x y) (apart x y z low high) e)
      ∙ or_none (E y z)

  order_case : (x y : X) (ys s : List X) → Last x s → is_le (R x y) ≡ true
      → ((t : List X) → Last y t → keep_first E t ys ≡ dedup_behind E y ys) → (b : Bool) → E x y ≡ b
      → keep_first E s (y ∷ ys) ≡ cond b (dedup_behind E y ys) (y ∷ dedup_behind E y ys)
  order_case x y ys s h low ih true e =
      rw (h y low ∙ e) (ih s (λ z high. h z (le_trans total x y z low high)
      ∙ equivalence.congr x y z e))
  order_case x y ys s h low ih false e =
      rw (h y low ∙ e) (ap (λ l. y ∷ l) (ih (y ∷ s) (λ z high. more_case x y z s h low high e)))

  kept_behind : (x : X) (xs s : List X) → Last x s → Ascends R (x ∷ xs)
      → keep_first E s xs ≡ dedup_behind E x xs
  kept_behind x [] s h up = refl
  kept_behind x (y ∷ ys) s h up =
      order_case x y ys s h up.0.0 (λ t k. kept_behind y ys t k up.1) (E x y) refl

  pub kept_in_order : (x : X) (xs : List X) → Ascends R (x ∷ xs)
      → x ∷ dedup_behind E x xs ≡ keep_first E [] (x ∷ xs)
  kept_in_order x xs up =
      ap (λ l. x ∷ l) (sym (kept_behind x xs (x ∷ []) (λ z high. or_none (E x z)) up))
