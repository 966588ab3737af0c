-- Classes of a list in order are counted where one ends and the next begins.
use Rattle.std.specs.Ordering.{is_le, is_eq}
use Rattle.std.specs.declared.cmp.Ordering.{Ordering}
use Rattle.std.specs.Cmp.{IsTotalOrder, IsEquivalence}
use Rattle.std.proofs.Common.{◌≡◌, Bool, true, false, List, [], ◌∷◌, ℕ, ◌+◌, suc, cond, refl, arith}
use Rattle.std.proofs.Common.{ap, ◌∙◌, sym, ◌||◌, length}
use Rattle.std.proofs.Math.Bool.{or-true}
use Rattle.list_laws.specs.Order.{Ascends, insert_by, sort_by}
use Rattle.list_laws.specs.FirstComing.{keep_first, has, dedup_behind}
use Rattle.list_laws.proofs.Bools.{or_turn}
use Rattle.list_laws.proofs.Neighbors.{kept_in_order}
use Rattle.stat_figures.specs.Changes.{changes, begins}

-- Kept members depend on what was seen only by what is the same.
module _ {X : Type 0} (E : X → X → Bool) where
  abbrev Alike : List X → List X → Type 0
  Alike s t = (z : X) → has E s z ≡ has E t z

  more_alike : (x : X) (s t : List X) → Alike s t → Alike (x ∷ s) (x ∷ t)
  more_alike x s t a z = ap (λ b. E x z || b) (a z)

  kept_alike : (xs s t : List X) → Alike s t → keep_first E s xs ≡ keep_first E t xs
  kept_alike [] s t a = refl
  kept_alike (x ∷ xs) s t a =
      rw (a x, kept_alike xs s t a, kept_alike xs (x ∷ s) (x ∷ t) (more_alike x s t a)) refl

module _ {X : Type 0} (E : X → X → Bool) (e : IsEquivalence E) where
  same_alike : (x y : X) (s : List X) → E x y ≡ true → Alike E (x ∷ s) (y ∷ s)
  same_alike x y s h z = ap (λ b. b || has E s z) (e.congr x y z h)

  turned_alike : (x y : X) (s : List X) → Alike E (x ∷ y ∷ s) (y ∷ x ∷ s)
  turned_alike x y s z = or_turn (E x z) (E y z) (has E s z)

  -- two members change places
  swap_case : (x y : X) (xs s : List X) (hx hy same : Bool) → has E s x ≡ hx → has E s y ≡ hy
      → E x y ≡ same
      → length (keep_first E s (x ∷ y ∷ xs)) ≡ length (keep_first E s (y ∷ x ∷ xs))
  swap_case x y xs s true true same p q r = rw (p, q) refl
  swap_case x y xs s true false same p q r = rw (p, q, or-true (E y x)) refl
  swap_case x y xs s false true same p q r = rw (p, q, or-true (E x y)) refl
  swap_case x y xs s false false true p q r =
      let back : E y x ≡ true = sym (e.symm x y) ∙ r in
      rw (p, q, r, back)
      (ap (λ l. suc (length l)) (kept_alike E xs (x ∷ s) (y ∷ s) (same_alike x y s r)))
  swap_case x y xs s false false false p q r =
      let back : E y x ≡ false = sym (e.symm x y) ∙ r in
      rw (p, q, r, back)
      (ap (λ l. suc (suc (length l)))
      (kept_alike E xs (y ∷ x ∷ s) (x ∷ y ∷ s) (turned_alike y x s)))

  abbrev count : List X → List X → ℕ
  count s xs = length (keep_first E s xs)

  under_head : (y : X) (us vs s : List X) → ((t : List X) → count t us ≡ count t vs)
      → count s (y ∷ us) ≡ count s (y ∷ vs)
  under_head y us vs s h = go (has E s y)
    where
      go : (b : Bool) → length (cond b (keep_first E s us) (y ∷ keep_first E (y ∷ s) us))
          ≡ length (cond b (keep_first E s vs) (y ∷ keep_first E (y ∷ s) vs))
      go true = h s
      go false = ap (λ n. suc n) (h (y ∷ s))

  insert_case : (cmp : X → X → Ordering) (x y : X) (ys s : List X)
      → ((t : List X) → count t (insert_by cmp x ys) ≡ count t (x ∷ ys)) → (b : Bool)
      → count s (cond b (x ∷ y ∷ ys) (y ∷ insert_by cmp x ys)) ≡ count s (x ∷ y ∷ ys)
  insert_case cmp x y ys s ih true = refl
  insert_case cmp x y ys s ih false =
      under_head y (insert_by cmp x ys) (x ∷ ys) s ih
      ∙ swap_case y x ys s (has E s y) (has E s x) (E y x) refl refl refl

  insert_count : (cmp : X → X → Ordering) (x : X) (xs s : List X)
      → count s (insert_by cmp x xs) ≡ count s (x ∷ xs)
  insert_count cmp x [] s = refl
  insert_count cmp x (y ∷ ys) s =
      insert_case cmp x y ys s (insert_count cmp x ys) (is_le (cmp x y))

  -- a sort keeps the number of classes
  pub sort_count : (cmp : X → X → Ordering) (xs s : List X)
      → count s (sort_by cmp xs) ≡ count s xs
  sort_count cmp [] s = refl
  sort_count cmp (x ∷ xs) s =
      insert_count cmp x (sort_by cmp xs) s
      ∙ under_head x (sort_by cmp xs) xs s (sort_count cmp xs)

module _ {X : Type 0} (R : X → X → Ordering) (total : IsTotalOrder R) (E : X → X → Bool)
    (same : (x y : X) → E x y ≡ is_eq (R x y)) where
  begin_case : (x y : X) (ys : List X) (b : Bool)
      → length (y ∷ dedup_behind E y ys) ≡ begins E (y ∷ ys)
      → length (x ∷ cond b (dedup_behind E y ys) (y ∷ dedup_behind E y ys))
      ≡ 1 + (cond b 0 1 + changes E y ys)
  begin_case x y ys true h = omega (arith, h)
  begin_case x y ys false h = omega (arith, h)

  -- where a list in order changes, a class begins
  kept_begin : (x : X) (xs : List X) → length (x ∷ dedup_behind E x xs) ≡ begins E (x ∷ xs)
  kept_begin x [] = refl
  kept_begin x (y ∷ ys) = begin_case x y ys (E x y) (kept_begin y ys)

  -- of a list in order
  pub classes_in_order : (xs : List X) → Ascends R xs → length (keep_first E [] xs) ≡ begins E xs
  classes_in_order [] up = refl
  classes_in_order (x ∷ xs) up =
      ap length (sym (kept_in_order R total E same x xs up)) ∙ kept_begin x xs
