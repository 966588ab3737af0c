-- What fits a schema is what the laws of plans speak of.
use Rattle.std.proofs.Common.{◌≡◌, ◌<◌, ◌≤◌, ◌+◌, ◌==◌, ◌||◌, ℕ, zero, suc, Bool, true, false}
use Rattle.std.proofs.Common.{List, [], ◌∷◌, ◌++◌, refl, ap, arith, length}
use Rattle.std.proofs.lemmas.Bool.{eq-eqb}
use Rattle.list_laws.proofs.Bools.{and_left, and_right, both_true}
use Rattle.list_laws.proofs.Lists.{all_map}
use Rattle.sql_meaning.specs.Schemas.{Schema}
use Rattle.sql_meaning.specs.Items.{Item}
use Rattle.sql_meaning.specs.Expressions.{BExpr, BExprs, Lit, Param, Column, Rowid, Plus, Collate}
use Rattle.sql_meaning.specs.Expressions.{Cmp, OneOf, Like, IsNull, Not, All, Any, Nil, More}
use Rattle.sql_meaning.specs.Expressions.{names, all_names}
use Rattle.sql_meaning.specs.Statements.{all_in, has_number, numbers_from}
use Rattle.sql_bound.specs.Fits.{NamesExist, AllNamesExist, FittingArePlannable}

in_numbers : (item start count : ℕ) → start ≤ item → item < start + count
    → has_number item (numbers_from start count) ≡ true
in_numbers item start zero le lt = absurd (omega arith)
in_numbers item start (suc n) le lt =
    first (λ apart. in_numbers item (start + 1) n (above item start le apart) (omega arith))
    (item == start) refl
  where
    above : (item start : ℕ) → start ≤ item → (item ≡ start → ⊥) → start + 1 ≤ item
    above item start le apart = omega (arith, apart)

    first : ((item ≡ start → ⊥) → has_number item (numbers_from (start + 1) n) ≡ true)
        → (b : Bool) → (item == start) ≡ b
        → (b || has_number item (numbers_from (start + 1) n)) ≡ true
    first later true e = refl
    first later false e =
        later (λ same. let yes : (item == start) ≡ true = eq-eqb item start same in cc)

-- names of items below a count alone
abbrev Below : ℕ → List ℕ → Type 0
Below count ns = all_in ns (numbers_from 0 count) ≡ true

both : (count : ℕ) (xs ys : List ℕ) → Below count xs → Below count ys → Below count (xs ++ ys)
both count [] ys h k = k
both count (x ∷ xs) ys h k =
    both_true _ _ (and_left (has_number x (numbers_from 0 count)) _ h)
    (both count xs ys (and_right (has_number x (numbers_from 0 count)) _ h) k)

only : (item count : ℕ) → item < count → Below count (item ∷ [])
only item count lt =
    both_true _ _ (in_numbers item 0 count (omega arith) (omega arith)) refl

mutual
  named : (schema : Schema) (items : List Item) (e : BExpr) → NamesExist schema items e
      → Below (length items) (names e)
  named schema items (Lit v) h = refl
  named schema items (Param number) h = refl
  named schema items (Column item column) h = only item (length items) h.0
  named schema items (Rowid item) h = only item (length items) h
  named schema items (Plus e) h = named schema items e h
  named schema items (Collate e collation) h = named schema items e h
  named schema items (Cmp op left right lc rc collation) h =
      both (length items) (names left) _ (named schema items left h.0)
      (named schema items right h.1)
  named schema items (OneOf negated left entries ec collation) h =
      both (length items) (names left) _ (named schema items left h.0)
      (all_named schema items entries h.1)
  named schema items (Like negated e pattern) h =
      both (length items) (names e) _ (named schema items e h.0) (named schema items pattern h.1)
  named schema items (IsNull negated e) h = named schema items e h
  named schema items (Not e) h = named schema items e h
  named schema items (All es) h = all_named schema items es h
  named schema items (Any es) h = all_named schema items es h

  all_named : (schema : Schema) (items : List Item) (es : BExprs) → AllNamesExist schema items es
      → Below (length items) (all_names es)
  all_named schema items Nil h = refl
  all_named schema items (More e es) h =
      both (length items) (names e) _ (named schema items e h.0) (all_named schema items es h.1)

pub fitting_are_plannable : FittingArePlannable
fitting_are_plannable = λ schema bound needs fits. record {
  fits = all_map _ _ bound.conjuncts (λ c s. s.conversions) fits.conjuncts;
  some = λ e. omega (arith, fits.some_item, ap length e);
  named = all_map _ _ bound.conjuncts (λ c s. named schema bound.items c.expr s.names)
      fits.conjuncts;
  owners = fits.owners;
}
