-- Plans mean their statements: the rows of the loops, and their order.
use Rattle.std.specs.Ordering.{ordering_then, then_cmp}
use Rattle.std.specs.declared.cmp.Ordering.{Ordering}
use Rattle.std.specs.declared.cmp.Ordering.TheVariants.{Less, Equal as Ties, Greater}
use Rattle.std.specs.List.{AllByRecursion}
use Rattle.std.specs.Cmp.{IsTotalOrder}
use Rattle.std.proofs.Common.{◌≡◌, refl, List, [], ◌∷◌, ◌++◌, ap, ◌∙◌, Bool, ◌≢◌, ℕ, Option, sym}
use Rattle.std.proofs.Common.{subst, ◌<◌, true, map, length, false, cond, not, fold}
use Rattle.std.proofs.lemmas.Cmp.{on_total, then_total, nat_cmp_total}
use Rattle.std.proofs.lemmas.List.Folds.{fold_stays}
use Rattle.list_laws.specs.Order.{Ascends, sort_by}
use Rattle.list_laws.specs.Nest.{place, nested, Distinct, Inside}
use Rattle.std.specs.List.Sorted.{IsPermutation}
use Rattle.std.proofs.lemmas.List.Sorted.{IsPermutation-refl, IsPermutation-trans}
use Rattle.list_laws.proofs.Lists.{all_always}
use Rattle.list_laws.proofs.NestOrders.{ascends_same}
use Rattle.list_laws.proofs.Nests.{inside_place, distinct_reorders, all_reorders}
use Rattle.list_laws.proofs.Orders.{Ascends-sort_by}
use Rattle.list_laws.proofs.Permuted.{IsPermutation-sort_by}
use Rattle.sql_meaning.specs.Values.{Value}
use Rattle.sql_meaning.specs.Rows.{Assignment, Row}
use Rattle.sql_meaning.specs.Statements.{SortKey, Bound, no_rows}
use Rattle.sql_meaning.specs.Orders.{key_cmp, by_keys}
use Rattle.sql_meaning.specs.Schemas.{Schema, Database}
use Rattle.sql_meaning.specs.Plans.{Loop, loop_walk, step_of, steps_of, Plan, plan_walks}
use Rattle.sql_meaning.specs.Plans.{consumed_by}
use Rattle.sql_meaning.specs.Offers.{loop_items, FitsOffers}
use Rattle.sql_meaning.specs.OrderState.{Passing, Loses, Leaves, loop_passes, Lost}
use Rattle.sql_meaning.specs.OrderState.{pass_loop, state_after, state, is_done, is_backward}
use Rattle.sql_meaning.specs.OrderState.{directions_from, directions, FitsOrder}
use Rattle.sql_meaning.specs.Evaluation.{ev}
use Rattle.sql_meaning.specs.PlanLaws.{LoopsGiveTheRows, PlansGiveTheOrder, OfferedPlansMean}
use Rattle.sql_meaning.specs.Asked.{Means}
use Rattle.sql_meaning.proofs.Databases.{IsDatabase, database_for}
use Rattle.sql_meaning.proofs.Plans.{steps_items}
use Rattle.sql_meaning.proofs.PassedLoops.{IsLoopPassed, loop_passed}
use Rattle.sql_meaning.proofs.Ordered.{nested_ends, nested_passes}
use Rattle.sql_meaning.proofs.Order.{value_cmp_total}
use Rattle.sql_meaning.proofs.Seeks.{directed_total}
use Rattle.sql_meaning.proofs.PlanRows.{numbers_distinct, numbers_inside, plan_rows}

then_assoc : (a b c : Ordering)
    → ordering_then a (ordering_then b c) ≡ ordering_then (ordering_then a b) c
then_assoc Less b c = refl
then_assoc Ties b c = refl
then_assoc Greater b c = refl

by_append : (params : List Value) (ks ls : List SortKey) (a b : Assignment)
    → by_keys params (ks ++ ls) a b ≡ ordering_then (by_keys params ks a b) (by_keys params ls a b)
by_append params [] ls a b = refl
by_append params (k ∷ ks) ls a b =
    ap (ordering_then (key_cmp params k a b)) (by_append params ks ls a b)
    ∙ then_assoc (key_cmp params k a b) (by_keys params ks a b) (by_keys params ls a b)

append_none : (ks : List SortKey) → ks ++ [] ≡ ks
append_none [] = refl
append_none (k ∷ ks) = ap (λ zs. k ∷ zs) (append_none ks)

ascends_always : (params : List Value) (xs : List Assignment) → Ascends (by_keys params []) xs
ascends_always params [] = tt
ascends_always params (x ∷ xs) = (all_always _ xs (λ y. refl), ascends_always params xs)

cons_parts : (a b : Bool) (xs ys : List Bool) → a ∷ xs ≡ b ∷ ys → (a ≡ b) × (xs ≡ ys)
cons_parts a b xs ys e = (cc, cc)

-- one loop, by what it leaves
loop_ordered : (schema : Schema) (database : Database) (bound : Bound) (params : List Value)
    (consumed placed : List ℕ) (l : Loop) (ls : List Loop)
    (env : Assignment) (keys left : List SortKey)
    → AllByRecursion (λ j. j ≢ l.item) (loop_items ls)
    → IsLoopPassed params env l.item
    (loop_walk schema database bound params consumed placed l env) keys left
    → ((x : Option Row)
    → Ascends (by_keys params left)
    (nested (steps_of schema database bound params consumed (l.item ∷ placed) ls)
    (place env l.item x)))
    → Ascends (by_keys params keys)
    (nested (steps_of schema database bound params consumed placed (l ∷ ls)) env)
loop_ordered schema database bound params consumed placed l ls env keys [] n i later =
    subst
    (λ (ks : List SortKey). Ascends (by_keys params ks)
    (nested (steps_of schema database bound params consumed placed (l ∷ ls)) env))
    (sym (i.is ∙ append_none i.passed))
    (nested_ends params i.passed (step_of schema database bound params consumed placed l)
    (steps_of schema database bound params consumed (l.item ∷ placed) ls) env
    (subst (AllByRecursion (λ j. j ≢ l.item))
    (sym (steps_items schema database bound params consumed (l.item ∷ placed) ls)) n) i.own
    i.rises)
loop_ordered schema database bound params consumed placed l ls env keys (m ∷ ms) n i later =
    ascends_same (then_cmp (by_keys params i.passed) (by_keys params (m ∷ ms)))
    (by_keys params keys)
    (nested (steps_of schema database bound params consumed placed (l ∷ ls)) env)
    (λ a b. ap (λ ks. by_keys params ks a b) i.is ∙ by_append params i.passed (m ∷ ms) a b)
    (nested_passes params i.passed (m ∷ ms)
    (step_of schema database bound params consumed placed l)
    (steps_of schema database bound params consumed (l.item ∷ placed) ls) env
    (subst (AllByRecursion (λ j. j ≢ l.item))
    (sym (steps_items schema database bound params consumed (l.item ∷ placed) ls)) n) i.own
    (i.strictly (λ e. cc)) later)

passing_case : (schema : Schema) (database : Database) (bound : Bound) (params : List Value)
    (consumed placed : List ℕ) (l : Loop) (ls : List Loop)
    (env : Assignment) (keys : List SortKey)
    → IsDatabase schema bound database → l.item < length env
    → AllByRecursion (λ j. j ≢ l.item) (loop_items ls)
    → ((left : List SortKey) → is_done (state schema bound ls left) ≡ true
    → map (λ l. l.reverse) ls ≡ directions schema bound ls left → (x : Option Row)
    → Ascends (by_keys params left)
    (nested (steps_of schema database bound params consumed (l.item ∷ placed) ls)
    (place env l.item x)))
    → (p : Passing) → loop_passes schema bound l keys ≡ p
    → is_done (fold (pass_loop schema bound) (state_after p) ls) ≡ true
    → l.reverse ∷ map (λ l. l.reverse) ls
    ≡ is_backward p ∷ directions_from schema bound (state_after p) ls
    → Ascends (by_keys params keys)
    (nested (steps_of schema database bound params consumed placed (l ∷ ls)) env)
passing_case schema database bound params consumed placed l ls env keys valid lt n ih Loses e h d
    = absurd
    (let lost : fold (pass_loop schema bound) Lost ls ≡ Lost =
    fold_stays (pass_loop schema bound) Lost (λ loop. refl) ls in
    let no : false ≡ true = sym (ap is_done lost) ∙ h in cc)
passing_case schema database bound params consumed placed l ls env keys valid lt n ih
    (Leaves left out) e h d =
    let parts =
    cons_parts l.reverse (is_backward (Leaves left out)) (map (λ l. l.reverse) ls)
    (directions schema bound ls left) d in
    loop_ordered schema database bound params consumed placed l ls env keys left n
    (loop_passed schema database bound params consumed placed l env keys left out valid lt parts.0
    e) (ih left h parts.1)

-- loops whose state is done, each walked in its direction, find their assignments in the order of
-- the keys, with no sort
pub nested_ordered : (schema : Schema) (database : Database) (bound : Bound)
    (params : List Value) (consumed placed : List ℕ) (loops : List Loop) (keys : List SortKey)
    (env : Assignment)
    → IsDatabase schema bound database → Inside (loop_items loops) env → Distinct (loop_items loops)
    → is_done (state schema bound loops keys) ≡ true
    → map (λ l. l.reverse) loops ≡ directions schema bound loops keys
    → Ascends (by_keys params keys)
    (nested (steps_of schema database bound params consumed placed loops) env)
nested_ordered schema database bound params consumed placed loops [] env valid inside distinct h d
    = ascends_always params _
nested_ordered schema database bound params consumed placed [] (k ∷ ks) env valid inside distinct
    h d = absurd (cc)
nested_ordered schema database bound params consumed placed (l ∷ ls) (k ∷ ks) env valid inside
    distinct h d =
    passing_case schema database bound params consumed placed l ls env
    (k ∷ ks) valid inside.0 distinct.0
    (λ left g e x. nested_ordered schema database bound params consumed (l.item ∷ placed) ls left
    (place env l.item x) valid (inside_place env l.item x (loop_items ls) inside.1) distinct.1 g e)
    (loop_passes schema bound l (k ∷ ks)) refl h d

-- the order of the keys is a total preorder
pub by_keys_total : (params : List Value) (ks : List SortKey) → IsTotalOrder (by_keys params ks)
by_keys_total params [] = on_total (λ a. 0) nat_cmp_total
by_keys_total params (k ∷ ks) =
    then_total
    (on_total (λ a. ev a params k.expr) (directed_total k.falling (value_cmp_total k.collation)))
    (by_keys_total params ks)

uncut_permutes : (schema : Schema) (database : Database) (plan : Plan) (params : List Value)
    (b : Bool)
    → IsPermutation
    (cond b (sort_by (by_keys params plan.bound.keys) (plan_walks schema database plan params))
    (plan_walks schema database plan params)) (plan_walks schema database plan params)
uncut_permutes schema database plan params true =
    IsPermutation-sort_by (by_keys params plan.bound.keys) (plan_walks schema database plan params)
uncut_permutes schema database plan params false =
    IsPermutation-refl (plan_walks schema database plan params)

uncut_ordered : (schema : Schema) (database : Database) (plan : Plan) (params : List Value)
    → IsDatabase schema plan.bound database → FitsOffers schema plan → FitsOrder schema plan
    → (b : Bool) → plan.sort ≡ b → (d : Bool)
    → is_done (state schema plan.bound plan.loops plan.bound.keys) ≡ d
    → Ascends (by_keys params plan.bound.keys)
    (cond b (sort_by (by_keys params plan.bound.keys) (plan_walks schema database plan params))
    (plan_walks schema database plan params))
uncut_ordered schema database plan params valid fits order true e d g =
    Ascends-sort_by (by_keys_total params plan.bound.keys) (plan_walks schema database plan params)
uncut_ordered schema database plan params valid fits order false e true g =
    nested_ordered schema database plan.bound params
    (consumed_by plan.loops) [] plan.loops plan.bound.keys (no_rows plan.bound) valid
    (all_reorders _ _ _ fits.once (numbers_inside plan.bound))
    (distinct_reorders _ _ fits.once (numbers_distinct 0 (length plan.bound.items))) g
    (order.reverses g)
uncut_ordered schema database plan params valid fits order false e false g =
    absurd (let no : false ≡ true = sym e ∙ order.sorts ∙ ap not g in cc)

pub loops_give_the_rows : LoopsGiveTheRows
loops_give_the_rows = λ schema plan fits database valid params.
    plan_rows schema plan fits database (database_for schema plan.bound database valid) params

pub plans_give_the_order : PlansGiveTheOrder
plans_give_the_order = λ schema plan fits order database valid params.
    uncut_ordered schema database plan params (database_for schema plan.bound database valid) fits
    order plan.sort refl (is_done (state schema plan.bound plan.loops plan.bound.keys)) refl

-- a sort only moves rows, and loops that give the order need none
pub offered_plans_mean : OfferedPlansMean
unfolding Means
offered_plans_mean = λ schema plan fits order database valid params values. record {
  permutes =
      IsPermutation-trans _ _ _ (uncut_permutes schema database plan params plan.sort)
      (plan_rows schema plan fits database (database_for schema plan.bound database valid) params);
  ordered = plans_give_the_order schema plan fits order database valid params;
}
