-- The loops of a plan find its statement's rows, each as often.
use Rattle.std.specs.List.{slice_get, AllByRecursion}
use Rattle.std.proofs.Common.{◌≡◌, ℕ, Bool, true, false, cond, not, List, refl, ap, sym, ◌∙◌, []}
use Rattle.std.proofs.Common.{◌∷◌, Option, Some, None, ◌≢◌, suc, zero, subst, ◌+◌, ◌≤◌, arith, ◌<◌}
use Rattle.std.proofs.Common.{length}
use Rattle.std.specs.List.Sorted.{IsPermutation}
use Rattle.std.proofs.lemmas.Bool.{eqb-true}
use Rattle.std.proofs.lemmas.List.{length-replicate}
use Rattle.std.proofs.lemmas.List.Elements.{filter_agree}
use Rattle.list_laws.specs.Nest.{Distinct, Inside, product, step_items, Rearranges}
use Rattle.list_laws.proofs.Bools.{cond_same, or_cases}
use Rattle.list_laws.proofs.Lists.{all_from_at, all_map}
use Rattle.list_laws.proofs.Nests.{join_law, distinct_reorders}
use Rattle.sql_meaning.specs.Values.{Value}
use Rattle.sql_meaning.specs.Rows.{Row}
use Rattle.sql_meaning.specs.Schemas.{Schema, Database}
use Rattle.sql_meaning.specs.Statements.{Bound, is_left, owned_by, is_common, chosen_hold}
use Rattle.sql_meaning.specs.Statements.{has_number, no_owner, Conjunct, numbers_from, no_rows}
use Rattle.sql_meaning.specs.Statements.{choices, statement_rows}
use Rattle.sql_meaning.specs.Plans.{Loop, steps_of, consumed_by, Plan, plan_walks}
use Rattle.sql_meaning.specs.UsedTerms.{Used, Consumes}
use Rattle.sql_meaning.specs.Offers.{AreOffers, loop_items, FitsOffers}
use Rattle.sql_meaning.specs.Conjuncts.{may_serve}
use Rattle.sql_meaning.proofs.Databases.{IsDatabase}
use Rattle.sql_meaning.proofs.KeptLoops.{asked_by, Ours, are_steps}
use Rattle.sql_meaning.proofs.Plans.{has_all, steps_items}
use Rattle.sql_meaning.proofs.Terms.{some_is}
use Rattle.sql_meaning.proofs.Means.{sound, has_append, consumed_served, settles}

-- a number that is consumed is consumed by some loop
pub record IsConsumedAt (loops : List Loop) (number : ℕ) : Type 0 where
  pub at : ℕ
  pub loop : Loop
  pub is : slice_get loops at ≡ Some loop
  pub consumed : has_number number loop.consumed ≡ true

consumed_at : (loops : List Loop) (number : ℕ) → has_number number (consumed_by loops) ≡ true
    → IsConsumedAt loops number
consumed_at [] number h = absurd (cc)
consumed_at (l ∷ ls) number h =
    or_cases (has_number number l.consumed) (has_number number (consumed_by ls))
    (λ t. record { at = 0; loop = l; is = refl; consumed = t })
    (λ t. let r = consumed_at ls number t in
    record { at = suc r.at; loop = r.loop; is = r.is; consumed = r.consumed })
    (sym (has_append number l.consumed (consumed_by ls)) ∙ h)

offer_served : (schema : Schema) (bound : Bound) (placed : List ℕ) (loops : List Loop)
    (used : List Used) (at : ℕ) (l : Loop) (number : ℕ) (c : Conjunct)
    → AreOffers schema bound placed loops used → slice_get loops at ≡ Some l
    → has_number number l.consumed ≡ true → slice_get bound.conjuncts number ≡ Some c
    → may_serve bound l.item c ≡ true
offer_served schema bound placed [] used at l number c o e h is = absurd (cc)
offer_served schema bound placed (m ∷ ms) [] at l number c o e h is = absurd o
offer_served schema bound placed (m ∷ ms) (u ∷ us) zero l number c o e h is =
    let same = some_is m l e in
    subst (λ (z : Loop). may_serve bound z.item c ≡ true) same
    (consumed_served schema bound m.item u number c o.0.comes
    (has_all (Consumes u) m.consumed number o.0.consumes
    (ap (λ (z : Loop). has_number number z.consumed) same ∙ h)) is)
offer_served schema bound placed (m ∷ ms) (u ∷ us) (suc at) l number c o e h is =
    offer_served schema bound (m.item ∷ placed) ms us at l number c o.1 e h is

not_there : (ls : List Loop) (item k : ℕ) (m : Loop)
    → AllByRecursion (λ j. j ≢ item) (loop_items ls) → slice_get ls k ≡ Some m → m.item ≡ item → ⊥
not_there [] item k m h f e = cc
not_there (l ∷ ls) item zero m h f e = h.0 (ap (λ (z : Loop). z.item) (some_is l m f) ∙ e)
not_there (l ∷ ls) item (suc k) m h f e = not_there ls item k m h.1 f e

-- two loops of one item are one loop
one_loop : (loops : List Loop) → Distinct (loop_items loops) → (j k : ℕ) (l m : Loop)
    → slice_get loops j ≡ Some l → slice_get loops k ≡ Some m → l.item ≡ m.item → l ≡ m
one_loop [] d j k l m e f same = absurd (cc)
one_loop (n ∷ ns) d zero zero l m e f same = some_is l m (sym e ∙ f)
one_loop (n ∷ ns) d zero (suc k) l m e f same =
    absurd (not_there ns n.item k m d.0 f (sym (ap (λ (z : Loop). z.item) (some_is n l e) ∙ same)))
one_loop (n ∷ ns) d (suc j) zero l m e f same =
    absurd (not_there ns n.item j l d.0 e (same ∙ sym (ap (λ (z : Loop). z.item) (some_is n m f))))
one_loop (n ∷ ns) d (suc j) (suc k) l m e f same = one_loop ns d.1 j k l m e f same

owner_is : (item : ℕ) (o : Option ℕ) → owned_by item o ≡ true → o ≡ Some item
owner_is item None h = absurd (cc)
owner_is item (Some owner) h = ap Some (eqb-true owner item h)

-- what an owned conjunct is served at is its owner
served_owner : (bound : Bound) (item owner : ℕ) (o : Option ℕ) → o ≡ Some owner → (b : Bool)
    → cond b (owned_by item o) (no_owner o) ≡ true → owner ≡ item
served_owner bound item owner None e b h = absurd (cc)
served_owner bound item owner (Some p) e true h = some_is owner p (sym e) ∙ eqb-true p item h
served_owner bound item owner (Some p) e false h = absurd (cc)

all_ours : (schema : Schema) (bound : Bound) (loops : List Loop) (used : List Used)
    → AreOffers schema bound [] loops used → Distinct (loop_items loops)
    → AllByRecursion (Ours bound (consumed_by loops)) loops
all_ours schema bound loops used o d =
    all_from_at _ loops (λ k l e number c is owned h.
    let r = consumed_at loops number h in
    let same : l.item ≡ r.loop.item =
    served_owner bound r.loop.item l.item c.owner (owner_is l.item c.owner owned)
    (is_left bound r.loop.item)
    (offer_served schema bound [] loops used r.at r.loop number c o r.is r.consumed is) in
    subst (λ (z : Loop). has_number number z.consumed ≡ true)
    (sym (one_loop loops d k r.at l r.loop e r.is same)) r.consumed)

numbers_at_least : (start n : ℕ) → AllByRecursion (λ j. start ≤ j) (numbers_from start n)
numbers_at_least start zero = tt
numbers_at_least start (suc n) = (
  omega arith,
  all_map _ _ (numbers_from (start + 1) n) (λ j h. omega (arith, h))
      (numbers_at_least (start + 1) n),
)

pub numbers_distinct : (start n : ℕ) → Distinct (numbers_from start n)
numbers_distinct start zero = tt
numbers_distinct start (suc n) = (
  all_map _ _ (numbers_from (start + 1) n) (λ j h e. above start j h e)
      (numbers_at_least (start + 1) n),
  numbers_distinct (start + 1) n,
)
  where
    above : (start j : ℕ) → start + 1 ≤ j → j ≡ start → ⊥
    above start j h e = absurd (omega arith)

numbers_below : (start n total : ℕ) → start + n ≤ total
    → AllByRecursion (λ j. j < total) (numbers_from start n)
numbers_below start zero total h = tt
numbers_below start (suc n) total h = (omega arith, numbers_below (start + 1) n total (omega arith))

pub numbers_inside : (bound : Bound) → Inside (numbers_from 0 (length bound.items)) (no_rows bound)
numbers_inside bound =
    all_map _ _ _
    (λ j h. let e : length (no_rows bound) ≡ length bound.items =
    length-replicate (length bound.items) None in subst (λ (n : ℕ). j < n) (sym e) h)
    (numbers_below 0 (length bound.items) (length bound.items) (omega arith))

pub free_choices : (database : Database) (bound : Bound) (params : List Value) (i : ℕ)
    (b : Bool)
    → not b ≡ true → (xs : List (Option Row)) (ys zs : List (Option Row))
    → cond b ys xs ≡ cond b zs xs
free_choices database bound params i true h xs ys zs = absurd (cc)
free_choices database bound params i false h xs ys zs = refl

-- the loops of a plan that are offers find the statement's rows, each as often
pub plan_rows : (schema : Schema) (plan : Plan) → FitsOffers schema plan
    → (database : Database) → IsDatabase schema plan.bound database → (params : List Value)
    → IsPermutation (plan_walks schema database plan params)
    (statement_rows plan.bound database params)
plan_rows schema plan fits database valid params =
    let steps =
    steps_of schema database plan.bound params (consumed_by plan.loops) [] plan.loops in
    let once : Rearranges (λ i. not (is_left plan.bound i)) (step_items steps)
    (numbers_from 0 (length plan.bound.items)) =
    subst
    (λ (is : List ℕ). Rearranges (λ i. not (is_left plan.bound i)) is
    (numbers_from 0 (length plan.bound.items)))
    (sym
    (steps_items schema database plan.bound params (consumed_by plan.loops) [] plan.loops))
    fits.once in
    subst (IsPermutation (plan_walks schema database plan params))
    (filter_agree _ _ (λ a. cond_same (chosen_hold is_common params plan.bound.conjuncts a))
    (product (choices database plan.bound params) (numbers_from 0 (length plan.bound.items))
    (no_rows plan.bound)))
    (join_law (choices database plan.bound params)
    (λ i h env a. free_choices database plan.bound params i (is_left plan.bound i) h _ _ _)
    (chosen_hold is_common params plan.bound.conjuncts ∷ [])
    (asked_by schema plan.bound params plan.loops fits.used) steps
    (numbers_from 0 (length plan.bound.items)) (no_rows plan.bound) once
    (numbers_inside plan.bound) (numbers_distinct 0 (length plan.bound.items))
    (are_steps schema database plan.bound params
    (consumed_by plan.loops) [] plan.loops fits.used valid fits.owners fits.offered
    (all_ours schema plan.bound plan.loops fits.used fits.offered
    (distinct_reorders _ _ fits.once (numbers_distinct 0 (length plan.bound.items)))))
    (λ a k. cond_same _ ∙ settles schema database plan params fits a k)
    (λ a h. sound schema database plan.bound params
    (consumed_by plan.loops) [] plan.loops fits.used a fits.offered
    (sym (cond_same _) ∙ h)))
