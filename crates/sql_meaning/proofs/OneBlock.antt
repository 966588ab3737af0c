-- What the loops of one block find, and what they leave out.
use Rattle.std.specs.List.{AllByRecursion, filter, flat_map}
use Rattle.std.specs.List.Sorted.{IsPermutation}
use Rattle.std.proofs.Common.{◌≡◌, ℕ, false, List, ◌∙◌, [], true, Some, sym, subst, slice_get, ◌∷◌}
use Rattle.std.proofs.Common.{Bool, suc, cond, not, ◌&&◌, ◌||◌, refl, ◌++◌, ◌≢◌, ap, zero-add}
use Rattle.list_laws.specs.Nest.{kept, nested, product, Distinct, Inside, Apart, Rearranges}
use Rattle.list_laws.specs.Nest.{IsPartOf}
use Rattle.list_laws.proofs.Bools.{not_true, cond_same, and_left, and_right, or_cases}
use Rattle.list_laws.proofs.Nests.{block_permutes}
use Rattle.sql_meaning.specs.Values.{Value}
use Rattle.sql_meaning.specs.Rows.{Assignment}
use Rattle.sql_meaning.specs.Schemas.{Schema, Database}
use Rattle.sql_meaning.specs.Evaluation.{holds}
use Rattle.sql_meaning.specs.Statements.{Conjunct, Bound, has_number, chosen_hold, all_in, is_empty}
use Rattle.sql_meaning.specs.Statements.{is_common, is_left, choices, OwnersAreLeft, SomeFails}
use Rattle.sql_meaning.specs.UsedTerms.{Used}
use Rattle.sql_meaning.specs.Expressions.{names}
use Rattle.sql_meaning.specs.Plans.{Loop, consumed_by, steps_of}
use Rattle.sql_meaning.specs.Conjuncts.{first_at, level_test}
use Rattle.sql_meaning.specs.Offers.{AreOffers, loop_items}
use Rattle.sql_meaning.specs.PlanLaws.{first_in, block_holds}
use Rattle.sql_meaning.proofs.Databases.{IsDatabase}
use Rattle.sql_meaning.proofs.Means.{Covered, has_append, settled_used, settled_test, first_common}
use Rattle.sql_meaning.proofs.Means.{empty_first, sound}
use Rattle.sql_meaning.proofs.PlanRows.{free_choices}
use Rattle.sql_meaning.proofs.Plans.{test_at, chosen_from, steps_items}
use Rattle.sql_meaning.proofs.KeptLoops.{asked_by, ours_free, are_steps}
use Rattle.sql_meaning.proofs.PassingTerms.{used_passes}

fails_later : (p : Conjunct → Bool) (params : List Value) (c : Conjunct) (cs : List Conjunct)
    (a : Assignment)
    → SomeFails p params cs a → SomeFails p params (c ∷ cs) a
fails_later p params c cs a r = record {
  number = suc r.number;
  conjunct = r.conjunct;
  is = r.is;
  is_chosen = r.is_chosen;
  fails = r.fails;
}

fails_case : (p : Conjunct → Bool) (params : List Value) (c : Conjunct) (cs : List Conjunct)
    (a : Assignment)
    → (chosen_hold p params cs a ≡ false → SomeFails p params cs a) → (b h : Bool) → p c ≡ b
    → holds a params c.expr ≡ h → ((not b || h) && chosen_hold p params cs a) ≡ false
    → SomeFails p params (c ∷ cs) a
fails_case p params c cs a ih true false e g f =
    record { number = 0; conjunct = c; is = refl; is_chosen = e; fails = g }
fails_case p params c cs a ih true true e g f = fails_later p params c cs a (ih f)
fails_case p params c cs a ih false h e g f = fails_later p params c cs a (ih f)

pub some_fails : (p : Conjunct → Bool) (params : List Value) (cs : List Conjunct) (a : Assignment)
    → chosen_hold p params cs a ≡ false → SomeFails p params cs a
some_fails p params [] a h = absurd (cc)
some_fails p params (c ∷ cs) a h =
    fails_case p params c cs a (some_fails p params cs a) (p c) (holds a params c.expr) refl refl h

covered_by : (ns block left : List ℕ) → all_in ns (block ++ left) ≡ true → Covered ns left block
covered_by [] block left h = tt
covered_by (n ∷ ns) block left h = (
  split n block left (and_left _ (all_in ns (block ++ left)) h),
  covered_by ns block left (and_right (has_number n (block ++ left)) _ h),
)
  where
    turn : (a b : Bool) → (a || b) ≡ true → (b || a) ≡ true
    turn true true h = refl
    turn true false h = refl
    turn false true h = refl
    turn false false h = h

    split : (n : ℕ) (block left : List ℕ) → has_number n (block ++ left) ≡ true
        → (has_number n left || has_number n block) ≡ true
    split n block left h =
        turn (has_number n block) (has_number n left) (sym (has_append n block left) ∙ h)

-- what is consumed of the block's conjuncts, the block's loops consume
abbrev pub ConsumesOwn : Bound → List ℕ → List ℕ → List ℕ → List Loop → Type 0
ConsumesOwn bound consumed left block loops =
    (number : ℕ) (c : Conjunct) → slice_get bound.conjuncts number ≡ Some c → is_common c ≡ true
    → first_in left block (names c.expr) ≡ true → has_number number consumed ≡ true
    → has_number number (consumed_by loops) ≡ true

pub empty_is : (ns : List ℕ) → is_empty ns ≡ true → ns ≡ []
empty_is [] h = refl
empty_is (n ∷ ns) h = absurd (cc)

block_case : (schema : Schema) (database : Database) (bound : Bound) (params : List Value)
    (consumed left : List ℕ) (loops : List Loop) (used : List Used) (a : Assignment) (number : ℕ)
    (c : Conjunct)
    → loops ≢ [] → AreOffers schema bound left loops used
    → ConsumesOwn bound consumed left (loop_items loops) loops
    → kept (asked_by schema bound params loops used)
    (steps_of schema database bound params consumed left loops) a ≡ true
    → slice_get bound.conjuncts number ≡ Some c → is_common c ≡ true
    → first_in left (loop_items loops) (names c.expr) ≡ true → (b : Bool)
    → has_number number consumed ≡ b → holds a params c.expr ≡ true
block_case schema database bound params consumed left loops used a number c some o own k is common
    first true e =
    settled_used schema database bound params consumed left loops used a number c o k is common
    (own number c is common first e)
block_case schema database bound params consumed left [] used a number c some o own k is common
    first false e = absurd (some refl)
block_case schema database bound params consumed left (l ∷ ls) [] a number c some o own k is common
    first false e = absurd o
block_case schema database bound params consumed left (l ∷ ls) (u ∷ us) a number c some o own k is
    common first false e =
    or_cases
    (all_in (names c.expr) (loop_items (l ∷ ls) ++ left) && not (all_in (names c.expr) left))
    (is_empty (names c.expr) && is_empty left)
    (λ t. settled_test schema database bound params consumed left (l ∷ ls) (u ∷ us) a number c o k
    is common e
    (covered_by (names c.expr) (loop_items (l ∷ ls)) left
    (and_left _ (not (all_in (names c.expr) left)) t))
    (not_true _ (and_right (all_in (names c.expr) (loop_items (l ∷ ls) ++ left)) _ t)))
    (λ t. test_at is_common params consumed left l.item 0 bound.conjuncts a number c
    (and_left (level_test is_common params consumed left l.item 0 bound.conjuncts a) _
    (and_right (cond (is_left bound l.item) true (used_passes schema bound params l.item u a)) _ k))
    is common
    (subst (λ (ps : List ℕ). first_at ps l.item c ≡ true)
    (sym (empty_is left (and_right (is_empty (names c.expr)) _ t)))
    (first_common [] l.item (names c.expr) c.owner common
    (empty_first l.item (names c.expr) (and_left _ (is_empty left) t))))
    (ap (λ m. has_number m consumed) (zero-add number) ∙ e))
    first

-- the law of a block, for any list of consumed conjuncts of which the block consumes its own
pub block_of_loops : (schema : Schema) (database : Database) (bound : Bound)
    (params : List Value) (consumed left : List ℕ) (loops : List Loop) (used : List Used)
    (order : List ℕ) (G : List Assignment)
    → IsDatabase schema bound database → OwnersAreLeft bound → loops ≢ []
    → AreOffers schema bound left loops used
    → AllByRecursion (λ l. is_left bound l.item ≡ false) loops
    → ConsumesOwn bound consumed left (loop_items loops) loops
    → Rearranges (λ i. not (is_left bound i)) (loop_items loops) order → Distinct order
    → Apart left order → AllByRecursion (Inside order) G
    → IsPartOf IsPermutation (order ++ left) (chosen_hold is_common params bound.conjuncts ∷ [])
    (flat_map
    (nested (steps_of schema database bound params consumed left loops)) G)
    (flat_map
    (λ g. filter (block_holds bound params left (loop_items loops))
    (product (choices database bound params) order g)) G)
block_of_loops schema database bound params consumed left loops used order G valid owners some
    offered plain own re distinct apart inside =
    block_permutes (choices database bound params)
    (λ i h env a. free_choices database bound params i (is_left bound i) h _ _ _)
    (chosen_hold is_common params bound.conjuncts ∷ [])
    (block_holds bound params left (loop_items loops)) (asked_by schema bound params loops used)
    (steps_of schema database bound params consumed left loops) order left
    G
    (subst (λ (is : List ℕ). Rearranges (λ i. not (is_left bound i)) is order)
    (sym (steps_items schema database bound params consumed left loops))
    re) inside distinct apart
    (are_steps schema database bound params consumed left loops used valid owners offered
    (ours_free bound consumed loops owners plain))
    (λ a k. chosen_from _ params bound.conjuncts a
    (λ number c is p.
    block_case schema database bound params consumed left loops used a number c some offered own k
    is (and_left (is_common c) _ p) (and_right (is_common c) _ p)
    (has_number number consumed) refl))
    (λ a h. sound schema database bound params consumed left loops used a offered
    (sym (cond_same _) ∙ h))
