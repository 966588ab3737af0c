-- The rows of a statement by steps, one for each item of FROM: a conjunct that is tested as soon as
-- its items are placed leaves out what it would at the end.
use Rattle.std.specs.List.{AllByRecursion, filter, slice_get}
use Rattle.std.proofs.Common.{◌≡◌, ◌≢◌, ℕ, Bool, true, false, cond}
use Rattle.std.proofs.Common.{◌&&◌, ◌||◌, List, [], ◌∷◌, Option, Some, None, refl, ap, sym}
use Rattle.std.proofs.Common.{◌∙◌, length, map}
use Rattle.std.specs.Prelude.{replicate}
use Rattle.list_laws.specs.Nest.{place, product, nested, Apart, Distinct}
use Rattle.list_laws.proofs.Bools.{alike, and_left, and_right, both_true}
use Rattle.list_laws.proofs.Lists.{all_map, all_always, filter_none, filter-flat_map}
use Rattle.list_laws.proofs.Lists.{flat_map_same}
use Rattle.list_laws.proofs.Nests.{agree_apart, apart_step, product_differs}
use Rattle.sql_meaning.specs.Values.{Value}
use Rattle.sql_meaning.specs.Rows.{Row, Assignment}
use Rattle.sql_meaning.specs.Schemas.{Database}
use Rattle.sql_meaning.specs.Expressions.{names}
use Rattle.sql_meaning.specs.Evaluation.{holds}
use Rattle.sql_meaning.specs.Statements.{Bound, Conjunct, chosen_hold, has_number, is_common, is_empty}
use Rattle.sql_meaning.specs.Statements.{all_in, choices, numbers_from, no_rows, statement_rows, image}
use Rattle.sql_meaning.specs.Statements.{or_missing, owned_by, item_rows, is_left}
use Rattle.sql_meaning.specs.Conjuncts.{level_test}
use Rattle.sql_meaning.proofs.Links.{all_at}
use Rattle.sql_meaning.proofs.Plans.{test_looks, common_looks, test_from, test_at, chosen_from}
use Rattle.sql_meaning.proofs.PlanRows.{numbers_distinct}
use Rattle.sql_meaning.proofs.Means.{Covered, covered_start, covered_next, covered_all}
use Rattle.sql_meaning.proofs.Means.{named_case, some_named, first_common, empty_first}
use Rattle.bound_rows.specs.Levels.{item_steps}
use Rattle.bound_rows.proofs.Filled.{filled, filled_start, nested_filled, images_filled, IsBlind}
use Rattle.bound_rows.proofs.Filled.{chosen_filled, level_filled, place_filled}

-- what an assignment must pass at its levels
abbrev passes : Bound → List Value → List ℕ → List ℕ → Assignment → Bool
passes bound params placed [] a = true
passes bound params placed (i ∷ is) a =
    level_test is_common params [] placed i 0 bound.conjuncts a && passes bound params (i ∷ placed) is a

filter_alike : (p q : Assignment → Bool) (ys : List Assignment)
    → AllByRecursion (λ y. p y ≡ q y) ys → filter p ys ≡ filter q ys
filter_alike p q [] h = refl
filter_alike p q (y ∷ ys) h = rw (h.0, filter_alike p q ys h.1) refl

tested : (b : Bool) (q : Assignment → Bool) (ys : List Assignment)
    → cond b (filter q ys) [] ≡ filter (λ a. b && q a) ys
tested true q ys = refl
tested false q ys = sym (filter_none _ ys (all_always _ ys (λ y. refl)))

nested_items : (database : Database) (bound : Bound) (params : List Value) (placed items : List ℕ)
    (env : Assignment) → Distinct items → Apart placed items
    → nested (item_steps database bound params placed items) env
    ≡ filter (passes bound params placed items) (product (choices database bound params) items env)
nested_items database bound params placed [] env distinct apart = refl
nested_items database bound params placed (i ∷ is) env distinct apart =
    let rows = choices database bound params in
    let test = level_test is_common params [] placed i 0 bound.conjuncts in
    let rest = item_steps database bound params (i ∷ placed) is in
    let later = passes bound params (i ∷ placed) is in
    flat_map_same _ _ (rows i env)
    (λ x. ap (λ l. cond (test (place env i x)) l [])
    (nested_items database bound params (i ∷ placed) is (place env i x) distinct.1
    (apart_step i placed is distinct.0 apart))
    ∙ tested (test (place env i x)) later (product rows is (place env i x))
    ∙ filter_alike (λ a. test (place env i x) && later a) (λ a. test a && later a)
    (product rows is (place env i x))
    (all_map _ _ (product rows is (place env i x))
    (λ a d. ap (λ b. b && later a)
    (sym (test_looks is_common params [] placed i 0 bound.conjuncts
    (common_looks placed i bound.conjuncts) (place env i x) a
    (agree_apart (i ∷ placed) is (place env i x) a (apart_step i placed is distinct.0 apart) d))))
    (product_differs rows is (place env i x))))
    ∙ sym
    (filter-flat_map (passes bound params placed (i ∷ is))
    (λ x. product rows is (place env i x)) (rows i env))

-- a common conjunct that names some item is tested where its last one is placed
settled : (bound : Bound) (params : List Value) (placed items : List ℕ) (a : Assignment)
    (number : ℕ) (c : Conjunct) → passes bound params placed items a ≡ true
    → slice_get bound.conjuncts number ≡ Some c → is_common c ≡ true
    → Covered (names c.expr) placed items → all_in (names c.expr) placed ≡ false
    → holds a params c.expr ≡ true
settled bound params placed [] a number c k is common cover h =
    absurd
    (let yes : all_in (names c.expr) placed ≡ true = covered_all (names c.expr) placed cover in cc)
settled bound params placed (i ∷ items) a number c k is common cover h =
    test_case (all_in (names c.expr) (i ∷ placed)) refl
    (λ e. test_at is_common params [] placed i 0 bound.conjuncts a number c
    (and_left (level_test is_common params [] placed i 0 bound.conjuncts a) _ k) is common
    (first_common placed i (names c.expr) c.owner common
    (ap (λ b. (b || (is_empty (names c.expr) && is_empty placed)))
    (both_true _ _ (named_case (names c.expr) i placed e h (has_number i (names c.expr)) refl) e)))
    refl)
    (λ e. settled bound params (i ∷ placed) items a number c
    (and_right (level_test is_common params [] placed i 0 bound.conjuncts a) _ k) is common
    (covered_next (names c.expr) i placed items cover) e)
  where
    test_case : {G : Type 0} (b : Bool) → all_in (names c.expr) (i ∷ placed) ≡ b
        → (all_in (names c.expr) (i ∷ placed) ≡ true → G)
        → (all_in (names c.expr) (i ∷ placed) ≡ false → G) → G
    test_case true e f g = f e
    test_case false e f g = g e

settled_one : (bound : Bound) (params : List Value) (items : List ℕ) (a : Assignment)
    (number : ℕ) (c : Conjunct) → items ≢ [] → passes bound params [] items a ≡ true
    → slice_get bound.conjuncts number ≡ Some c → is_common c ≡ true
    → all_in (names c.expr) items ≡ true → (e : Bool) → is_empty (names c.expr) ≡ e
    → holds a params c.expr ≡ true
settled_one bound params items a number c some k is common named false e =
    settled bound params [] items a number c k is common (covered_start (names c.expr) items named)
    (some_named (names c.expr) e)
settled_one bound params [] a number c some k is common named true e = absurd (some refl)
settled_one bound params (i ∷ items) a number c some k is common named true e =
    test_at is_common params [] [] i 0 bound.conjuncts a number c
    (and_left (level_test is_common params [] [] i 0 bound.conjuncts a) _ k) is common
    (first_common [] i (names c.expr) c.owner common (empty_first i (names c.expr) e)) refl

passes_from : (bound : Bound) (params : List Value) (placed items : List ℕ) (a : Assignment)
    → chosen_hold is_common params bound.conjuncts a ≡ true
    → passes bound params placed items a ≡ true
passes_from bound params placed [] a h = refl
passes_from bound params placed (i ∷ items) a h =
    both_true _ _ (test_from is_common params [] placed i 0 bound.conjuncts a h)
    (passes_from bound params (i ∷ placed) items a h)

passes_are : (bound : Bound) (params : List Value) (items : List ℕ) (a : Assignment)
    → items ≢ []
    → AllByRecursion (λ c. all_in (names c.expr) items ≡ true) bound.conjuncts
    → passes bound params [] items a ≡ chosen_hold is_common params bound.conjuncts a
passes_are bound params items a some named =
    alike _ _
    (λ k. chosen_from is_common params bound.conjuncts a
    (λ number c is common. settled_one bound params items a number c some k is common
    (all_at _ bound.conjuncts number c named is) (is_empty (names c.expr)) refl))
    (passes_from bound params [] items a)

filter_same : (p q : Assignment → Bool) (ys : List Assignment) → ((y : Assignment) → p y ≡ q y)
    → filter p ys ≡ filter q ys
filter_same p q ys h = filter_alike p q ys (all_always _ ys h)

nothing_apart : (items : List ℕ) → Apart [] items
nothing_apart items = tt

steps_filter : (database : Database) (bound : Bound) (params : List Value) → bound.items ≢ []
    → AllByRecursion
    (λ c. all_in (names c.expr) (numbers_from 0 (length bound.items)) ≡ true) bound.conjuncts
    → nested (item_steps database bound params [] (numbers_from 0 (length bound.items)))
    (no_rows bound) ≡ statement_rows bound database params
steps_filter database bound params some named =
    let items = numbers_from 0 (length bound.items) in
    nested_items database bound params [] items (no_rows bound)
    (numbers_distinct 0 (length bound.items)) (nothing_apart items)
    ∙ filter_same _ _ (product (choices database bound params) items (no_rows bound))
    (λ a. passes_are bound params items a (numbered bound.items some) named)
  where
    numbered : {X : Type 0} (xs : List X) → xs ≢ [] → numbers_from 0 (length xs) ≢ []
    numbered [] h e = h refl
    numbered (x ∷ xs) h e = absurd (cc)

choices_filled : (database : Database) (bound : Bound) (params : List Value) (item : ℕ)
    (env : Assignment)
    → choices database bound params item (filled env) ≡ choices database bound params item env
choices_filled database bound params item env =
    ap (λ l. cond (is_left bound item) (or_missing l) (map Some (item_rows database bound item)))
    (filters _ _ (map Some (item_rows database bound item))
    (λ x. ap (chosen_hold (λ c. owned_by item c.owner) params bound.conjuncts)
    (place_filled env item x)
    ∙ chosen_filled (λ c. owned_by item c.owner) params bound.conjuncts (place env item x)))
  where
    filters : (p q : Option Row → Bool) (ys : List (Option Row)) → ((y : Option Row) → p y ≡ q y)
        → filter p ys ≡ filter q ys
    filters p q [] h = refl
    filters p q (y ∷ ys) h = rw (h y, filters p q ys h) refl

steps_blind : (database : Database) (bound : Bound) (params : List Value) (placed items : List ℕ)
    → AllByRecursion IsBlind (item_steps database bound params placed items)
steps_blind database bound params placed [] = tt
steps_blind database bound params placed (i ∷ items) = (
  record {
    walk = choices_filled database bound params i;
    test = level_filled is_common params [] placed i 0 bound.conjuncts;
  },
  steps_blind database bound params (i ∷ placed) items,
)

-- what the steps find, with the missing row for each item to begin with
pub images_are : (database : Database) (bound : Bound) (params : List Value) → bound.items ≢ []
    → AllByRecursion
    (λ c. all_in (names c.expr) (numbers_from 0 (length bound.items)) ≡ true) bound.conjuncts
    → map (image bound params)
    (nested (item_steps database bound params [] (numbers_from 0 (length bound.items)))
    (replicate (length bound.items) (Some None)))
    ≡ map (image bound params) (statement_rows bound database params)
images_are database bound params some named =
    let steps = item_steps database bound params [] (numbers_from 0 (length bound.items)) in
    ap (λ env. map (image bound params) (nested steps env))
    (sym (filled_start (length bound.items)))
    ∙ ap (map (image bound params))
    (nested_filled steps (steps_blind database bound params [] _) (no_rows bound))
    ∙ images_filled bound params (nested steps (no_rows bound))
    ∙ ap (map (image bound params)) (steps_filter database bound params some named)
