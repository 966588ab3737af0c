-- The law of blocks: in a plan each block consumes what is consumed of its conjuncts.
use Rattle.std.specs.List.{AllByRecursion}
use Rattle.std.proofs.Common.{◌==◌, ◌≡◌, ℕ, false, List, ◌∙◌, [], true, Some, sym, slice_get, ◌∷◌}
use Rattle.std.proofs.Common.{Bool, not, ◌&&◌, ◌||◌, refl, ◌++◌, ◌≢◌, ap}
use Rattle.std.proofs.lemmas.Bool.{eqb-true, eq-eqb}
use Rattle.std.proofs.lemmas.List.Concat.{flat_map-append}
use Rattle.std.proofs.lemmas.List.Sorted.{IsPermutation-sym}
use Rattle.list_laws.specs.Nest.{Distinct, Apart, Rearranges, same, next, swapped, after}
use Rattle.list_laws.proofs.Bools.{or_false_right, or_false_left, or_later, and_left, and_right}
use Rattle.list_laws.proofs.Bools.{or_cases, cond_same, or_turn, or_assoc}
use Rattle.list_laws.proofs.Lists.{all_map}
use Rattle.list_laws.proofs.Nests.{all_reorders}
use Rattle.list_laws.proofs.Arrangements.{Rearranges-from_permutation}
use Rattle.sql_meaning.specs.Schemas.{Schema}
use Rattle.sql_meaning.specs.Statements.{Conjunct, Bound, has_number, all_in, is_empty, is_common}
use Rattle.sql_meaning.specs.Statements.{is_left, numbers_from}
use Rattle.sql_meaning.specs.UsedTerms.{Used}
use Rattle.sql_meaning.specs.Expressions.{names}
use Rattle.sql_meaning.specs.Plans.{Loop, consumed_by}
use Rattle.sql_meaning.specs.Offers.{AreOffers, loop_items}
use Rattle.sql_meaning.specs.PlanLaws.{first_in, placed_by, BlocksLeaveOutWhatFails}
use Rattle.sql_meaning.proofs.Databases.{database_for}
use Rattle.sql_meaning.proofs.Means.{has_append}
use Rattle.sql_meaning.proofs.PlanRows.{numbers_distinct}
use Rattle.sql_meaning.proofs.ServedNames.{consumed_names}
use Rattle.sql_meaning.proofs.OneBlock.{some_fails, ConsumesOwn, block_of_loops}

unlike : (m n : ℕ) (b : Bool) → ((m == n) || b) ≡ false → m ≢ n
unlike m n b h e =
    let yes : (m == n) ≡ true = eq-eqb m n e in
    let no : (m == n) ≡ false = or_false_left _ b h in cc

fresh : (schema : Schema) (bound : Bound) (placed : List ℕ) (loops : List Loop)
    (used : List Used)
    → AreOffers schema bound placed loops used
    → AllByRecursion (λ i. has_number i placed ≡ false) (loop_items loops)
fresh schema bound placed [] used o = tt
fresh schema bound placed (l ∷ ls) [] o = absurd o
fresh schema bound placed (l ∷ ls) (u ∷ us) o = (
  o.0.unplaced,
  all_map _ _ (loop_items ls) (λ i h. or_false_right (i == l.item) (has_number i placed) h)
      (fresh schema bound (l.item ∷ placed) ls us o.1),
)

each_once : (schema : Schema) (bound : Bound) (placed : List ℕ) (loops : List Loop)
    (used : List Used)
    → AreOffers schema bound placed loops used → Distinct (loop_items loops)
each_once schema bound placed [] used o = tt
each_once schema bound placed (l ∷ ls) [] o = absurd o
each_once schema bound placed (l ∷ ls) (u ∷ us) o = (
  all_map _ _ (loop_items ls) (λ i h. unlike i l.item (has_number i placed) h)
      (fresh schema bound (l.item ∷ placed) ls us o.1),
  each_once schema bound (l.item ∷ placed) ls us o.1,
)

apart_from : (placed items : List ℕ) → AllByRecursion (λ i. has_number i placed ≡ false) items
    → Apart placed items
apart_from [] items h = tt
apart_from (j ∷ placed) items h = (
  all_map _ _ items (λ i n. unlike i j (has_number i placed) n) h,
  apart_from placed items
      (all_map _ _ items (λ i n. or_false_right (i == j) (has_number i placed) n) h),
)

-- the offers of the first loops, and those of the others
offers_front : (schema : Schema) (bound : Bound) (placed : List ℕ) (xs ys : List Loop)
    (used : List Used)
    → AreOffers schema bound placed (xs ++ ys) used
    → (us : List Used) × AreOffers schema bound placed xs us
offers_front schema bound placed [] ys used o = ([], tt)
offers_front schema bound placed (x ∷ xs) ys [] o = absurd o
offers_front schema bound placed (x ∷ xs) ys (u ∷ us) o =
    let rest = offers_front schema bound (x.item ∷ placed) xs ys us o.1 in
    (u ∷ rest.0, (o.0, rest.1))

offers_back : (schema : Schema) (bound : Bound) (placed : List ℕ) (xs ys : List Loop)
    (used : List Used)
    → AreOffers schema bound placed (xs ++ ys) used
    → (us : List Used) × AreOffers schema bound (placed_by xs placed) ys us
offers_back schema bound placed [] ys used o = (used, o)
offers_back schema bound placed (x ∷ xs) ys [] o = absurd o
offers_back schema bound placed (x ∷ xs) ys (u ∷ us) o =
    offers_back schema bound (x.item ∷ placed) xs ys us o.1

-- what was placed stays placed
has_placed : (n : ℕ) (loops : List Loop) (placed : List ℕ)
    → has_number n (placed_by loops placed)
    ≡ (has_number n (loop_items loops) || has_number n placed)
has_placed n [] placed = refl
has_placed n (l ∷ ls) placed =
    has_placed n ls (l.item ∷ placed)
    ∙ or_turn (has_number n (loop_items ls)) (n == l.item) (has_number n placed)
    ∙ or_assoc (n == l.item) (has_number n (loop_items ls)) (has_number n placed)

all_in_more : (ns ms os : List ℕ) → ((n : ℕ) → has_number n ms ≡ true → has_number n os ≡ true)
    → all_in ns ms ≡ true → all_in ns os ≡ true
all_in_more [] ms os f h = refl
all_in_more (n ∷ ns) ms os f h =
    rw (f n (and_left _ (all_in ns ms) h))
    (all_in_more ns ms os f (and_right (has_number n ms) _ h))

-- a list that has a member is not empty
not_empty : (m : ℕ) (ns : List ℕ) → has_number m ns ≡ true → is_empty ns ≡ false
not_empty m [] h = absurd (cc)
not_empty m (n ∷ ns) h = refl

member_in : (m : ℕ) (ns ms : List ℕ) → has_number m ns ≡ true → all_in ns ms ≡ true
    → has_number m ms ≡ true
member_in m [] ms h k = absurd (cc)
member_in m (n ∷ ns) ms h k =
    or_cases (m == n) (has_number m ns)
    (λ e. ap (λ (i : ℕ). has_number i ms) (eqb-true m n e) ∙ and_left _ (all_in ns ms) k)
    (λ e. member_in m ns ms e (and_right (has_number n ms) _ k)) h

-- a conjunct that loops consume names one of their items, and nothing that is not placed by then
consumed_before : (schema : Schema) (bound : Bound) (placed : List ℕ) (loops : List Loop)
    (used : List Used) (number : ℕ) (c : Conjunct)
    → AreOffers schema bound placed loops used → slice_get bound.conjuncts number ≡ Some c
    → has_number number (consumed_by loops) ≡ true
    → (all_in (names c.expr) (placed_by loops placed) ≡ true) × (is_empty (names c.expr) ≡ false)
consumed_before schema bound placed [] used number c o is h = absurd (cc)
consumed_before schema bound placed (l ∷ ls) [] number c o is h = absurd o
consumed_before schema bound placed (l ∷ ls) (u ∷ us) number c o is h =
    or_cases (has_number number l.consumed) (has_number number (consumed_by ls))
    (λ e. let named = consumed_names schema bound placed l u number c o.0 e is in (
      all_in_more (names c.expr) (l.item ∷ placed) (placed_by ls (l.item ∷ placed))
          (λ n there. has_placed n ls (l.item ∷ placed)
          ∙ or_later (has_number n (loop_items ls)) _ there)
          named.inside,
      not_empty l.item (names c.expr) named.there,
    ))
    (λ e. consumed_before schema bound (l.item ∷ placed) ls us number c o.1 is e)
    (sym (has_append number l.consumed (consumed_by ls)) ∙ h)

-- a conjunct that later loops consume names an item that isn't placed yet
consumed_later : (schema : Schema) (bound : Bound) (placed : List ℕ) (loops : List Loop)
    (used : List Used) (number : ℕ) (c : Conjunct)
    → AreOffers schema bound placed loops used → slice_get bound.conjuncts number ≡ Some c
    → has_number number (consumed_by loops) ≡ true
    → (m : ℕ) × (has_number m (names c.expr) ≡ true) × (has_number m placed ≡ false)
consumed_later schema bound placed [] used number c o is h = absurd (cc)
consumed_later schema bound placed (l ∷ ls) [] number c o is h = absurd o
consumed_later schema bound placed (l ∷ ls) (u ∷ us) number c o is h =
    or_cases (has_number number l.consumed) (has_number number (consumed_by ls))
    (λ e. (
      l.item,
      (consumed_names schema bound placed l u number c o.0 e is).there,
      o.0.unplaced,
    ))
    (λ e. let r = consumed_later schema bound (l.item ∷ placed) ls us number c o.1 is e in
    (r.0, r.1, or_false_right (r.0 == l.item) (has_number r.0 placed) r.2))
    (sym (has_append number l.consumed (consumed_by ls)) ∙ h)

known_before : (left block named : List ℕ) → all_in named left ≡ true → is_empty named ≡ false
    → first_in left block named ≡ false
known_before left block named h e = rw (h, e) (and_not (all_in named (block ++ left)))
  where
    and_not : (a : Bool) → ((a && false) || false) ≡ false
    and_not true = refl
    and_not false = refl

known_later : (left block named : List ℕ) (m : ℕ) → has_number m named ≡ true
    → has_number m (block ++ left) ≡ false → first_in left block named ≡ true → ⊥
known_later left block named m there out first =
    or_cases (all_in named (block ++ left) && not (all_in named left))
    (is_empty named && is_empty left)
    (λ e. let yes : has_number m (block ++ left) ≡ true =
    member_in m named (block ++ left) there (and_left _ (not (all_in named left)) e) in
    let no : true ≡ false = sym yes ∙ out in cc)
    (λ e. let no : true ≡ false = sym (and_left _ (is_empty left) e)
    ∙ not_empty m named there in cc)
    first

-- in a plan a block consumes its own
consumes_own : (schema : Schema) (bound : Bound) (before block later : List Loop)
    (used : List Used)
    → AreOffers schema bound [] (before ++ (block ++ later)) used
    → ConsumesOwn bound (consumed_by (before ++ (block ++ later))) (placed_by before [])
    (loop_items block) block
consumes_own schema bound before block later used o = λ number c is common first consumed.
    let left = placed_by before [] in
    let here = offers_back schema bound [] before (block ++ later) used o in
    let after_block = offers_back schema bound left block later here.0 here.1 in
    let own = offers_front schema bound [] before (block ++ later) used o in
    or_cases (has_number number (consumed_by before))
    (has_number number (consumed_by (block ++ later)))
    (λ e.
    let r = consumed_before schema bound [] before own.0 number c own.1 is e in
    absurd (let no : true ≡ false =
    sym first ∙ known_before left (loop_items block) (names c.expr) r.0 r.1 in cc))
    (λ e. or_cases (has_number number (consumed_by block)) (has_number number (consumed_by later))
    (λ t. t)
    (λ t. let r =
    consumed_later schema bound (placed_by block left) later after_block.0 number c
    after_block.1 is t
    in
    absurd
    (known_later left (loop_items block) (names c.expr) r.0 r.1
    (has_append r.0 (loop_items block) left ∙ sym (has_placed r.0 block left) ∙ r.2) first))
    (sym (has_append number (consumed_by block) (consumed_by later))
    ∙ ap (has_number number) (sym (consumed_append block later)) ∙ e))
    (sym (has_append number (consumed_by before) (consumed_by (block ++ later)))
    ∙ ap (has_number number) (sym (consumed_append before (block ++ later))) ∙ consumed)
  where
    consumed_append : (xs ys : List Loop)
        → consumed_by (xs ++ ys) ≡ consumed_by xs ++ consumed_by ys
    consumed_append xs ys = flat_map-append (λ l. l.consumed) xs ys

Rearranges-sym : {free : ℕ → Bool} (is js : List ℕ) → Rearranges free is js → Rearranges free js is
Rearranges-sym is js (same items) = same items
Rearranges-sym is js (next i xs ys r) = next i ys xs (Rearranges-sym xs ys r)
Rearranges-sym is js (swapped i j xs n f g) = swapped j i xs (λ e. n (sym e)) g f
Rearranges-sym is js (after xs ys zs r s) =
    after zs ys xs (Rearranges-sym ys zs s) (Rearranges-sym xs ys r)

items_free : (bound : Bound) (loops : List Loop)
    → AllByRecursion (λ l. is_left bound l.item ≡ false) loops
    → AllByRecursion (λ i. not (is_left bound i) ≡ true) (loop_items loops)
items_free bound [] h = tt
items_free bound (l ∷ ls) h = (ap not h.0, items_free bound ls h.1)

pub blocks_leave_out_what_fails : BlocksLeaveOutWhatFails
blocks_leave_out_what_fails =
    λ schema bound before block later used start count offers owners some plain order database valid
    params left inside.
    let here = offers_back schema bound [] before (block ++ later) used offers in
    let own = offers_front schema bound (placed_by before []) block later here.0 here.1 in
    let items = numbers_from start count in
    let back : Rearranges (λ i. not (is_left bound i)) items (loop_items block) =
    Rearranges-from_permutation (λ i. not (is_left bound i)) items (loop_items block)
    (items_free bound block plain) (each_once schema bound (placed_by before []) block own.0 own.1)
    (IsPermutation-sym (loop_items block) items order) in
    let law =
    block_of_loops schema database bound params (consumed_by (before ++ (block ++ later)))
    (placed_by before []) block own.0 items left (database_for schema bound database valid) owners
    some own.1 plain (consumes_own schema bound before block later used offers)
    (Rearranges-sym items (loop_items block) back) (numbers_distinct start count)
    (apart_from (placed_by before []) items
    (all_reorders _ items (loop_items block) back
    (fresh schema bound (placed_by before []) block own.0 own.1))) inside in
    record {
      stays = law.stays;
      permutes = law.permutes;
      left_out = λ h e a agrees.
          some_fails is_common params bound.conjuncts a
          (sym (cond_same _) ∙ law.left_out h e a agrees);
    }
