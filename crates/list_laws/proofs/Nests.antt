-- Nested loops are a filter of a product.
use Rattle.std.specs.List.{AllByRecursion, filter, flat_map}
use Rattle.std.proofs.Common.{◌≡◌, ◌≢◌, ℕ, List, None, get_or, refl, sym, get_or-set_other, [], ◌∷◌}
use Rattle.std.proofs.Common.{◌∙◌, Bool, true, false, cond, ◌&&◌, ap, Some, ◌++◌, subst}
use Rattle.std.specs.List.Sorted.{IsPermutation}
use Rattle.std.proofs.lemmas.List.Sorted.{IsPermutation-refl, IsPermutation-trans}
use Rattle.std.proofs.lemmas.List.{length-set}
use Rattle.std.proofs.lemmas.List.Elements.{filter_agree}
use Rattle.list_laws.specs.Nest.{Env, place, product, Agree, Apart, Step, nested, kept, step_items}
use Rattle.list_laws.specs.Nest.{IsStep, Inside, AreSteps, Distinct, Rearranges, same, next}
use Rattle.list_laws.specs.Nest.{swapped, after, AreFree, all_hold, IsPartOf}
use Rattle.list_laws.proofs.Bools.{alike}
use Rattle.list_laws.proofs.Lists.{all_map, all_always, all_flat_map, set_exchange, filter-flat_map}
use Rattle.list_laws.proofs.Lists.{flat_map_same, filter-filter, agree_first, agree_second}
use Rattle.list_laws.proofs.Lists.{filter_none}
use Rattle.list_laws.proofs.Permuted.{IsPermutation-flat_map, IsPermutation-filter, joins_exchange}
use Rattle.list_laws.proofs.Permuted.{flat_map_permutes, flat_map-filter}

-- a is env but for these items
abbrev pub Differs : {X : Type 0} → List ℕ → Env X → Env X → Type 0
Differs items env a =
    (i : ℕ) → AllByRecursion (λ j. j ≢ i) items → get_or a i None ≡ get_or env i None

pub place_other : {X : Type 0} (env : Env X) (i j : ℕ) (x : X) → i ≢ j
    → get_or (place env i x) j None ≡ get_or env j None
place_other env i j x n = let m : j ≢ i = λ e. n (sym e) in rw get_or-set_other refl

-- each member is the given assignment but for its items
pub product_differs : {X : Type 0} (rows : ℕ → Env X → List X) (items : List ℕ) (env : Env X)
    → AllByRecursion (Differs items env) (product rows items env)
product_differs rows [] env = ((λ i n. refl), tt)
product_differs rows (i ∷ items) env =
    all_flat_map _ _ (rows i env)
    (all_always _ (rows i env)
    (λ x. all_map _ _ _ (λ a d j n. d j n.1 ∙ place_other env i j x n.0)
    (product_differs rows items (place env i x))))

pub agree_apart : {X : Type 0} (placed items : List ℕ) (env a : Env X) → Apart placed items
    → Differs items env a → Agree placed env a
agree_apart placed items env a apart d = all_map _ _ placed (λ j n. d j n) apart

-- tests of a loop's row stand in the filter of what follows it
tested : {Y : Type 0} (u v : Bool) (k : Y → Bool) (zs ys : List Y)
    → IsPermutation zs (filter k ys)
    → IsPermutation (cond u (cond v zs []) []) (filter (λ a. u && (v && k a)) ys)
tested true true k zs ys h = h
tested true false k zs ys h =
    subst (IsPermutation []) (sym (filter_none _ ys (all_always _ ys (λ y. refl))))
    (IsPermutation-refl [])
tested false v k zs ys h =
    subst (IsPermutation []) (sym (filter_none _ ys (all_always _ ys (λ y. refl))))
    (IsPermutation-refl [])

filter_alike : {Y : Type 0} (p q : Y → Bool) (ys : List Y) → AllByRecursion (λ y. p y ≡ q y) ys
    → filter p ys ≡ filter q ys
filter_alike p q [] h = refl
filter_alike p q (y ∷ ys) h = rw (h.0, filter_alike p q ys h.1) refl

-- one row of a loop
one_row : {X : Type 0} (rows : ℕ → Env X → List X) (u : Env X → Bool) (us : List (Env X → Bool))
    (t : Step X) (ts : List (Step X)) (placed : List ℕ) (env : Env X)
    → AllByRecursion (λ j. j ≢ t.item) (step_items ts) → Apart (t.item ∷ placed) (step_items ts)
    → IsStep IsPermutation rows placed u t → (x : X)
    → IsPermutation (nested ts (place env t.item x))
    (filter (kept us ts) (product rows (step_items ts) (place env t.item x)))
    → IsPermutation
    (cond (u (place env t.item x))
    (cond (t.test (place env t.item x)) (nested ts (place env t.item x)) []) [])
    (filter (kept (u ∷ us) (t ∷ ts)) (product rows (step_items ts) (place env t.item x)))
one_row rows u us t ts placed env n apart s x ih =
    subst
    (IsPermutation
    (cond (u (place env t.item x))
    (cond (t.test (place env t.item x)) (nested ts (place env t.item x)) []) []))
    (filter_alike _ _ (product rows (step_items ts) (place env t.item x))
    (all_map _ _ _
    (λ a d. let agrees =
    agree_apart (t.item ∷ placed) (step_items ts) (place env t.item x) a apart d in
    rw
    (s.asked_looks (place env t.item x) a agrees, s.test_looks (place env t.item x) a agrees) refl)
    (product_differs rows (step_items ts) (place env t.item x))))
    (tested (u (place env t.item x)) (t.test (place env t.item x)) (kept us ts)
    (nested ts (place env t.item x)) (product rows (step_items ts) (place env t.item x)) ih)

pub apart_step : (i : ℕ) (placed items : List ℕ) → AllByRecursion (λ j. j ≢ i) items
    → Apart placed (i ∷ items) → Apart (i ∷ placed) items
apart_step i placed items n a = (n, all_map _ _ placed (λ j m. m.1) a)

pub inside_place : {X : Type 0} (env : Env X) (i : ℕ) (x : X) (items : List ℕ) → Inside items env
    → Inside items (place env i x)
inside_place env i x items h = all_map _ _ items (λ j lt. rw length-set lt) h

-- the nested walks are the assignments that all loops keep, each as often
pub nested_is : {X : Type 0} (rows : ℕ → Env X → List X) (us : List (Env X → Bool))
    (ts : List (Step X)) (placed : List ℕ) (env : Env X)
    → Inside (step_items ts) env → Distinct (step_items ts) → Apart placed (step_items ts)
    → AreSteps IsPermutation rows placed us ts
    → IsPermutation (nested ts env) (filter (kept us ts) (product rows (step_items ts) env))
nested_is rows [] [] placed env inside distinct apart steps = IsPermutation-refl (env ∷ [])
nested_is rows [] (t ∷ ts) placed env inside distinct apart steps = absurd steps
nested_is rows (u ∷ us) [] placed env inside distinct apart steps = absurd steps
nested_is {X} rows (u ∷ us) (t ∷ ts) placed env inside distinct apart steps =
    IsPermutation-trans (nested (t ∷ ts) env) (flat_map follow (filter asked (rows t.item env))) _
    (IsPermutation-flat_map follow (t.walk env) (filter asked (rows t.item env))
    (steps.0.walks env inside.0))
    (subst
    (λ (l : List (Env X)). IsPermutation l
    (filter (kept (u ∷ us) (t ∷ ts)) (product rows (step_items (t ∷ ts)) env)))
    (sym (flat_map-filter follow asked (rows t.item env)))
    (subst (IsPermutation (flat_map (λ x. cond (asked x) (follow x) []) (rows t.item env)))
    (sym
    (filter-flat_map (kept (u ∷ us) (t ∷ ts))
    (λ x. product rows (step_items ts) (place env t.item x)) (rows t.item env)))
    (flat_map_permutes _ _ (rows t.item env)
    (all_always _ (rows t.item env)
    (λ x. one_row rows u us t ts placed env distinct.0
    (apart_step t.item placed (step_items ts) distinct.0 apart) steps.0 x
    (nested_is rows us ts (t.item ∷ placed) (place env t.item x)
    (inside_place env t.item x (step_items ts) inside.1) distinct.1
    (apart_step t.item placed (step_items ts) distinct.0 apart) steps.1))))))
  where
    asked : X → Bool
    asked x = u (place env t.item x)

    follow : X → List (Env X)
    follow x = cond (t.test (place env t.item x)) (nested ts (place env t.item x)) []

-- what is kept depends on the placed items and the block's own alone
pub kept_looks : {X : Type 0} (like : List X → List X → Type 0) (rows : ℕ → Env X → List X)
    (us : List (Env X → Bool)) (ts : List (Step X)) (placed : List ℕ) (env a : Env X)
    → AreSteps like rows placed us ts → Agree (step_items ts) env a → Agree placed env a
    → kept us ts a ≡ kept us ts env
kept_looks like rows [] ts placed env a steps h k = refl
kept_looks like rows (u ∷ us) [] placed env a steps h k = refl
kept_looks like rows (u ∷ us) (t ∷ ts) placed env a steps h k =
    rw (
      steps.0.asked_looks env a (h.0, k),
      steps.0.test_looks env a (h.0, k),
      kept_looks like rows us ts (t.item ∷ placed) env a steps.1 h.1 (h.0, k),
    ) refl

pub all_reorders : {free : ℕ → Bool} (P : ℕ → Type 0) (is js : List ℕ) → Rearranges free is js
    → AllByRecursion P js → AllByRecursion P is
all_reorders P is js (same items) h = h
all_reorders P is js (next i xs ys r) h = (h.0, all_reorders P xs ys r h.1)
all_reorders P is js (swapped i j xs n _ _) h = (h.1.0, (h.0, h.1.1))
all_reorders P is js (after xs ys zs r s) h = all_reorders P xs ys r (all_reorders P ys zs s h)

pub distinct_reorders : {free : ℕ → Bool} (is js : List ℕ) → Rearranges free is js → Distinct js
    → Distinct is
distinct_reorders is js (same items) h = h
distinct_reorders is js (next i xs ys r) h =
    (all_reorders _ xs ys r h.0, distinct_reorders xs ys r h.1)
distinct_reorders is js (swapped i j xs n _ _) h = (((λ e. n (sym e)), h.1.0), (h.0.1, h.1.1))
distinct_reorders is js (after xs ys zs r s) h =
    distinct_reorders xs ys r (distinct_reorders ys zs s h)

-- the rows of a free item do not depend on the row that is placed before it
two_items : {X : Type 0} (rows : ℕ → Env X → List X) (i j : ℕ) (is : List ℕ) (env : Env X)
    → ((e : Env X) → rows j e ≡ rows j env)
    → product rows (i ∷ j ∷ is) env
    ≡ flat_map (λ x. flat_map (λ y. product rows is (place (place env i x) j y)) (rows j env))
    (rows i env)
two_items rows i j is env free =
    flat_map_same _ _ (rows i env)
    (λ x. ap (flat_map (λ y. product rows is (place (place env i x) j y)))
    (free (place env i x)))

-- in another order of free items there are the same assignments
pub product_reorders : {X : Type 0} {free : ℕ → Bool} (rows : ℕ → Env X → List X)
    → AreFree free rows → (items others : List ℕ) → Rearranges free items others → (env : Env X)
    → IsPermutation (product rows items env) (product rows others env)
product_reorders rows free items others (same is) env = IsPermutation-refl (product rows is env)
product_reorders rows free items others (next i is js r) env =
    flat_map_permutes _ _ (rows i env)
    (all_always _ (rows i env) (λ x. product_reorders rows free is js r (place env i x)))
product_reorders {X} rows free items others (swapped i j is n fi fj) env =
    subst (λ (l : List (Env X)). IsPermutation l (product rows (j ∷ i ∷ is) env))
    (sym (two_items rows i j is env (free j fj env)))
    (subst
    (IsPermutation
    (flat_map (λ x. flat_map (λ y. product rows is (place (place env i x) j y)) (rows j env))
    (rows i env)))
    (flat_map_same _ _ (rows j env)
    (λ y. flat_map_same _ _ (rows i env)
    (λ x. ap (product rows is) (set_exchange env i j (Some x) (Some y) n)))
    ∙ sym (two_items rows j i is env (free i fi env)))
    (joins_exchange (λ x y. product rows is (place (place env i x) j y)) (rows i env)
    (rows j env)))
product_reorders rows free items others (after is js ks r s) env =
    IsPermutation-trans _ _ _ (product_reorders rows free is js r env)
    (product_reorders rows free js ks s env)

-- in any order of the items
pub nested_in_order : {X : Type 0} {free : ℕ → Bool} (rows : ℕ → Env X → List X) → AreFree free rows
    → (us : List (Env X → Bool)) (ts : List (Step X)) (order placed : List ℕ) (env : Env X)
    → Rearranges free (step_items ts) order → Inside order env → Distinct order → Apart placed order
    → AreSteps IsPermutation rows placed us ts
    → IsPermutation (nested ts env) (filter (kept us ts) (product rows order env))
nested_in_order rows free us ts order placed env re inside distinct apart steps =
    IsPermutation-trans _ _ _
    (nested_is rows us ts placed env (all_reorders _ _ _ re inside)
    (distinct_reorders _ _ re distinct) (all_map _ _ placed (λ j n. all_reorders _ _ _ re n) apart)
    steps)
    (IsPermutation-filter (kept us ts) _ _
    (product_reorders rows free (step_items ts) order re env))

and_implied : (b k : Bool) → (k ≡ true → b ≡ true) → (b && k) ≡ k
and_implied true k h = refl
and_implied false true h = h refl
and_implied false false h = refl

not_both : (c k m : Bool) → (c ≡ true → k ≡ true) → k ≡ m → m ≡ false → c ≡ false
not_both true k m h e f = absurd (let t : k ≡ true = h refl in cc)
not_both false k m h e f = refl

-- over any assignments of the items to its left, a block of loops finds, in any order of its items,
-- the extensions on which the block's conjuncts hold, but for such as nothing to the right
-- completes; given what its loops find as a filter of the product
pub block_law : {X : Type 0} {free : ℕ → Bool} (like_rows : List X → List X → Type 0)
    (like : List (Env X) → List (Env X) → Type 0) (rows : ℕ → Env X → List X)
    (cs : List (Env X → Bool)) (block : Env X → Bool) (us : List (Env X → Bool))
    (ts : List (Step X)) (order left : List ℕ) (G : List (Env X))
    → like (flat_map (nested ts) G) (flat_map (λ g. filter (kept us ts) (product rows order g)) G)
    → Rearranges free (step_items ts) order → AreSteps like_rows rows left us ts
    → ((a : Env X) → kept us ts a ≡ true → block a ≡ true)
    → ((a : Env X) → all_hold cs a ≡ true → kept us ts a ≡ true)
    → IsPartOf like (order ++ left) cs (flat_map (nested ts) G)
    (flat_map (λ g. filter block (product rows order g)) G)
block_law {X} like_rows like rows cs block us ts order left G found re steps settles sound =
    record {
      stays = kept us ts;
      permutes =
          subst (like (flat_map (nested ts) G))
          (flat_map_same _ _ G
          (λ g. sym
          (filter-filter block (kept us ts) (product rows order g)
          ∙ filter_agree _ _ (λ a. and_implied (block a) (kept us ts a) (settles a))
          (product rows order g)))
          ∙ sym (filter-flat_map (kept us ts) (λ g. filter block (product rows order g)) G)) found;
      left_out = λ h e a agrees.
          not_both (all_hold cs a) (kept us ts a) (kept us ts h) (sound a)
          (kept_looks like_rows rows us ts left h a steps
          (all_reorders _ _ _ re (agree_first order left h a agrees))
          (agree_second order left h a agrees)) e;
    }

-- the same of loops that give permutations
pub block_permutes : {X : Type 0} {free : ℕ → Bool} (rows : ℕ → Env X → List X) → AreFree free rows
    → (cs : List (Env X → Bool)) (block : Env X → Bool) (us : List (Env X → Bool))
    (ts : List (Step X)) (order left : List ℕ) (G : List (Env X))
    → Rearranges free (step_items ts) order → AllByRecursion (Inside order) G → Distinct order
    → Apart left order → AreSteps IsPermutation rows left us ts
    → ((a : Env X) → kept us ts a ≡ true → block a ≡ true)
    → ((a : Env X) → all_hold cs a ≡ true → kept us ts a ≡ true)
    → IsPartOf IsPermutation (order ++ left) cs (flat_map (nested ts) G)
    (flat_map (λ g. filter block (product rows order g)) G)
block_permutes rows free cs block us ts order left G re inside distinct apart steps settles sound =
    block_law IsPermutation IsPermutation rows cs block us ts order left G
    (flat_map_permutes (nested ts) (λ g. filter (kept us ts) (product rows order g)) G
    (all_map _ _ G (λ g h. nested_in_order rows free us ts order left g re h distinct apart steps)
    inside)) re steps settles sound

-- one block of all items, from the one empty assignment: nothing is left out
pub join_law : {X : Type 0} {free : ℕ → Bool} (rows : ℕ → Env X → List X) → AreFree free rows
    → (cs us : List (Env X → Bool)) (ts : List (Step X)) (order : List ℕ) (env : Env X)
    → Rearranges free (step_items ts) order → Inside order env → Distinct order
    → AreSteps IsPermutation rows [] us ts
    → ((a : Env X) → kept us ts a ≡ true → all_hold cs a ≡ true)
    → ((a : Env X) → all_hold cs a ≡ true → kept us ts a ≡ true)
    → IsPermutation (nested ts env) (filter (all_hold cs) (product rows order env))
join_law rows free cs us ts order env re inside distinct steps settles sound =
    subst (IsPermutation (nested ts env))
    (filter_agree _ _ (λ a. alike (kept us ts a) (all_hold cs a) (settles a) (sound a))
    (product rows order env))
    (nested_in_order rows free us ts order [] env re inside distinct tt steps)
