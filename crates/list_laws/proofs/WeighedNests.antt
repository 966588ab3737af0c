-- Nested loops whose walks only weigh as much as what they were asked for weigh as much as a filter
-- of a product: they weigh as much as loops that walk just that.
use Rattle.std.specs.List.{AllByRecursion, filter, flat_map}
use Rattle.std.specs.List.Sorted.{IsPermutation}
use Rattle.std.proofs.Common.{◌≡◌, ℕ, List, refl, sym, [], ◌∷◌, ◌∙◌, Bool, cond, ap, true, ◌++◌}
use Rattle.std.proofs.Common.{subst, false}
use Rattle.std.proofs.lemmas.List.Sorted.{IsPermutation-refl}
use Rattle.std.proofs.lemmas.List.Elements.{filter_agree}
use Rattle.list_laws.specs.Tally.{SameTally, tally}
use Rattle.list_laws.specs.Nest.{Env, place, product, Apart, Step, nested, kept, step_items}
use Rattle.list_laws.specs.Nest.{Inside, AreSteps, Distinct, Rearranges, AreFree, all_hold}
use Rattle.list_laws.specs.Nest.{IsPartOf}
use Rattle.list_laws.proofs.Lists.{all_map}
use Rattle.list_laws.proofs.Nests.{inside_place, nested_in_order, block_law, all_reorders}
use Rattle.list_laws.proofs.Tallies.{SameTally-trans, tally-flat_map, tally_same}
use Rattle.list_laws.proofs.Tallies.{tally_agree}
use Rattle.list_laws.proofs.Permutations.{SameTally-from_permutation}

-- the loop that walks just what it was asked for
abbrev exact : {X : Type 0} → (ℕ → Env X → List X) → (Env X → Bool) → Step X → Step X
exact rows asked t = record {
  item = t.item;
  walk = λ env. filter (λ x. asked (place env t.item x)) (rows t.item env);
  test = t.test;
}

abbrev exacts : {X : Type 0} → (ℕ → Env X → List X) → List (Env X → Bool) → List (Step X)
    → List (Step X)
exacts rows [] ts = []
exacts rows (u ∷ us) [] = []
exacts rows (u ∷ us) (t ∷ ts) = exact rows u t ∷ exacts rows us ts

exact_items : {X : Type 0} (rows : ℕ → Env X → List X) (us : List (Env X → Bool))
    (ts : List (Step X)) (placed : List ℕ) → AreSteps SameTally rows placed us ts
    → step_items (exacts rows us ts) ≡ step_items ts
exact_items rows [] [] placed steps = refl
exact_items rows [] (t ∷ ts) placed steps = absurd steps
exact_items rows (u ∷ us) [] placed steps = absurd steps
exact_items rows (u ∷ us) (t ∷ ts) placed steps =
    ap (λ items. t.item ∷ items) (exact_items rows us ts (t.item ∷ placed) steps.1)

exact_steps : {X : Type 0} (rows : ℕ → Env X → List X) (us : List (Env X → Bool))
    (ts : List (Step X)) (placed : List ℕ) → AreSteps SameTally rows placed us ts
    → AreSteps IsPermutation rows placed us (exacts rows us ts)
exact_steps rows [] [] placed steps = tt
exact_steps rows [] (t ∷ ts) placed steps = absurd steps
exact_steps rows (u ∷ us) [] placed steps = absurd steps
exact_steps rows (u ∷ us) (t ∷ ts) placed steps = (
  record {
    walks = λ env lt. IsPermutation-refl _;
    asked_looks = steps.0.asked_looks;
    test_looks = steps.0.test_looks;
  },
  exact_steps rows us ts (t.item ∷ placed) steps.1,
)

exact_kept : {X : Type 0} (rows : ℕ → Env X → List X) (us : List (Env X → Bool))
    (ts : List (Step X)) (placed : List ℕ) → AreSteps SameTally rows placed us ts → (a : Env X)
    → kept us (exacts rows us ts) a ≡ kept us ts a
exact_kept rows [] [] placed steps a = refl
exact_kept rows [] (t ∷ ts) placed steps a = absurd steps
exact_kept rows (u ∷ us) [] placed steps a = absurd steps
exact_kept rows (u ∷ us) (t ∷ ts) placed steps a =
    rw (exact_kept rows us ts (t.item ∷ placed) steps.1 a) refl

-- both weigh the same
exact_weighs : {X : Type 0} (rows : ℕ → Env X → List X) (us : List (Env X → Bool))
    (ts : List (Step X)) (placed : List ℕ) (env : Env X) → Inside (step_items ts) env
    → AreSteps SameTally rows placed us ts → (f : Env X → ℕ)
    → tally f (nested ts env) ≡ tally f (nested (exacts rows us ts) env)
exact_weighs rows [] [] placed env inside steps f = refl
exact_weighs rows [] (t ∷ ts) placed env inside steps f = absurd steps
exact_weighs rows (u ∷ us) [] placed env inside steps f = absurd steps
exact_weighs {X} rows (u ∷ us) (t ∷ ts) placed env inside steps f =
    tally-flat_map f (follow ts) (t.walk env)
    ∙ (steps.0.walks env inside.0).each (λ x. tally f (follow ts x))
    ∙ tally_same _ _ _
    (λ x. tested x (t.test (place env t.item x))
    (exact_weighs rows us ts (t.item ∷ placed) (place env t.item x)
    (inside_place env t.item x (step_items ts) inside.1) steps.1 f))
    ∙ sym (tally-flat_map f (follow (exacts rows us ts)) _)
  where
    follow : List (Step X) → X → List (Env X)
    follow loops x = cond (t.test (place env t.item x)) (nested loops (place env t.item x)) []

    tested : (x : X) (b : Bool)
        → tally f (nested ts (place env t.item x))
        ≡ tally f (nested (exacts rows us ts) (place env t.item x))
        → tally f (cond b (nested ts (place env t.item x)) [])
        ≡ tally f (cond b (nested (exacts rows us ts) (place env t.item x)) [])
    tested x true e = e
    tested x false e = refl

pub nested_weighs : {X : Type 0} {free : ℕ → Bool} (rows : ℕ → Env X → List X) → AreFree free rows
    → (us : List (Env X → Bool)) (ts : List (Step X)) (order placed : List ℕ) (env : Env X)
    → Rearranges free (step_items ts) order → Inside order env → Distinct order → Apart placed order
    → AreSteps SameTally rows placed us ts
    → SameTally (nested ts env) (filter (kept us ts) (product rows order env))
nested_weighs {X} {free} rows is_free us ts order placed env re inside distinct apart steps =
    SameTally-trans _ _ _
    (record {
      each = exact_weighs rows us ts placed env (all_reorders _ _ _ re inside) steps;
    })
    (subst (SameTally (nested (exacts rows us ts) env))
    (filter_agree _ _ (exact_kept rows us ts placed steps) (product rows order env))
    (SameTally-from_permutation _ _
    (nested_in_order rows is_free us (exacts rows us ts) order placed env
    (subst (λ items. Rearranges free items order) (sym (exact_items rows us ts placed steps)) re)
    inside distinct apart (exact_steps rows us ts placed steps))))

pub block_weighs : {X : Type 0} {free : ℕ → Bool} (rows : ℕ → Env X → List X) → AreFree free rows
    → (cs : List (Env X → Bool)) (block : Env X → Bool) (us : List (Env X → Bool))
    (ts : List (Step X)) (order left : List ℕ) (G : List (Env X))
    → Rearranges free (step_items ts) order → AllByRecursion (Inside order) G → Distinct order
    → Apart left order → AreSteps SameTally rows left us ts
    → ((a : Env X) → kept us ts a ≡ true → block a ≡ true)
    → ((a : Env X) → all_hold cs a ≡ true → kept us ts a ≡ true)
    → IsPartOf SameTally (order ++ left) cs (flat_map (nested ts) G)
    (flat_map (λ g. filter block (product rows order g)) G)
block_weighs rows free cs block us ts order left G re inside distinct apart steps settles sound =
    block_law SameTally SameTally rows cs block us ts order left G
    (record {
      each = λ f. tally-flat_map f (nested ts) G
          ∙ tally_agree _ _ G
          (all_map _ _ G
          (λ g h. (nested_weighs rows free us ts order left g re h distinct apart steps).each f)
          inside)
          ∙ sym (tally-flat_map f (λ g. filter (kept us ts) (product rows order g)) G);
    }) re steps settles sound
