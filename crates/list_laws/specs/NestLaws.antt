-- What nested loops find, in whatever order their items are placed. Each law is said of two words
-- for 'the same members as often', one for rows and one for assignments: with std's IsPermutation
-- for both, and with SameTally for both, which asks less of a walk and promises less.
use Rattle.std.specs.Prelude.{◌≡◌, ℕ, Bool, true, List, [], ◌++◌}
use Rattle.std.specs.List.{AllByRecursion, flat_map, filter}
use Rattle.list_laws.specs.Nest.{Env, all_hold, Step, nested, product, Rearranges, AreFree, kept}
use Rattle.list_laws.specs.Nest.{step_items, AreSteps, Distinct, Apart, Inside, IsPartOf}

-- loops that keep their word find the members of the product that all of them keep, as often,
-- where only free items change places
abbrev pub LoopsFilterTheProduct : (X : Type 0) → (List X → List X → Type 0)
    → (List (Env X) → List (Env X) → Type 0) → Type 0
LoopsFilterTheProduct X like_rows like =
    (free : ℕ → Bool) (rows : ℕ → Env X → List X) → AreFree free rows
    → (asked : List (Env X → Bool)) (loops : List (Step X)) (order : List ℕ) (env : Env X)
    → Rearranges free (step_items loops) order → Inside order env → Distinct order
    → AreSteps like_rows rows [] asked loops
    → like (nested loops env) (filter (kept asked loops) (product rows order env))

-- over any assignments of the items to the left of a block, the block's loops find the extensions
-- by rows of its items on which the block's conjuncts hold, but for some that nothing to the right
-- completes
abbrev pub BlocksLeaveOutWhatFails : (X : Type 0) → (List X → List X → Type 0)
    → (List (Env X) → List (Env X) → Type 0) → Type 0
BlocksLeaveOutWhatFails X like_rows like =
    (free : ℕ → Bool) (rows : ℕ → Env X → List X) → AreFree free rows
    → (conjuncts : List (Env X → Bool)) (block_holds : Env X → Bool)
    (asked : List (Env X → Bool)) (loops : List (Step X)) (order left : List ℕ)
    (found : List (Env X))
    → Rearranges free (step_items loops) order → AllByRecursion (Inside order) found
    → Distinct order → Apart left order → AreSteps like_rows rows left asked loops
    → ((a : Env X) → kept asked loops a ≡ true → block_holds a ≡ true)
    → ((a : Env X) → all_hold conjuncts a ≡ true → kept asked loops a ≡ true)
    → IsPartOf like (order ++ left) conjuncts (flat_map (nested loops) found)
    (flat_map (λ g. filter block_holds (product rows order g)) found)
