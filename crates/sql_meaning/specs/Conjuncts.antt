-- Which conjuncts may serve an item, and at which loop a conjunct is tested.
use Rattle.std.specs.Prelude.{ℕ, Bool, cond, not, ◌&&◌, ◌||◌, List, ◌∷◌, ◌==◌, Option, Some, None}
use Rattle.std.specs.Prelude.{◌+◌, true, [], map}
use Rattle.std.specs.List.{flat_map}
use Rattle.sql_meaning.specs.Statements.{Conjunct, Bound, is_left, owned_by, is_common, has_number}
use Rattle.sql_meaning.specs.Statements.{all_in, is_empty}
use Rattle.sql_meaning.specs.Expressions.{names, flat}
use Rattle.sql_meaning.specs.Values.{Value}
use Rattle.sql_meaning.specs.Rows.{Assignment}
use Rattle.sql_meaning.specs.Evaluation.{holds}

-- the conjuncts of a statement, from its conditions: the ON conditions in FROM order, then WHERE,
-- each with its owner; a conjunct has the owner of its condition
abbrev pub conjuncts_of : List Conjunct → List Conjunct
conjuncts_of conditions =
    flat_map (λ c. map (λ e. record { expr = e; owner = c.owner }) (flat c.expr)) conditions

-- a LEFT item is served by its own conjuncts alone, since a common one must not turn its rows into
-- the missing row; every other item by common conjuncts alone
abbrev pub may_serve : Bound → ℕ → Conjunct → Bool
may_serve bound item c = cond (is_left bound item) (owned_by item c.owner) (is_common c)

-- a derived equality comes from common conjuncts, and for an item that isn't LEFT
abbrev pub may_derive : Bound → ℕ → Conjunct → Bool
may_derive bound item c = is_common c && not (is_left bound item)

-- a common conjunct is first known at the loop of the last item that it names, or at the first loop
-- where it names none
abbrev pub common_first : List ℕ → ℕ → List ℕ → Bool
common_first placed item named =
    (has_number item named && all_in named (item ∷ placed)) || (is_empty named && is_empty placed)

-- an owned conjunct is first known at the loop of its owner
abbrev pub first_by : List ℕ → ℕ → List ℕ → Option ℕ → Bool
first_by placed item named None = common_first placed item named
first_by placed item named (Some owner) = owner == item

abbrev pub first_at : List ℕ → ℕ → Conjunct → Bool
first_at placed item c = first_by placed item (names c.expr) c.owner

-- each chosen conjunct, numbered from j, holds that is first known at this loop and that no path
-- consumed
abbrev pub level_test : (Conjunct → Bool) → List Value → List ℕ → List ℕ → ℕ → ℕ → List Conjunct
    → Assignment → Bool
level_test chosen params consumed placed item j [] env = true
level_test chosen params consumed placed item j (c ∷ cs) env =
    (not (chosen c && (first_at placed item c && not (has_number j consumed)))
    || holds env params c.expr) && level_test chosen params consumed placed item (j + 1) cs env
