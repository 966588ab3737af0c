-- What is tested where an item is placed, and what comes of it.
use Rattle.std.specs.Prelude.{◌≡◌, ℕ, zero, suc, Bool, true, false, cond, not, ◌&&◌, ◌+◌, List, [], ◌∷◌}
use Rattle.std.specs.Prelude.{slice_index_or, Option}
use Rattle.std.specs.List.{filter, flat_map}
use Rattle.list_laws.specs.Nest.{place, Step}
use Rattle.sql_meaning.specs.Values.{Value}
use Rattle.sql_meaning.specs.Rows.{Row, Assignment}
use Rattle.sql_meaning.specs.Expressions.{BExpr}
use Rattle.sql_meaning.specs.Evaluation.{holds}
use Rattle.sql_meaning.specs.Statements.{Conjunct, has_number, owned_by, is_common, Bound}
use Rattle.sql_meaning.specs.Statements.{choices}
use Rattle.sql_meaning.specs.Schemas.{Database}
use Rattle.sql_meaning.specs.Conjuncts.{first_at, level_test}
use Rattle.sql_meaning.specs.Plans.{missing_if}

-- a mark for each number, which says whether the list has it
pub record Marks (marks : List Bool) (numbers : List ℕ) : Type 0 where
  pub each : (number : ℕ) → has_number number numbers ≡ slice_index_or marks number false

-- the conjuncts that the item owns, or the common ones
abbrev pub chosen_by : Bool → ℕ → Conjunct → Bool
chosen_by true item c = owned_by item c.owner
chosen_by false item c = is_common c

-- a chosen conjunct is tested where it is first known, unless a path consumed it
abbrev pub is_due : Bool → List ℕ → List ℕ → ℕ → ℕ → Conjunct → Bool
is_due owned consumed placed item number c =
    chosen_by owned item c && (first_at placed item c && not (has_number number consumed))

-- those that are due of conjuncts numbered from j
abbrev pub due_exprs : Bool → List ℕ → List ℕ → ℕ → ℕ → List Conjunct → List BExpr
due_exprs owned consumed placed item j [] = []
due_exprs owned consumed placed item j (c ∷ cs) =
    cond (is_due owned consumed placed item j c)
    (c.expr ∷ due_exprs owned consumed placed item (j + 1) cs)
    (due_exprs owned consumed placed item (j + 1) cs)

abbrev pub all_true : List Value → List BExpr → Assignment → Bool
all_true params [] env = true
all_true params (e ∷ es) env = holds env params e && all_true params es env

-- the rows of an item on which the conjuncts hold that it owns; at a LEFT item, where none is
-- left, the missing row
abbrev pub level_rows : Bool → List Value → List BExpr → ℕ → List (Option Row) → Assignment
    → List (Option Row)
level_rows left params owned item rows env =
    missing_if left (filter (λ x. all_true params owned (place env item x)) rows)

-- each of the rows with which the common conjuncts hold
abbrev pub with_rows : List Value → List BExpr → ℕ → List (Option Row) → Assignment
    → List Assignment
with_rows params common item rows env =
    flat_map
    (λ x. cond (all_true params common (place env item x)) (place env item x ∷ []) []) rows

-- a step for each item of FROM: its rows, and then the common conjuncts that are known there
abbrev pub item_steps : Database → Bound → List Value → List ℕ → List ℕ → List (Step (Option Row))
item_steps database bound params placed [] = []
item_steps database bound params placed (item ∷ items) = record {
  item = item;
  walk = choices database bound params item;
  test = level_test is_common params [] placed item 0 bound.conjuncts;
} ∷ item_steps database bound params (item ∷ placed) items

-- the items before a number, the last one first
abbrev pub items_before : ℕ → List ℕ
items_before zero = []
items_before (suc n) = n ∷ items_before n
