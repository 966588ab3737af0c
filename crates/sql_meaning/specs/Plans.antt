-- Plans: nested loops over paths, and what they answer (eqp, "nested loops").
use Rattle.std.specs.Prelude.{ℕ, Bool, List, reverse, true, false, Option, map, Some, [], ◌∷◌}
use Rattle.std.specs.List.{filter, flat_map}
use Rattle.list_laws.specs.Nest.{place, Step, nested}
use Rattle.sql_meaning.specs.Paths.{Path, walk}
use Rattle.sql_meaning.specs.Statements.{Bound, or_missing, is_left, owned_by, item_rows, is_common}
use Rattle.sql_meaning.specs.Statements.{no_rows}
use Rattle.sql_meaning.specs.Rows.{Row, Assignment}
use Rattle.sql_meaning.specs.Values.{Value}
use Rattle.sql_meaning.specs.Schemas.{Schema, Database}
use Rattle.sql_meaning.specs.Conjuncts.{level_test}

-- a loop of a plan: its item, its path, whether it walks backward, and the numbers of the conjuncts
-- that its path makes true, which are not tested again
pub record Loop : Type 0 where
  pub item : ℕ
  pub path : Path
  pub reverse : Bool
  pub consumed : List ℕ

-- the loops from outside in; `sort` where a sort by the keys follows
pub record Plan : Type 0 where
  pub bound : Bound
  pub loops : List Loop
  pub sort : Bool

abbrev pub directed_walk : Bool → List Row → List Row
directed_walk true rows = reverse rows
directed_walk false rows = rows

abbrev pub missing_if : Bool → List (Option Row) → List (Option Row)
missing_if true xs = or_missing xs
missing_if false xs = xs

-- the rows of a loop: those of its walk on which the conjuncts that this item owns hold; at a LEFT
-- item, where none is left, the missing row stands once
abbrev pub loop_walk : Schema → Database → Bound → List Value → List ℕ → List ℕ → Loop
    → Assignment → List (Option Row)
loop_walk schema database bound params consumed placed loop env =
    missing_if (is_left bound loop.item)
    (filter
    (λ x. level_test
    (λ c. owned_by loop.item c.owner) params consumed placed loop.item 0 bound.conjuncts
    (place env loop.item x))
    (map Some
    (directed_walk loop.reverse
    (walk schema params loop.path (item_rows database bound loop.item) env))))

-- then the common conjuncts of this loop are tested
abbrev pub step_of : Schema → Database → Bound → List Value → List ℕ → List ℕ → Loop
    → Step (Option Row)
step_of schema database bound params consumed placed loop = record {
  item = loop.item;
  walk = loop_walk schema database bound params consumed placed loop;
  test = level_test is_common params consumed placed loop.item 0 bound.conjuncts;
}

-- a conjunct that a path consumed is tested at no loop
abbrev pub consumed_by : List Loop → List ℕ
consumed_by loops = flat_map (λ l. l.consumed) loops

-- a step for each loop, after the items placed before it
abbrev pub steps_of : Schema → Database → Bound → List Value → List ℕ → List ℕ → List Loop
    → List (Step (Option Row))
steps_of schema database bound params consumed placed [] = []
steps_of schema database bound params consumed placed (l ∷ ls) =
    step_of schema database bound params consumed placed l
    ∷ steps_of schema database bound params consumed (l.item ∷ placed) ls

-- the nested loops of the plan, on a database
abbrev pub plan_walks : Schema → Database → Plan → List Value → List Assignment
plan_walks schema database plan params =
    nested
    (steps_of schema database plan.bound params (consumed_by plan.loops) [] plan.loops)
    (no_rows plan.bound)
