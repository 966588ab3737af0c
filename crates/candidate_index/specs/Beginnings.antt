-- The tree of what indexes begin with: a list of steps, each from a node by a column.
use Rattle.std.specs.Prelude.{◌≡◌, ◌<◌, ℕ, ◌&&◌, ◌==◌, Bool, false, List, [], ◌∷◌, ◌++◌, map}
use Rattle.std.specs.Prelude.{length}
use Rattle.std.specs.Prelude.{Option, Some, None, position, is_some, if◌then◌else◌}
use Rattle.std.specs.List.{AllByRecursion, list_any, position_or_len}
use Rattle.sql_meaning.specs.Schemas.{Index}
use Rattle.sql_meaning.specs.Orders.{same_flag}
use Rattle.plan_choice.specs.Candidates.{is_served}
use Rattle.schema_model.specs.PlainSchemas.{plain_index_column}
use Rattle.schema_model.specs.CreateTexts.{same_collation}
use Rattle.schema_model.specs.declared.indexes.IndexColumn.{IndexColumn}
use Rattle.candidate_index.specs.declared.beginnings.Node.{Node}
use Rattle.candidate_index.specs.declared.beginnings.Node.TheVariants.{Table, Behind}
use Rattle.candidate_index.specs.declared.beginnings.Step.{Step}

abbrev pub step_of : Node → IndexColumn → Step
step_of node c = record { from = node; number = c.column; coll = c.coll; desc = c.desc }

abbrev pub same_node : Node → Node → Bool
same_node (Table a) (Table b) = a == b
same_node (Behind a) (Behind b) = a == b
same_node a b = false

abbrev pub same_step : Step → Step → Bool
same_step a b =
    same_node a.from b.from
    && ((a.number == b.number) && (same_collation a.coll b.coll && same_flag a.desc b.desc))

abbrev pub behind : Option ℕ → Option Node
behind None = None
behind (Some number) = Some (Behind number)

abbrev pub after : List Step → Node → IndexColumn → Option Node
after steps node c = behind (position (same_step (step_of node c)) steps)

-- where columns lead from a node
abbrev pub leads : List Step → Option Node → List IndexColumn → Option Node
leads steps None columns = None
leads steps (Some node) [] = Some node
leads steps (Some node) (c ∷ cs) = leads steps (after steps node c) cs

abbrev pub reached : List Step → ℕ → List IndexColumn → Option Node
reached steps table columns = leads steps (Some (Table table)) columns

-- a step that isn't there goes last
abbrev pub with_step : List Step → Step → List Step
with_step steps s = if list_any (same_step s) steps then steps else steps ++ s ∷ []

abbrev pub with_steps : List Step → Node → List IndexColumn → List Step
with_steps steps node [] = steps
with_steps steps node (c ∷ cs) =
    with_steps (with_step steps (step_of node c))
    (Behind (position_or_len (same_step (step_of node c)) steps)) cs

-- the node of a table, or one behind a step that is there
abbrev pub IsRooted : ℕ → Node → Type 0
IsRooted count (Table table) = Unit {0}
IsRooted count (Behind number) = number < count

abbrev pub AreRooted : List Step → Type 0
AreRooted steps = AllByRecursion (λ s. IsRooted (length steps) s.from) steps

-- columns lead somewhere where one of these indexes begins with them
pub record Serves (steps : List Step) (known : List Index) : Type 0 where
  pub same : (table : ℕ) (columns : List IndexColumn)
      → is_some (reached steps table columns)
      ≡ is_served table (map plain_index_column columns) known
