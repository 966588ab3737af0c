-- What an answer is seen as.
use Rattle.std.specs.Prelude.{◌<◌, List, map, length, ◌^◌}
use Rattle.std.specs.List.{AllByRecursion}
use Rattle.sql_meaning.specs.Values as plain
use Rattle.sql_value.specs.View.{plain_value}
use Rattle.sql_value.specs.declared.values.Value.{Value}
use Rattle.schema_model.specs.declared.rows.Row.{Row}

-- a list of values for each row
abbrev pub rows_of_answer : List (List Value) → List (List plain.Value)
rows_of_answer answer = map (λ row. map plain_value row) answer

-- rows are numbered by 32 bits
abbrev pub HasFewRows : List (List Row) → Type 0
HasFewRows tables = AllByRecursion (λ rows. length rows < 2 ^ 32) tables
