-- What is read so far.
use Rattle.std.specs.Prelude.{ℕ, ◌+◌, Bool, ◌||◌, codes, nat_eq, List, []}
use Rattle.std.specs.List.{starts_with}
use Rattle.sql_meaning.specs.Letters.{folded_bytes}
use Rattle.schema_model.specs.Schemas.{Schema, is_taken, empty as no_schema}
use Rattle.schema_read.specs.declared.state.State.{State}

abbrev pub empty : State
empty = record { schema = no_schema; rows = []; given = []; statements_passed = 0; rows_passed = 0 }

abbrev pub pass_statement : State → State
pass_statement d = record d { statements_passed = d.statements_passed + 1 }

abbrev pub pass_row : State → State
pass_row d = record d { rows_passed = d.rows_passed + 1 }

abbrev pub with_schema : State → Schema → State
with_schema d s = record d { schema = s }

-- a name of the database's own tables
abbrev pub is_own_name : List ℕ → Bool
is_own_name folded = starts_with nat_eq folded (codes "sqlite_")

abbrev pub is_refused : Schema → List ℕ → Bool
is_refused s name = is_own_name (folded_bytes name) || is_taken s (folded_bytes name)
