use Rattle.std.proofs.Common.{◌≡◌, drop, map}
use Rattle.sql_meaning.specs.Statements.{all_in}
use Rattle.schema_model.specs.PlainSchemas.{plain_index_column}
use Rattle.access_paths.proofs.covering.has_columns.Given as goal

-- each column so far is there
abbrev pub invariant-loop-column : goal.invariant-loop-column
invariant-loop-column l =
    all_in (drop l.column-index l.needs)
    (map (λ c. c.column) (map plain_index_column l.columns))
    ≡ all_in l.needs (map (λ c. c.column) (map plain_index_column l.columns))
