use Rattle.std.proofs.Common.{◌≡◌, drop, map}
use Rattle.sql_meaning.specs.Statements.{has_number}
use Rattle.schema_model.specs.PlainSchemas.{plain_index_column}
use Rattle.access_paths.proofs.covering.has_column.Given as goal

-- no column so far is it
abbrev pub invariant-loop-own : goal.invariant-loop-own
invariant-loop-own l =
    has_number l.column
    (map (λ c. c.column) (map plain_index_column (drop l.own-index l.columns)))
    ≡ has_number l.column (map (λ c. c.column) (map plain_index_column l.columns))
