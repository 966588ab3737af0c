use Rattle.std.proofs.Common.{◌≡◌, ◌++◌, map, drop, option_map}
use Rattle.sql_value.specs.View.{plain_value}
use Rattle.schema_read.specs.Entries.{row_values}
use Rattle.schema_read.proofs.entries.row_values.Given as goal

abbrev pub invariant-loop-number : goal.invariant-loop-number
invariant-loop-number l =
    row_values l.text l.columns (map (λ part. part.now) l.parts)
    ≡ option_map (λ vs. map plain_value l.values.items ++ vs)
    (row_values l.text (drop l.number l.columns)
    (map (λ part. part.now) (drop l.number l.parts)))
