use Rattle.std.proofs.Common.{◌≡◌, ◌++◌, drop, map}
use Rattle.schema_model.specs.PlainSchemas.{plain_index_column}
use Rattle.statement_scans.specs.Asked.{columns_asked}
use Rattle.statement_scans.proofs.asked.asked_columns.Given as goal

abbrev pub invariant-loop-term : goal.invariant-loop-term
invariant-loop-term l =
    map plain_index_column l.list ++ columns_asked l.asked (drop l.term-index l.terms)
    ≡ columns_asked l.asked l.terms
