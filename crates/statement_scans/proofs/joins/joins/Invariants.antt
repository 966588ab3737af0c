use Rattle.std.proofs.Common.{◌≡◌, ◌++◌, ◌-◌, map}
use Rattle.std.specs.List.{flat_map}
use Rattle.sql_meaning.specs.Statements.{numbers_from}
use Rattle.candidate_index.specs.Scans.{join_of}
use Rattle.statement_scans.specs.Asked.{join_if_any, joins_from}
use Rattle.statement_scans.proofs.joins.joins.Given as goal

abbrev pub invariant-loop-item : goal.invariant-loop-item
invariant-loop-item l =
    map join_of l.joins
    ++ flat_map (join_if_any l.numbers.keys l.naming.items) (numbers_from l.item (l.count - l.item))
    ≡ joins_from l.numbers.keys l.naming.items l.count
