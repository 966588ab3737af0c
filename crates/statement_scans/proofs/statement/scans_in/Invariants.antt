use Rattle.std.proofs.Common.{◌≡◌, ◌++◌, ◌-◌, map, length}
use Rattle.std.specs.List.{flat_map}
use Rattle.sql_meaning.specs.Statements.{numbers_from}
use Rattle.plan_choice.specs.Scans.{scans, scans_of_item}
use Rattle.schema_model.specs.PlainSchemas.{plain_schema}
use Rattle.sql_bound.specs.Statements.{bound_of}
use Rattle.candidate_index.specs.Scans.{scan_of}
use Rattle.statement_scans.proofs.statement.scans_in.Given as goal

abbrev pub invariant-loop-item : goal.invariant-loop-item
invariant-loop-item l =
    map scan_of l.made
    ++ flat_map (scans_of_item (plain_schema l.schema) (bound_of l.bound))
    (numbers_from l.item (length l.bound.items.now - l.item))
    ≡ scans (plain_schema l.schema) (bound_of l.bound)
