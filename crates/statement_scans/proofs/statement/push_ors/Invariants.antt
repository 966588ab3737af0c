use Rattle.std.proofs.Common.{◌≡◌, ◌++◌, drop, map}
use Rattle.std.specs.List.{flat_map}
use Rattle.schema_model.specs.PlainSchemas.{plain_schema}
use Rattle.sql_bound.specs.Statements.{bound_of}
use Rattle.where_terms.specs.Views.{or_term_of}
use Rattle.candidate_index.specs.Scans.{scan_of}
use Rattle.statement_scans.specs.Items.{or_scans}
use Rattle.statement_scans.proofs.statement.push_ors.Given as goal

abbrev pub invariant-loop-term : goal.invariant-loop-term
invariant-loop-term l =
    map scan_of l.made
    ++ flat_map (or_scans (plain_schema l.schema) (bound_of l.bound) l.item)
    (map or_term_of (drop l.term-index l.ors))
    ≡ map scan_of l.initial.made
    ++ flat_map (or_scans (plain_schema l.schema) (bound_of l.bound) l.item)
    (map or_term_of l.ors)
