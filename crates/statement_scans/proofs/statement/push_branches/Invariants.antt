use Rattle.std.proofs.Common.{◌≡◌, ◌++◌, drop, map}
use Rattle.schema_model.specs.PlainSchemas.{plain_schema}
use Rattle.sql_bound.proofs.Members.{plain_members}
use Rattle.sql_bound.specs.Expressions.{members_of}
use Rattle.sql_bound.specs.Statements.{bound_of}
use Rattle.where_terms.specs.Views.{branches_of}
use Rattle.candidate_index.specs.Scans.{scan_of}
use Rattle.statement_scans.specs.Branches.{branches_with}
use Rattle.statement_scans.proofs.statement.push_branches.Given as goal

abbrev pub invariant-loop-place : goal.invariant-loop-place
invariant-loop-place l =
    map scan_of l.made
    ++ branches_with (plain_schema l.schema) (bound_of l.bound) l.item l.number
    (plain_members (drop l.place l.list.members.now))
    (branches_of (drop l.place l.branches))
    ≡ map scan_of l.initial.made
    ++ branches_with (plain_schema l.schema) (bound_of l.bound) l.item l.number
    (members_of l.list) (branches_of l.branches)
