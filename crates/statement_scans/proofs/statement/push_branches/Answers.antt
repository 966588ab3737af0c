use Rattle.std.proofs.Common.{map, arith, drop}
use Rattle.schema_model.specs.PlainSchemas.{plain_schema}
use Rattle.sql_bound.proofs.Members.{plain_members}
use Rattle.sql_bound.specs.Statements.{bound_of, item_of}
use Rattle.candidate_index.specs.Scans.{scan_of}
use Rattle.statement_scans.proofs.BranchTurns.{names_at, branches_done}
use Rattle.statement_scans.proofs.statement.push_branches.Goals as goal

pub branch_scan-requires-clause-names : goal.branch_scan-requires-clause-names
branch_scan-requires-clause-names c =
    names_at (plain_schema c.args.schema.now) (map item_of c.args.bound.now.items.now)
    c.args.list.members.now c.loop-place.place _ c.requires.names (omega arith)

pub returns : goal.returns
returns c =
    branches_done (plain_schema c.args.schema.now) (bound_of c.args.bound.now) c.args.item
    c.args.number (plain_members (drop c.loop-place.place c.args.list.members.now))
    c.args.branches.now c.loop-place.place (map scan_of c.loop-place.made) _
    c.loop-place-test.false c.loop-place.invariant
