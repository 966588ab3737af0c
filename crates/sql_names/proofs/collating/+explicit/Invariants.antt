use Rattle.std.proofs.Common.{◌≡◌, drop}
use Rattle.sql_bound.specs.Expressions.{members_of}
use Rattle.sql_bound.proofs.Members.{plain_members}
use Rattle.sql_names.specs.Collating.{explicit_among}
use Rattle.sql_names.proofs.collating.+explicit.Given as goal

abbrev pub invariant-explicit_among-loop-member : goal.invariant-explicit_among-loop-member
invariant-explicit_among-loop-member l =
    explicit_among (plain_members (drop l.member-index l.member-items))
    ≡ explicit_among (members_of l.list)
