use Rattle.std.proofs.Common.{◌≡◌, ◌++◌, map, drop}
use Rattle.sql_meaning.specs.Expressions.{flat_all}
use Rattle.sql_bound.specs.Expressions.{members_of}
use Rattle.sql_bound.specs.Statements.{conjunct_of}
use Rattle.sql_bound.proofs.Members.{plain_members}
use Rattle.sql_bind.specs.Conditions.{with_owner}
use Rattle.sql_bind.proofs.conditions.+flatten.Given as goal

abbrev pub invariant-flatten_all-loop-member : goal.invariant-flatten_all-loop-member
invariant-flatten_all-loop-member l =
    map conjunct_of l.terms.items
    ++ map (with_owner l.owner) (flat_all (plain_members (drop l.member-index l.member-items)))
    ≡ map conjunct_of l.fn.terms.items ++ map (with_owner l.owner) (flat_all (members_of l.list))
