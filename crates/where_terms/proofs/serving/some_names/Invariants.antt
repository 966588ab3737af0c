use Rattle.std.proofs.Common.{◌≡◌, drop}
use Rattle.sql_meaning.specs.Expressions.{all_names}
use Rattle.sql_meaning.specs.Statements.{has_number}
use Rattle.sql_bound.specs.Expressions.{members_of}
use Rattle.sql_bound.proofs.Members.{plain_members}
use Rattle.where_terms.proofs.serving.some_names.Given as goal

abbrev pub invariant-loop-member : goal.invariant-loop-member
invariant-loop-member l =
    has_number l.item (all_names (plain_members (drop l.member-index l.member-items)))
    ≡ has_number l.item (all_names (members_of l.list))
