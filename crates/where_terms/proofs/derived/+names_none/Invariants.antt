use Rattle.std.proofs.Common.{◌≡◌, drop}
use Rattle.sql_meaning.specs.Expressions.{all_names}
use Rattle.sql_meaning.specs.Statements.{is_empty}
use Rattle.sql_bound.specs.Expressions.{members_of}
use Rattle.sql_bound.proofs.Members.{plain_members}
use Rattle.where_terms.proofs.derived.+names_none.Given as goal

abbrev pub invariant-all_name_none-loop-member : goal.invariant-all_name_none-loop-member
invariant-all_name_none-loop-member l =
    is_empty (all_names (plain_members (drop l.member-index l.member-items)))
    ≡ is_empty (all_names (members_of l.list))
