use Rattle.std.proofs.Common.{◌≡◌, drop}
use Rattle.sql_meaning.specs.Expressions.{all_names}
use Rattle.sql_bound.specs.Expressions.{members_of}
use Rattle.sql_bound.specs.Naming.{farther_of, standing_all}
use Rattle.sql_bound.proofs.Members.{plain_members}
use Rattle.sql_bound.proofs.serving.+expr_standing.Given as goal

abbrev pub invariant-list_standing-loop-member : goal.invariant-list_standing-loop-member
invariant-list_standing-loop-member l =
    farther_of l.all
    (standing_all l.placed l.item (all_names (plain_members (drop l.member-index l.member-items))))
    ≡ standing_all l.placed l.item (all_names (members_of l.list))
