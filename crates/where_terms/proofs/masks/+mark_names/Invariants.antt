use Rattle.std.proofs.Common.{◌≡◌, drop}
use Rattle.sql_meaning.specs.Expressions.{all_names}
use Rattle.sql_bound.specs.Expressions.{members_of}
use Rattle.sql_bound.proofs.Members.{plain_members}
use Rattle.where_terms.specs.Masks.{marked_all}
use Rattle.where_terms.proofs.masks.+mark_names.Given as goal

abbrev pub invariant-mark_list-loop-member : goal.invariant-mark_list-loop-member
invariant-mark_list-loop-member l =
    marked_all l.marked (all_names (plain_members (drop l.member-index l.member-items)))
    ≡ marked_all l.fn.mask (all_names (members_of l.list))
