use Rattle.std.proofs.Common.{◌≡◌, ◌++◌, drop, map, option_map}
use Rattle.sql_value.specs.View.{plain_affinity}
use Rattle.sql_meaning.specs.Terms.{entry_keys}
use Rattle.sql_bound.specs.Expressions.{members_of}
use Rattle.sql_bound.specs.Statements.{key_expr_of}
use Rattle.sql_bound.proofs.Members.{plain_members}
use Rattle.where_terms.proofs.serving.entry_keys.Given as goal

abbrev pub invariant-loop-member : goal.invariant-loop-member
invariant-loop-member l =
    map key_expr_of l.keys.items
    ++ entry_keys (option_map plain_affinity l.conv)
    (plain_members (drop l.member-index l.member-items))
    ≡ entry_keys (option_map plain_affinity l.conv) (members_of l.list)
