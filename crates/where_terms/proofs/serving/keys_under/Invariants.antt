use Rattle.std.proofs.Common.{◌≡◌, ◌++◌, drop, map, option_map}
use Rattle.sql_value.specs.View.{plain_collation}
use Rattle.sql_meaning.specs.Serving.{keys_under}
use Rattle.sql_bound.specs.Expressions.{members_of}
use Rattle.sql_bound.specs.Statements.{key_expr_of}
use Rattle.sql_bound.proofs.Members.{plain_members}
use Rattle.sql_bound.specs.Columns.{site_of}
use Rattle.where_terms.proofs.serving.keys_under.Given as goal

abbrev pub invariant-loop-member : goal.invariant-loop-member
invariant-loop-member l =
    option_map (λ ks. map key_expr_of l.keys.items ++ ks)
    (keys_under l.item (site_of l.column) (plain_collation l.coll)
    (plain_members (drop l.member-index l.member-items)))
    ≡ keys_under l.item (site_of l.column) (plain_collation l.coll) (members_of l.list)
