use Rattle.std.proofs.Common.{◌≡◌, ◌++◌, map, drop}
use Rattle.sql_meaning.specs.Expressions.{flat_all}
use Rattle.sql_bound.specs.Expressions.{expr_of, members_of}
use Rattle.sql_bound.proofs.Members.{plain_members}
use Rattle.where_terms.proofs.branches.+flatten.Given as goal

abbrev pub invariant-flatten_all-loop-member : goal.invariant-flatten_all-loop-member
invariant-flatten_all-loop-member l =
    map (λ e. expr_of e.now) l.list.items
    ++ flat_all (plain_members (drop l.member-index l.member-items))
    ≡ map (λ e. expr_of e.now) l.fn.list.items ++ flat_all (members_of l.members)
