use Rattle.std.proofs.Common.{◌≡◌, ◌++◌, drop, option_map}
use Rattle.schema_model.specs.PlainSchemas.{plain_schema}
use Rattle.sql_bound.specs.Expressions.{members_of}
use Rattle.sql_bound.specs.Statements.{bound_of}
use Rattle.sql_bound.proofs.Members.{plain_members}
use Rattle.where_terms.specs.Views.{branches_of}
use Rattle.where_terms.specs.Listed.{branches_from}
use Rattle.where_terms.proofs.branches.branches.Given as goal

abbrev pub invariant-loop-member : goal.invariant-loop-member
invariant-loop-member l =
    option_map (λ bs. branches_of l.branches.items ++ bs)
    (branches_from (plain_schema l.schema) (bound_of l.bound) l.item l.number l.derives
    (plain_members (drop l.member-index l.member-items)))
    ≡ branches_from (plain_schema l.schema) (bound_of l.bound) l.item l.number l.derives
    (members_of l.list)
