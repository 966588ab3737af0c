use Rattle.std.proofs.Common.{◌≡◌, map, take}
use Rattle.sql_bound.proofs.placing.place_list.Given as goal

abbrev pub invariant-loop-expr : goal.invariant-loop-expr
invariant-loop-expr l = map (λ member. member.now) l.places.items ≡ take l.expr-index l.list
