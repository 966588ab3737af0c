use Rattle.std.proofs.Common.{rules, ◌≡◌, arith, pos, to_z, of_z, w32}
use Rattle.std.proofs.lemmas.Int.{to_z_pos}
use Rattle.plan_choice.specs.Logarithms.{log_add}
use Rattle.plan_choice.proofs.CostBounds.{log_add_small}
use Rattle.path_costs.proofs.Casts.{small_back, told_back}
use Rattle.path_costs.proofs.logs.log_sum.Goals as goal

sum_is : (c : goal.After-log_add) → c.log_add.result ≡ pos (log_add c.args.a c.args.b)
sum_is c =
    let a = c.requires.a in
    let b = c.requires.b in
    c.log_add.ensures.numbers c.args.a c.args.b (to_z_pos w32 c.args.a (omega (arith, a)))
    (to_z_pos w32 c.args.b (omega (arith, b)))

pub overflow_cast-result : goal.overflow_cast-result
overflow_cast-result c =
    let told : to_z w32 (of_z w32 c.log_add.result) ≡ pos (log_add c.args.a c.args.b) =
    told_back c.log_add.result _ (search rules) (sum_is c) in
    let small = log_add_small c.args.a c.args.b 1000639 c.requires.a c.requires.b in
    rw told (tt, search rules)

pub returns-clause-small : goal.returns-clause-small
returns-clause-small c =
    small_back c.log_add.result _ 1000649 (search rules) (sum_is c)
    (log_add_small c.args.a c.args.b 1000639 c.requires.a c.requires.b)
