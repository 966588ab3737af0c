use Rattle.std.proofs.Common.{rules, cond, sym, ap, ◌∙◌, pos}
use Rattle.plan_choice.specs.Logarithms.{log_add, sort_cost}
use Rattle.plan_choice.specs.Prefixes.{is_lost}
use Rattle.loop_orders.specs.Walks.{state_of}
use Rattle.loop_orders.specs.declared.state.OrderState.{OrderState}
use Rattle.nearest_prefixes.proofs.Numbers.{told_back}
use Rattle.nearest_prefixes.proofs.extending.weight.Goals as goal

pub returns-in-Lost : goal.returns-in-Lost
returns-in-Lost c = λ n r e f.
    told_back c.sorted_cost.result _ (search rules)
    (c.sorted_cost.ensures n r (told_back c.args.cost n c.ranges.cost e)
    (told_back c.args.rows r c.ranges.rows f))
    ∙ ap (λ (o : OrderState). pos (cond (is_lost (state_of o)) (log_add n (sort_cost r)) n))
    (sym c.in-Lost.is)
