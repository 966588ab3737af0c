use Rattle.std.proofs.Common.{rules, ◌==◌, ◌+◌, arith, ap, sym, ◌∙◌, cond, pos}
use Rattle.plan_choice.specs.Logarithms.{log_add, sort_cost}
use Rattle.plan_choice.specs.Prefixes as meant
use Rattle.sql_meaning.specs.OrderState.{State}
use Rattle.access_paths.specs.Settings.{setting_of}
use Rattle.loop_orders.specs.Walks.{state_of}
use Rattle.nearest_prefixes.specs.Prefixes.{SeenLoop, seen_loop}
use Rattle.nearest_prefixes.proofs.Standings.{own}
use Rattle.nearest_prefixes.proofs.Numbers.{told_back, log_back, wider, joined_small, first_cost}
use Rattle.nearest_prefixes.proofs.Extensions.{shows_more, order_more}
use Rattle.nearest_prefixes.proofs.extending.inside.Goals as goal

pub sum-runs-requires-clause-a : goal.sum-runs-requires-clause-a
sum-runs-requires-clause-a c =
    wider 64000 1000000 c.args.outer.rows (search rules) (omega arith) c.requires.light.rows

pub sum-runs-requires-clause-b : goal.sum-runs-requires-clause-b
sum-runs-requires-clause-b c =
    wider 100709 1000000 c.args.offer.now.cost.run (search rules) (omega arith)
    c.requires.light.run

pub joined_cost-cost-requires-clause-cost : goal.joined_cost-cost-requires-clause-cost
joined_cost-cost-requires-clause-cost c =
    wider 165060 1000000 c.args.outer.cost (search rules) (omega arith) c.requires.light.cost

pub joined_cost-cost-requires-clause-runs : goal.joined_cost-cost-requires-clause-runs
joined_cost-cost-requires-clause-runs c =
    let l = c.requires.light in
    let rows = l.rows.few in
    let run = l.run.few in
    log_back 1000000 c.sum-runs.result (l.rows.number + l.run.number) (search rules)
    (c.sum-runs.ensures l.rows.number l.run.number
    (told_back c.args.outer.rows l.rows.number (search rules) l.rows.is)
    (told_back c.args.offer.now.cost.run l.run.number (search rules) l.run.is))
    (omega (arith, rows, run))

pub weight-requires-clause-cost : goal.weight-requires-clause-cost
weight-requires-clause-cost c =
    let l = c.requires.light in
    let runs = l.rows.number + l.run.number in
    let cost = l.cost.few in
    let rows = l.rows.few in
    let run = l.run.few in
    let small = joined_small (c.args.outer.length == 0) l.cost.number runs 165060 cost
    (omega (arith, rows, run)) in
    log_back 1000000 c.joined_cost-cost.result _ (search rules)
    (c.joined_cost-cost.ensures l.cost.number runs
    (told_back c.args.outer.cost l.cost.number (search rules) l.cost.is)
    (told_back c.sum-runs.result runs (search rules)
    (c.sum-runs.ensures l.rows.number l.run.number
    (told_back c.args.outer.rows l.rows.number (search rules) l.rows.is)
    (told_back c.args.offer.now.cost.run l.run.number (search rules) l.run.is))))
    (omega (arith, small))

pub weight-requires-clause-rows : goal.weight-requires-clause-rows
weight-requires-clause-rows c =
    let l = c.requires.light in
    let rows = l.rows.few in
    let more = l.more.few in
    log_back 1000000 c.sum-rows.result (l.rows.number + l.more.number) (search rules)
    (c.sum-rows.ensures l.rows.number l.more.number
    (told_back c.args.outer.rows l.rows.number (search rules) l.rows.is)
    (told_back c.args.offer.now.cost.rows l.more.number (search rules) l.more.is))
    (omega (arith, rows, more))

pub returns : goal.returns
returns c = λ p t begins follows told.
    let s = setting_of c.args.setting.now in
    let outer = c.args.outer in
    let q = meant.extended s p t in
    let runs = p.rows + t.offer.cost.run in
    let out = c.requires.outer p begins in
    let rows_before = told_back outer.rows p.rows (search rules) out.rows in
    let run_is = told_back c.args.offer.now.cost.run t.offer.cost.run (search rules)
    (sym (ap (λ (z : SeenLoop). z.offer.cost.run) told)) in
    let more_is = told_back c.args.offer.now.cost.rows t.offer.cost.rows (search rules)
    (sym (ap (λ (z : SeenLoop). z.offer.cost.rows) told)) in
    let cost = told_back c.joined_cost-cost.result q.cost (search rules)
    (c.joined_cost-cost.ensures p.cost runs
    (told_back outer.cost p.cost (search rules) out.cost)
    (told_back c.sum-runs.result runs (search rules)
    (c.sum-runs.ensures p.rows t.offer.cost.run rows_before run_is))
    ∙ ap pos (first_cost outer.length p.loops p.cost runs out.length)) in
    let rows = told_back c.sum-rows.result q.rows (search rules)
    (c.sum-rows.ensures p.rows t.offer.cost.rows rows_before more_is) in
    let state = order_more s p t c.args.before outer
    (seen_loop c.args.item c.args.number c.args.offer.now)
    (state_of c.order_inside-order.result) (own c.args.setting.now c.requires.ready) begins follows
    out told c.order_inside-order.ensures in
    shows_more s p t _ begins follows
    (record {
      told = told;
      length = ap (λ n. n + 1) out.length;
      cost = cost;
      rows = rows;
      weight = told_back c.weight.result _ (search rules) (c.weight.ensures q.cost q.rows cost rows)
          ∙ ap (λ (st : State). pos (cond (meant.is_lost st) (log_add q.cost (sort_cost q.rows))
          q.cost)) state;
      state = state;
      placed = c.with_item.ensures (meant.placed_in p) out.placed;
    })
