use Rattle.std.proofs.Common.{rules, ◌≡◌, arith, pos, to_z, of_z, w32}
use Rattle.std.proofs.lemmas.Int.{ints}
use Rattle.plan_choice.specs.Logarithms.{sort_cost}
use Rattle.plan_choice.proofs.CostBounds.{seek_small}
use Rattle.nearest_prefixes.proofs.Numbers.{told_back}
use Rattle.nearest_prefixes.proofs.extending.sorted_cost.Goals as goal

pub log_add-requires-clause-b_low : goal.log_add-requires-clause-b_low
log_add-requires-clause-b_low c =
    let rows = c.requires.rows in
    let told : to_z w32 (of_z w32 c.sort_cost.result) ≡ pos (sort_cost rows.number) =
    told_back c.sort_cost.result _ (search rules)
    (c.sort_cost.ensures rows.number
    (told_back c.args.rows rows.number c.ranges.rows rows.is)) in
    omega (arith, ints, told)

pub log_add-requires-clause-b_high : goal.log_add-requires-clause-b_high
log_add-requires-clause-b_high c =
    let rows = c.requires.rows in
    let told : to_z w32 (of_z w32 c.sort_cost.result) ≡ pos (sort_cost rows.number) =
    told_back c.sort_cost.result _ (search rules)
    (c.sort_cost.ensures rows.number
    (told_back c.args.rows rows.number c.ranges.rows rows.is)) in
    let few = rows.few in
    let seek = seek_small rows.number in
    omega (arith, ints, told, few, seek)

pub returns : goal.returns
returns c = λ n r e f.
    told_back c.log_add.result _ (search rules)
    (c.log_add.ensures.numbers n (sort_cost r) (told_back c.args.cost n c.ranges.cost e)
    (told_back c.sort_cost.result (sort_cost r) (search rules)
    (c.sort_cost.ensures r (told_back c.args.rows r c.ranges.rows f))))
