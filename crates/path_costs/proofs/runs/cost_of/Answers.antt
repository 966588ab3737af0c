use Rattle.std.specs.Prelude.{unsigned_abs}
use Rattle.std.proofs.Common.{ap, ◌∙◌, to_z, of_z, w32}
use Rattle.plan_choice.specs.Costs.{sized}
use Rattle.path_costs.specs.Views.{shape_of, told_size}
use Rattle.path_costs.proofs.Casts.{number_back}
use Rattle.path_costs.proofs.runs.cost_of.Goals as goal

pub returns : goal.returns
returns c = λ t e s rows entries seeks.
    let shape = shape_of c.args.shape in
    let entries_in = unsigned_abs (to_z w32 (of_z w32 c.args.entries)) in
    let seeks_in = unsigned_abs (to_z w32 (of_z w32 c.args.seeks)) in
    c.thinned.ensures (sized shape t e s)
    (c.sized-size.ensures
    ∙ ap (λ n. told_size (sized shape n entries_in seeks_in))
    (number_back c.args.table_rows t c.ranges.table_rows rows)
    ∙ ap (λ n. told_size (sized shape t n seeks_in))
    (number_back c.args.entries e c.ranges.entries entries)
    ∙ ap (λ n. told_size (sized shape t e n)) (number_back c.args.seeks s c.ranges.seeks seeks))
