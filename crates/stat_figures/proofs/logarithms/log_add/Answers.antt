use Rattle.std.proofs.Common.{rules, ◌≡◌, ap, ◌∙◌, ℤ, pos, to_z, of_z, w32}
use Rattle.stat_figures.specs.Sums.{log_sum}
use Rattle.stat_figures.proofs.Sums.{sum_of_numbers}
use Rattle.stat_figures.proofs.logarithms.log_add.Goals as goal

pub returns-clause-numbers : goal.returns-clause-numbers
returns-clause-numbers c = λ n m e h.
    let told : to_z w32 (of_z w32 c.raised.result) ≡ log_sum c.args.a c.args.b = search rules in
    told ∙ ap (λ (x : ℤ). log_sum x c.args.b) e ∙ ap (log_sum (pos n)) h ∙ sum_of_numbers n m
