use Rattle.std.proofs.Common.{◌≡◌, map}
use Rattle.sql_meaning.specs.Statements.{numbers_from}
use Rattle.plan_choice.specs.Figures as meant
use Rattle.stat_figures.proofs.defaults.default_figures.Given as goal

abbrev pub invariant-loop-k : goal.invariant-loop-k
invariant-loop-k l =
    l.figures ≡ map (meant.default_figure l.unique l.columns) (numbers_from 0 l.k)
