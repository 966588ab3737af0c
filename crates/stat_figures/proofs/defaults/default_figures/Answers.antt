use Rattle.std.proofs.Common.{refl, arith, rules, ◌∙◌, ap, suc, ◌≡◌, ℕ, ◌+◌, map}
use Rattle.sql_meaning.specs.Statements.{numbers_from}
use Rattle.plan_choice.specs.Figures as meant
use Rattle.stat_figures.proofs.Lists.{listed_more}
use Rattle.stat_figures.proofs.defaults.default_figures.Goals as goal

pub loop-k-preserved : goal.loop-k-preserved
loop-k-preserved c =
    listed_more (meant.default_figure c.args.unique c.args.columns) c.loop-k.k
    c.loop-k.k _ _ _ refl c.in_ok-push.ensures.ok c.loop-k.invariant
    (search rules)

one_more : (n : ℕ) → n + 1 ≡ suc n
one_more n = omega arith

pub returns : goal.returns
returns c =
    let figure = meant.default_figure c.args.unique c.args.columns in
    listed_more figure c.loop-k.k
    c.args.columns _ _ _ (omega arith) c.in_ok-push-2.ensures.ok c.loop-k.invariant
    (search rules)
    ∙ ap (λ n. map figure (numbers_from 0 n)) (one_more c.args.columns)
