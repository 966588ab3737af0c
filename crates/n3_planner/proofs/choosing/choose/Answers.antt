use Rattle.std.proofs.Common.{subst, sym, arith}
use Rattle.std.proofs.lemmas.Int.{ints}
use Rattle.sql_meaning.specs.Asked.{Means}
use Rattle.sql_meaning.specs.Plans.{Plan}
use Rattle.plan_choice.specs.Choice.{chosen_prefix, written}
use Rattle.sql_bound.specs.Statements.{needs_of}
use Rattle.sql_bound.specs.declared.statement.Bound.{Bound}
use Rattle.plan_form.specs.Fits.{FitsSchema}
use Rattle.plan_form.specs.Plans.{plan_of}
use Rattle.access_paths.specs.Settings.{setting_of}
use Rattle.n3_planner.proofs.ChosenPlans.{chosen_is_good}
use Rattle.n3_planner.proofs.ShownPrefixes.{shown_cost}
use Rattle.n3_planner.proofs.choosing.choose.Goals as goal

pub returns-clause-cost : goal.returns-clause-cost
returns-clause-cost c =
    let s = setting_of c.args.setting.now in
    let r = c.requires.ready in
    let good = chosen_is_good s r.terms r.fits c.figures_are_small.ensures in
    shown_cost s (chosen_prefix s) c.in_ok-best.best.now c.in_ok-best.ensures good.cost

pub returns-clause-no_more : goal.returns-clause-no_more
returns-clause-no_more c =
    let s = setting_of c.args.setting.now in
    let r = c.requires.ready in
    let good = chosen_is_good s r.terms r.fits c.figures_are_small.ensures in
    omega (
      arith,
      ints,
      shown_cost s (chosen_prefix s) c.in_ok-best.best.now c.in_ok-best.ensures good.cost,
      shown_cost s (written s) c.in_ok-written.written.now c.in_ok-written.ensures good.written,
      good.no_more,
    )

pub returns-clause-cheap : goal.returns-clause-cheap
returns-clause-cheap c =
    let s = setting_of c.args.setting.now in
    let r = c.requires.ready in
    let good = chosen_is_good s r.terms r.fits c.figures_are_small.ensures in
    let cost =
    shown_cost s (chosen_prefix s) c.in_ok-best.best.now c.in_ok-best.ensures good.cost in
    let most =
    shown_cost s (written s) c.in_ok-written.written.now c.in_ok-written.ensures good.written in
    (omega (arith, ints, cost, good.cost), omega (arith, ints, most, good.written))

pub returns-clause-means : goal.returns-clause-means
returns-clause-means c =
    let s = setting_of c.args.setting.now in
    let r = c.requires.ready in
    subst (Means s.schema) (sym c.in_ok-plan.ensures.plan)
    (chosen_is_good s r.terms r.fits c.figures_are_small.ensures).means

pub returns-clause-fits : goal.returns-clause-fits
returns-clause-fits c =
    let s = setting_of c.args.setting.now in
    let r = c.requires.ready in
    subst (λ (b : Bound). FitsSchema s.schema (plan_of c.in_ok-plan.plan) (needs_of b))
    (sym c.in_ok-plan.ensures.bound)
    (subst (λ (p : Plan). FitsSchema s.schema p s.needs) (sym c.in_ok-plan.ensures.plan)
    (chosen_is_good s r.terms r.fits c.figures_are_small.ensures).fits)
