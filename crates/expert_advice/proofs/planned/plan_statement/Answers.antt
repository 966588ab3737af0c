use Rattle.std.proofs.Common.{◌≤ℤ◌, ◌<ℤ◌, pos, ℤ, ap, sym, ◌∙◌, subst}
use Rattle.plan_choice.specs.Choice.{choose}
use Rattle.plan_choice.specs.Settings as meant
use Rattle.sql_bound.specs.declared.statement.Bound.{Bound}
use Rattle.plan_form.specs.Texts.{aliases_of}
use Rattle.access_paths.specs.Settings.{setting_of}
use Rattle.expert_advice.specs.Planned.{IsSeenAs, told_of}
use Rattle.expert_advice.proofs.PlansThatFit.{own_setting}
use Rattle.expert_advice.proofs.planned.plan_statement.Goals as goal

pub returns-clause-told : goal.returns-clause-told
returns-clause-told c =
    let s = c.args.setting.now in
    let full = s.schema.now in
    let own = c.args.own in
    let chosen = choose (setting_of s) in
    let seen : IsSeenAs c.in_ok-chosen.chosen chosen = record {
      plan = c.in_ok-chosen.ensures.plan;
      covering = c.in_ok-chosen.ensures.covering;
      cost = c.in_ok-chosen.ensures.cost;
      written = c.in_ok-chosen.ensures.written;
    } in
    c.in_ok-planned.ensures.told chosen seen
    ∙ ap (λ (b : Bound). told_of full (aliases_of b.items.now) own chosen)
    c.in_ok-chosen.ensures.bound
    ∙ ap (λ (z : meant.Setting). told_of full (aliases_of s.bound.now.items.now) own (choose z))
    (own_setting s c.requires.ready)

pub returns-clause-no_more : goal.returns-clause-no_more
returns-clause-no_more c =
    subst (λ (z : ℤ). z ≤ℤ c.in_ok-planned.planned.written) (sym c.in_ok-planned.ensures.cost)
    (subst (λ (z : ℤ). c.in_ok-chosen.chosen.cost ≤ℤ z) (sym c.in_ok-planned.ensures.written)
    c.in_ok-chosen.ensures.no_more)

pub returns-clause-small : goal.returns-clause-small
returns-clause-small c =
    subst (λ (z : ℤ). z <ℤ pos 1000000) (sym c.in_ok-planned.ensures.written)
    c.in_ok-chosen.ensures.cheap.1
