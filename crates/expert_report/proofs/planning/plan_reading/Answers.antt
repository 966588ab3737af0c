use Rattle.std.proofs.Common.{List, sym, subst}
use Rattle.plan_form.specs.Texts.{aliases_of}
use Rattle.expert_advice.specs.Planned.{statement_of}
use Rattle.expert_report.specs.Planning.{MarksOf}
use Rattle.expert_report.specs.ReadStatements.{reading}
use Rattle.expert_report.specs.Readings.{bound_if_any}
use Rattle.expert_report.specs.declared.script.Reading.{Reading}
use Rattle.expert_report.proofs.Marks.{marks_one}
use Rattle.expert_report.proofs.planning.plan_reading.Goals as goal

pub returns-in_ok-planned-in-Bound-clause-uses : goal.returns-in_ok-planned-in-Bound-clause-uses
returns-in_ok-planned-in-Bound-clause-uses c =
    let bound = c.in-Bound.statement.bound.now in
    subst (λ (r : Reading). MarksOf c.args.ground.now c.args.uses.now c.mark.new.self
    (bound_if_any (reading r))) (sym c.in-Bound.is)
    (marks_one c.args.ground.now (statement_of bound) (aliases_of bound.items.now)
    c.in_ok-planned-in-Bound.planned c.as_slice.result.now c.args.uses.now c.mark.new.self
    c.in_ok-planned-in-Bound.ensures.told c.as_slice.ensures c.mark.ensures)
