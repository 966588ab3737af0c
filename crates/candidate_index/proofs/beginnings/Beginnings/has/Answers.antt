use Rattle.std.proofs.Common.{ap, sym, ◌∙◌, is_some}
use Rattle.candidate_index.proofs.TreeWalks.{lead_on}
use Rattle.candidate_index.proofs.beginnings.Beginnings.has.Goals as goal

pub returns-in-None : goal.returns-in-None
returns-in-None c =
    ap is_some (lead_on c.self.inside.steps.keys c.args.self.now c.loop-column.node
    c.args.columns.now c.loop-column.column-index _ c.step_by.result _ _ c.self.view_is
    c.loop-column-test.true c.step_by.ensures (sym c.in-None.is ∙ c.get_index_of.ensures.index)
    c.loop-column.invariant)

pub loop-column-preserved : goal.loop-column-preserved
loop-column-preserved c =
    lead_on c.self.inside.steps.keys c.args.self.now c.loop-column.node c.args.columns.now
    c.loop-column.column-index _ c.step_by.result _ _ c.self.view_is c.loop-column-test.true
    c.step_by.ensures (sym c.in-Some.is ∙ c.get_index_of.ensures.index) c.loop-column.invariant
