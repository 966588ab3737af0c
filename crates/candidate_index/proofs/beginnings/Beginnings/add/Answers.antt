use Rattle.std.proofs.Common.{sym, subst, List, [], ◌∷◌, ◌++◌, map}
use Rattle.schema_model.specs.PlainSchemas.{plain_index_column}
use Rattle.candidate_index.specs.Beginnings.{Serves}
use Rattle.candidate_index.specs.declared.beginnings.Step.{Step}
use Rattle.candidate_index.proofs.Trees.{serves_more}
use Rattle.candidate_index.proofs.TreeWalks.{put_on, put_done}
use Rattle.candidate_index.proofs.beginnings.Beginnings.add.Goals as goal

pub loop-column-preserved : goal.loop-column-preserved
loop-column-preserved c =
    put_on c.loop-column.self-inside.steps.keys c.insert_full.new.self.keys c.loop-column.node
    c.args.columns.now c.loop-column.column-index _ c.step_by.result c.in_ok-number.number _
    c.loop-column-test.true c.step_by.ensures c.in_ok-number.ensures.keys
    c.in_ok-number.ensures.index c.loop-column.invariant

pub returns : goal.returns
returns c = λ known h.
    let columns = c.args.columns.now in
    subst (λ (x : List Step). Serves x (known
    ++ record { table = c.args.table; columns = map plain_index_column columns } ∷ []))
    (sym (put_done c.loop-column.self-inside.steps.keys c.loop-column.node columns
    c.loop-column.column-index _ c.loop-column-test.false c.loop-column.invariant))
    (serves_more c.self.inside.steps.keys known c.args.table columns c.self.invariant
    (subst (λ (x : List Step). Serves x known) (sym c.self.view_is) h))
