use Rattle.std.proofs.Common.{ap, sym, subst, ◌∙◌, ◌∷◌, [], ◌++◌, ◌+◌, List, map, take}
use Rattle.sql_meaning.specs.Schemas as plain
use Rattle.schema_model.specs.PlainSchemas.{plain_index_column}
use Rattle.schema_model.specs.declared.indexes.IndexColumn.{IndexColumn}
use Rattle.candidate_index.specs.Beginnings.{Serves}
use Rattle.candidate_index.specs.Known.{usable}
use Rattle.candidate_index.specs.declared.beginnings.Beginnings.{Beginnings}
use Rattle.candidate_index.proofs.UsableIndexes.{usable_more, usable_same}
use Rattle.candidate_index.proofs.beginnings.own_beginnings.Goals as goal
use Rattle.candidate_index.proofs.beginnings.own_beginnings.Goals.{then-index+in_ok-add, else-index}

pub loop-number-preserved : goal.loop-number-preserved
loop-number-preserved c =
    let all = c.args.schema.now.indexes in
    let n = c.loop-number.number in
    let index = c.index-index.result.now in
    elim c.if-index.branch [
      | then-index+in_ok-add w ↦
          subst (λ (b : Beginnings). Serves b (usable (take (n + 1) all))) (sym w.own-is)
          (subst (λ (x : List plain.Index). Serves w.add.new.self x)
          (ap (λ (cs : List IndexColumn). usable (take n all)
          ++ record { table = index.table; columns = map plain_index_column cs } ∷ [])
          w.as_slice.ensures ∙ sym (usable_more all n index c.index-index.ensures w.if-index.true))
          (w.in_ok-add.ensures (usable (take n all)) c.loop-number.invariant))
      | else-index w ↦
          subst (λ (b : Beginnings). Serves b (usable (take (n + 1) all))) (sym w.own-is)
          (subst (λ (x : List plain.Index). Serves c.loop-number.own x)
          (sym (usable_same all n index c.index-index.ensures w.if-index.false))
          c.loop-number.invariant)
    ]
