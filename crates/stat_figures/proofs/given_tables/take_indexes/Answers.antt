use Rattle.std.proofs.Common.{arith, ap, ◌∙◌, Some, length, ◌-◌, ◌+◌, slice_index_or}
use Rattle.std.specs.Option.{option_map}
use Rattle.std.proofs.lemmas.List.{length-set}
use Rattle.std.proofs.lemmas.Option.{slice_get-map}
use Rattle.schema_model.specs.Schemas.{IsIndexOf}
use Rattle.schema_model.specs.PlainSchemas.{plain_index, plain_schema}
use Rattle.stat_figures.specs.GivenCounts.{plain_counts, plain_slots}
use Rattle.stat_figures.proofs.GivenLists.{index_none, index_some}
use Rattle.stat_figures.proofs.Lists.{all_at, get_at, some_at}
use Rattle.stat_figures.proofs.given_tables.take_indexes.Goals as goal
use Rattle.stat_figures.proofs.given_tables.take_indexes.Goals.{in-Some, in_default}

pub loop-passed-preserved : goal.loop-passed-preserved
loop-passed-preserved c =
    let schema = c.args.schema.now in
    let slots = c.args.slots.now in
    let count = c.index_count-count.result in
    let passed = c.loop-passed.passed in
    let n = count - 1 - passed in
    let tables = c.loop-passed.tables.items in
    let held = get_at slots n c.index-slots-number.result (omega arith) c.index-slots-number.is in
    elim c.match-slots-number.branch [
      | in-Some w ↦ (
          let index = w.index.result.now in
          let sound = all_at (IsIndexOf schema.tables) schema.indexes n index
          c.schema_is_sound.ensures.indexes w.index.ensures in
          let below = sound.table in
          record {
            len = ap (λ t. length t.items) w.tables-is
                ∙ length-set tables index.table w.first_log.result ∙ c.loop-passed.invariant.len;
            taken = λ k h.
                ap (λ t. slice_index_or t.items k 0) w.tables-is
                ∙ index_some (plain_schema schema).indexes (plain_slots slots) n
                (count - (passed + 1)) (count - passed) k
                (slice_index_or c.args.tables.now.items k 0)
                w.first_log.result (plain_index index) (plain_counts w.in-Some.counts) tables
                (slice_get-map plain_index schema.indexes n
                ∙ ap (option_map plain_index) w.index.ensures)
                (slice_get-map (option_map plain_counts) slots n
                ∙ ap (option_map (option_map plain_counts)) (held ∙ ap Some w.in-Some.is))
                (omega arith) (omega arith)
                (omega (arith, below, c.requires.tables, c.loop-passed.invariant.len))
                w.first_log.ensures (c.loop-passed.invariant.taken k h);
          }
          )
      | in_default w ↦ (
          let there = some_at schema.indexes n (omega arith) in
          record {
            len = ap (λ t. length t.items) w.tables-is ∙ c.loop-passed.invariant.len;
            taken = λ k h.
                ap (λ t. slice_index_or t.items k 0) w.tables-is
                ∙ index_none (plain_schema schema).indexes (plain_slots slots) n
                (count - (passed + 1)) (count - passed) k
                (slice_index_or c.args.tables.now.items k 0)
                (plain_index there.0) tables
                (slice_get-map plain_index schema.indexes n ∙ ap (option_map plain_index) there.1)
                (slice_get-map (option_map plain_counts) slots n
                ∙ ap (option_map (option_map plain_counts)) (held ∙ ap Some w.in_default.is))
                (omega arith) (omega arith) (c.loop-passed.invariant.taken k h);
          }
          )
    ]
