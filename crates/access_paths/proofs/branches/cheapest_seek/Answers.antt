use Rattle.std.proofs.Common.{false, ap, sym, ◌∙◌, map, option_map, drop, get_or}
use Rattle.std.proofs.Common.{◌+◌}
use Rattle.std.specs.List.{flat_map}
use Rattle.where_terms.specs.Views.{column_terms_of}
use Rattle.list_laws.proofs.Turns.{dropped_or}
use Rattle.plan_choice.specs.Offers.{lightest, branch_seek}
use Rattle.plan_choice.specs.Settings.{table_for}
use Rattle.access_paths.specs.Placed.{items_in}
use Rattle.access_paths.specs.Seeks.{seen_seek, told_seek}
use Rattle.access_paths.specs.NextItems.{setting_for}
use Rattle.access_paths.specs.Branches.{lighter_of, seen_run, told_in}
use Rattle.access_paths.proofs.BranchSeeks.{cheapest_start, cheapest_more}
use Rattle.access_paths.proofs.ItemLookups.{index_there}
use Rattle.access_paths.proofs.branches.cheapest_seek.Goals as goal

pub loop-index-init : goal.loop-index-init
loop-index-init c =
    let next = c.args.next.now in
    record {
      told =
          cheapest_start (setting_for next) (items_in next.placed) next.item
          (map column_terms_of c.args.columns.now) (option_map seen_seek c.in_ok-best.best)
          next.indexes.now c.in_ok-best.ensures.told c.requires.next.indexes;
      plain = c.in_ok-best.ensures.plain;
    }

pub seek_in-requires-clause-index : goal.seek_in-requires-clause-index
seek_in-requires-clause-index c =
    let next = c.args.next.now in
    index_there next.setting.schema.now (table_for (setting_for next) next.item)
    c.loop-index.index-index 0 next.indexes.now c.requires.next.indexes c.loop-index-test.true

pub loop-index-preserved : goal.loop-index-preserved
loop-index-preserved c =
    let next = c.args.next.now in
    let s = setting_for next in
    let placed = items_in next.placed in
    let columns = map column_terms_of c.args.columns.now in
    let indexes = next.indexes.now in
    let i = c.loop-index.index-index in
    record {
      told =
          cheapest_more s placed next.item columns (option_map seen_seek c.loop-index.best)
          (option_map seen_seek c.in_ok-found.found) (option_map seen_seek c.cheaper-best.result)
          (option_map (told_seek false) (branch_seek s placed next.item columns))
          (get_or indexes i 0) (drop (i + 1) indexes) c.in_ok-found.ensures.told
          c.cheaper-best.ensures.told
          (sym
          (ap
          (λ is. lighter_of (seen_run s next.item) (option_map seen_seek c.loop-index.best)
          (lightest (seen_run s next.item) (flat_map (told_in s placed next.item columns) is)))
          (dropped_or indexes i 0 c.loop-index-test.true))
          ∙ c.loop-index.invariant.told);
      plain = c.cheaper-best.ensures.plain;
    }
