use Rattle.plan_choice.specs.Settings.{table_for}
use Rattle.access_paths.specs.NextItems.{setting_for}
use Rattle.access_paths.proofs.ItemLookups.{index_there}
use Rattle.access_paths.proofs.listing.push_indexes.Goals as goal

pub index_offer-requires-clause-index : goal.index_offer-requires-clause-index
index_offer-requires-clause-index c =
    let next = c.args.next.now in
    index_there next.setting.schema.now (table_for (setting_for next) next.item)
    c.loop-index.index-index 0 next.indexes.now c.requires.next.indexes c.loop-index-test.true
