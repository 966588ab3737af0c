-- An item that may come next, and what is looked up for it.
use Rattle.std.specs.Prelude.{◌≡◌, ◌<◌, length}
use Rattle.sql_meaning.specs.Statements.{item_alias}
use Rattle.schema_model.specs.PlainSchemas.{plain_schema}
use Rattle.sql_bound.specs.Statements.{bound_of}
use Rattle.plan_choice.specs.Settings as meant
use Rattle.path_costs.specs.Due.{due_from}
use Rattle.access_paths.specs.Placed.{items_in}
use Rattle.access_paths.specs.Settings.{setting_of, IsReady}
use Rattle.access_paths.specs.declared.next_item.NextItem.{NextItem}

abbrev pub setting_for : NextItem → meant.Setting
setting_for next = setting_of next.setting

pub record IsNext (next : NextItem) : Type 0 where
  pub ready : IsReady next.setting
  pub item : next.item < length (bound_of next.setting.bound.now).items
  pub table : next.table ≡ meant.table_for (setting_of next.setting) next.item
  pub alias : next.alias
      ≡ item_alias (plain_schema next.setting.schema.now) (bound_of next.setting.bound.now)
      next.item
  pub indexes : next.indexes.now
      ≡ meant.indexes_on (plain_schema next.setting.schema.now)
      (meant.table_for (setting_of next.setting) next.item)
  pub due : next.due.now
      ≡ due_from (items_in next.placed) next.item 0 (bound_of next.setting.bound.now).conjuncts
