use Rattle.std.proofs.Common.{◌<◌, None, false, ap, ◌∙◌, length}
use Rattle.std.specs.Prelude.{slice_get}
use Rattle.sql_meaning.specs.Schemas.{alias_of}
use Rattle.schema_model.specs.PlainSchemas.{plain_schema}
use Rattle.sql_bound.specs.declared.statement.BItem.{BItem}
use Rattle.loop_orders.proofs.Items.{holds_at, table_at}
use Rattle.loop_orders.proofs.state.item_alias.Goals as goal

abbrev none : BItem
none = record { table = 0; alias = None; cross = false; left = false }

pub table_alias-requires : goal.table_alias-requires
table_alias-requires c =
    holds_at (λ i. i.table < length c.args.schema.now.tables) c.args.bound.now.items.now
    c.args.item none c.requires.tables c.requires.item

pub returns : goal.returns
returns c =
    c.table_alias.ensures
    ∙ ap (λ table. alias_of (slice_get (plain_schema c.args.schema.now).tables table))
    (table_at c.args.bound.now.items.now c.args.item none c.requires.item)
