use Rattle.std.proofs.Common.{◌<◌, length}
use Rattle.sql_meaning.proofs.Links.{all_at}
use Rattle.sql_bound.specs.Statements.{item_of}
use Rattle.schema_model.specs.Schemas.{IsTable}
use Rattle.sql_names.specs.ScopeView.{seen}
use Rattle.sql_names.proofs.Tables.{item_read, seen_item, table_of_seen}
use Rattle.sql_names.proofs.scope.Scope.table.Goals as goal

pub table-requires : goal.table-requires
table-requires c =
    let items = c.self.inside.items.items in
    let within = rw (← c.self.view_is) at c.requires in
    let read = item_read items c.args.item c.index.result.now within c.index.ensures in
    all_at (λ i. i.table < length c.self.inside.schema.now.tables) (seen c.self.inside).items
    c.args.item (item_of c.index.result.now) c.self.invariant.tables
    (seen_item items c.args.item c.index.result.now read)

pub returns-clause-found : goal.returns-clause-found
returns-clause-found c =
    let items = c.self.inside.items.items in
    let within = rw (← c.self.view_is) at c.requires in
    let read = item_read items c.args.item c.index.result.now within c.index.ensures in
    rw (← c.self.view_is)
    (table_of_seen c.self.inside.schema.now items c.args.item c.index.result.now c.table.result.now
    read c.table.ensures)

pub returns-clause-sound : goal.returns-clause-sound
returns-clause-sound c =
    all_at IsTable c.self.inside.schema.now.tables c.index.result.now.table c.table.result.now
    c.schema_is_sound.ensures.tables c.table.ensures
