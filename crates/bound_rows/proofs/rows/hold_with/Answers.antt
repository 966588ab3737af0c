use Rattle.std.proofs.Common.{◌<◌, arith, sym, subst, map, List, refl, length}
use Rattle.std.specs.List.{AllByRecursion}
use Rattle.sql_meaning.specs.Statements.{table_of}
use Rattle.schema_model.specs.PlainSchemas.{plain_database}
use Rattle.sql_bound.specs.Statements.{item_of}
use Rattle.sql_eval.specs.Environments.{HasRows}
use Rattle.sql_eval.specs.declared.environment.Place.{Place}
use Rattle.bound_rows.specs.Readable.{lent_exprs}
use Rattle.bound_rows.specs.Places.{FitsItem, IsRowOf}
use Rattle.bound_rows.proofs.Placing.{fit_below, fit_set, readable_gives}
use Rattle.bound_rows.proofs.rows.hold_with.Goals.{After-level_item-table}
use Rattle.bound_rows.proofs.rows.hold_with.Goals as goal

pub index_mut-requires : goal.index_mut-requires
index_mut-requires c =
    let below : c.args.level.now.item < length c.args.places.now.items =
    fit_below (plain_database c.args.source.now.tables.now) c.args.level.now.bound.now.items.now
    c.args.places.now.items c.args.level.now.item c.requires.places c.requires.item in
    omega (arith, below)

-- what stands at the item's place from now on fits it
fits : (c : After-level_item-table)
    → FitsItem (plain_database c.args.source.now.tables.now) (item_of c.level_item-table.result)
    (record { table = c.level_item-table.result.table; row = c.args.row })
fits c = record {
  table = refl;
  row = subst
      (λ (o : _). IsRowOf (plain_database c.args.source.now.tables.now) (table_of o) c.args.row)
      c.level_item-table.ensures c.requires.row;
}

pub all_hold-requires : goal.all_hold-requires
all_hold-requires c =
    let database = plain_database c.args.source.now.tables.now in
    let items = map item_of c.args.level.now.bound.now.items.now in
    let es = lent_exprs c.args.exprs.now in
    subst (λ (ps : List Place). AllByRecursion (HasRows database ps) es)
    (sym c.as_slice.ensures.value)
    (readable_gives database items _ es c.requires.readable
    (fit_set database items c.args.places.now.items c.args.level.now.item
    (item_of c.level_item-table.result) _ c.level_item-table.ensures
    (fits (goal.at.all_hold-requires c).After-level_item-table) c.requires.places))

pub returns-clause-fit : goal.returns-clause-fit
returns-clause-fit c =
    let database = plain_database c.args.source.now.tables.now in
    let items = map item_of c.args.level.now.bound.now.items.now in
    fit_set database items c.args.places.now.items c.args.level.now.item
    (item_of c.level_item-table.result) _ c.level_item-table.ensures
    (fits (goal.at.returns-clause-fit c).After-level_item-table) c.requires.places
