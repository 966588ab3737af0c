use Rattle.std.proofs.Common.{◌<◌, ap, ap₂, ◌∙◌, sym, map, arith, length, get_or, false}
use Rattle.sql_meaning.specs.Choices.{take_bounds, ColumnTerms}
use Rattle.sql_value.specs.View.{plain_collation}
use Rattle.sql_value.specs.declared.values.Collation.TheVariants.{Binary}
use Rattle.schema_model.specs.PlainSchemas.{plain_index_column}
use Rattle.schema_model.specs.declared.indexes.IndexColumn.{IndexColumn}
use Rattle.sql_bound.specs.Columns.{site_of}
use Rattle.list_laws.proofs.Turns.{dropped_or}
use Rattle.access_paths.specs.Placed.{items_in}
use Rattle.access_paths.specs.Fitting.{bounds_at}
use Rattle.access_paths.specs.Supplies.{supplied}
use Rattle.access_paths.proofs.Takes.{first_at_site}
use Rattle.access_paths.proofs.taken.bounds_of_first.Goals as goal

abbrev other : IndexColumn
other = record { column = 0; coll = Binary; desc = false }

pub returns-in-len1-up : goal.returns-in-len1-up
returns-in-len1-up c =
    let s = c.args.supply.now in
    let columns = c.args.columns.now in
    let some : 0 < length columns = omega (arith, c.in-len1-up.len_at_least) in
    let first = plain_index_column (get_or columns 0 other) in
    let at = first_at_site (items_in s.placed) s.alias first (site_of c.seek_column.result.column)
    (plain_collation c.seek_column.result.coll) (supplied s) in
    ap₂ take_bounds
    (c.bounds_of.ensures.low
    ∙ at (λ (t : ColumnTerms). t.lows) c.seek_column.ensures.site c.seek_column.ensures.collation)
    (c.bounds_of.ensures.high
    ∙ at (λ (t : ColumnTerms). t.highs) c.seek_column.ensures.site c.seek_column.ensures.collation)
    ∙ ap (bounds_at (items_in s.placed) s.alias (supplied s))
    (sym (ap (map plain_index_column) (dropped_or columns 0 other some)))
