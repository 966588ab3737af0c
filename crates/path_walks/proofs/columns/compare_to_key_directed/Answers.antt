use Rattle.std.proofs.Common.{sym, ap, ◌∙◌}
use Rattle.std.specs.Ordering.{ordering_reverse}
use Rattle.sql_meaning.specs.Rows.{site_value}
use Rattle.schema_model.specs.PlainSchemas.{plain_row}
use Rattle.sql_value.specs.View.{plain_value, plain_collation}
use Rattle.sql_meaning.proofs.Order.{value_cmp_total}
use Rattle.path_walks.specs.Columns.{site_of}
use Rattle.path_walks.proofs.columns.compare_to_key_directed.Goals as goal

pub returns-then-column : goal.returns-then-column
returns-then-column c =
    rw c.if-column.true
    (c.reverse.ensures ∙ ap ordering_reverse c.compare_to_key-order.ensures
    ∙ sym
    ((value_cmp_total (plain_collation c.args.column.coll)).antisymm (plain_value c.args.key.now)
    (site_value (site_of c.args.column.column) (plain_row c.args.row.now))))
