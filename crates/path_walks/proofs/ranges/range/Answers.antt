use Rattle.std.proofs.Common.{Bool, subst}
use Rattle.std.specs.Ordering.{on}
use Rattle.list_laws.specs.Order.{Ascends}
use Rattle.sql_meaning.specs.IndexLists.{directed}
use Rattle.sql_meaning.specs.Rows.{site_value}
use Rattle.sql_meaning.specs.Values.{value_cmp}
use Rattle.sql_meaning.proofs.Seeks.{Rises-not_below_range, Rises-above_range}
use Rattle.sql_meaning.proofs.Seeks.{Rises-not_above_range, Rises-below_range}
use Rattle.sql_value.specs.View.{plain_collation}
use Rattle.index_lists.specs.Lent.{lent_rows}
use Rattle.path_walks.specs.Columns.{site_of}
use Rattle.path_walks.specs.Ends.{plain_end}
use Rattle.path_walks.proofs.ranges.range.Goals as goal

pub stretch-requires-clause-before : goal.stretch-requires-clause-before
stretch-requires-clause-before c =
    let collation = plain_collation c.args.column.coll in
    let site = site_of c.args.column.column in
    Rises-not_above_range collation site (plain_end c.args.high) (lent_rows c.args.rows.now)
    (subst
    (λ (falls : Bool). Ascends (on (site_value site) (directed falls (value_cmp collation)))
    (lent_rows c.args.rows.now)) c.if-column.true c.requires)

pub stretch-requires-clause-past : goal.stretch-requires-clause-past
stretch-requires-clause-past c =
    let collation = plain_collation c.args.column.coll in
    let site = site_of c.args.column.column in
    Rises-below_range collation site (plain_end c.args.low) (lent_rows c.args.rows.now)
    (subst
    (λ (falls : Bool). Ascends (on (site_value site) (directed falls (value_cmp collation)))
    (lent_rows c.args.rows.now)) c.if-column.true c.requires)

pub stretch-requires-else-column-clause-before : goal.stretch-requires-else-column-clause-before
stretch-requires-else-column-clause-before c =
    let collation = plain_collation c.args.column.coll in
    let site = site_of c.args.column.column in
    Rises-not_below_range collation site (plain_end c.args.low) (lent_rows c.args.rows.now)
    (subst
    (λ (falls : Bool). Ascends (on (site_value site) (directed falls (value_cmp collation)))
    (lent_rows c.args.rows.now)) c.if-column.false c.requires)

pub stretch-requires-else-column-clause-past : goal.stretch-requires-else-column-clause-past
stretch-requires-else-column-clause-past c =
    let collation = plain_collation c.args.column.coll in
    let site = site_of c.args.column.column in
    Rises-above_range collation site (plain_end c.args.high) (lent_rows c.args.rows.now)
    (subst
    (λ (falls : Bool). Ascends (on (site_value site) (directed falls (value_cmp collation)))
    (lent_rows c.args.rows.now)) c.if-column.false c.requires)
