-- What a reference to a column, and what a column owns, are seen as.
use Rattle.std.specs.Prelude.{ℕ, Option, None, Some}
use Rattle.sql_value.specs.View.{plain_affinity, plain_collation}
use Rattle.sql_meaning.specs.Expressions as plain
use Rattle.sql_meaning.specs.Rows.{Site, AtRowid, AtColumn}
use Rattle.sql_meaning.specs.Schemas as plain_schemas
use Rattle.sql_bound.specs.declared.columns.ColumnRef.{ColumnRef}
use Rattle.sql_bound.specs.declared.columns.TableColumn.{TableColumn}

abbrev pub site_of : Option ℕ → Site
site_of None = AtRowid
site_of (Some column) = AtColumn column

abbrev pub column_ref_of : ColumnRef → plain.ColumnRef
column_ref_of c = record { item = c.item; site = site_of c.column }

abbrev pub table_column_of : TableColumn → plain_schemas.TableColumn
table_column_of c = record {
  affinity = plain_affinity c.affinity;
  collation = plain_collation c.coll;
}
