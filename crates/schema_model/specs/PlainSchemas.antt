-- A schema and its rows as plain data, without names.
use Rattle.std.specs.Prelude.{List, map}
use Rattle.sql_value.specs.View.{plain_value, plain_affinity, plain_collation}
use Rattle.sql_meaning.specs.Rows as rows
use Rattle.sql_meaning.specs.Schemas as plain
use Rattle.schema_model.specs.declared.columns.Column.{Column}
use Rattle.schema_model.specs.declared.tables.Table.{Table}
use Rattle.schema_model.specs.declared.indexes.Index.{Index}
use Rattle.schema_model.specs.declared.indexes.IndexColumn.{IndexColumn}
use Rattle.schema_model.specs.declared.rows.Row.{Row}
use Rattle.schema_model.specs.Schemas.{Schema}

abbrev pub plain_column : Column → plain.TableColumn
plain_column c = record { affinity = plain_affinity c.affinity; collation = plain_collation c.coll }

abbrev pub plain_table : Table → plain.Table
plain_table t = record { columns = map plain_column t.columns; alias = t.alias }

abbrev pub plain_index_column : IndexColumn → plain.IndexColumn
plain_index_column c = record {
  column = c.column;
  collation = plain_collation c.coll;
  falling = c.desc;
}

abbrev pub plain_index : Index → plain.Index
plain_index i = record { table = i.table; columns = map plain_index_column i.columns }

abbrev pub plain_schema : Schema → plain.Schema
plain_schema s = record { tables = map plain_table s.tables; indexes = map plain_index s.indexes }

abbrev pub plain_row : Row → rows.Row
plain_row r = record { rowid = r.rowid; values = map plain_value r.values }

abbrev pub plain_rows : List Row → List rows.Row
plain_rows rs = map plain_row rs

abbrev pub plain_database : List (List Row) → List (List rows.Row)
plain_database tables = map plain_rows tables
