-- What an index is sorted by.
use Rattle.sql_meaning.specs.Rows.{AtColumn}
use Rattle.sql_meaning.specs.IndexLists.{SortColumn}
use Rattle.sql_value.specs.View.{plain_collation}
use Rattle.schema_model.specs.declared.indexes.IndexColumn.{IndexColumn}

abbrev pub sort_column_of : IndexColumn → SortColumn
sort_column_of c = record {
  site = AtColumn c.column;
  collation = plain_collation c.coll;
  falling = c.desc;
}
