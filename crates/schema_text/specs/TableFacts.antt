-- What holds of a table that is read.
use Rattle.std.specs.Prelude.{◌≤◌, List, length, Option, None, Some}
use Rattle.schema_model.specs.Names.{Differ}
use Rattle.schema_model.specs.Columns.{column_names}
use Rattle.schema_model.specs.Schemas.{IsTable, column_limit}
use Rattle.schema_model.specs.declared.columns.Column.{Column}
use Rattle.schema_text.specs.declared.table_texts.TableText.{TableText}

-- no more columns than a table may have, of names that differ
pub record AreColumns (columns : List Column) : Type 0 where
  pub few : length columns ≤ column_limit
  pub differ : Differ (column_names columns)

abbrev pub IsSoundOption : Option TableText → Type 0
IsSoundOption None = Unit {0}
IsSoundOption (Some made) = IsTable made.table
