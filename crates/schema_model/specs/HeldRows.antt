-- The rows of one table after another.
use Rattle.std.specs.Prelude.{List, [], ◌∷◌}
use Rattle.std.specs.List.{AllByRecursion}
use Rattle.sql_meaning.specs.Values.{Value, Int, IsValue}
use Rattle.sql_meaning.specs.Conversions.{IsFixed}
use Rattle.sql_meaning.specs.Rows.{Row}
use Rattle.sql_meaning.specs.Schemas.{RisingRows, AliasHolds}
use Rattle.sql_value.specs.View.{plain_affinity}
use Rattle.schema_model.specs.declared.columns.Column.{Column}
use Rattle.schema_model.specs.declared.tables.Table.{Table}

-- what a column may hold: a value within its bounds that the column's affinity leaves as it is
pub record IsHeld (column : Column) (value : Value) : Type 0 where
  pub bounds : IsValue value
  pub fixed : IsFixed (plain_affinity column.affinity) value

-- a value for each column
abbrev pub AreHeld : List Column → List Value → Type 0
AreHeld [] [] = Unit {0}
AreHeld [] (value ∷ values) = ⊥
AreHeld (column ∷ columns) [] = ⊥
AreHeld (column ∷ columns) (value ∷ values) = IsHeld column value × AreHeld columns values

pub record IsHeldRow (table : Table) (row : Row) : Type 0 where
  pub rowid : IsValue (Int row.rowid)
  pub values : AreHeld table.columns row.values
  pub alias : AliasHolds table.alias row

pub record AreRowsOf (table : Table) (rows : List Row) : Type 0 where
  pub rising : RisingRows rows
  pub held : AllByRecursion (IsHeldRow table) rows

-- rows for each table
abbrev pub AreRows : List Table → List (List Row) → Type 0
AreRows [] [] = Unit {0}
AreRows [] (rows ∷ more) = ⊥
AreRows (table ∷ tables) [] = ⊥
AreRows (table ∷ tables) (rows ∷ more) = AreRowsOf table rows × AreRows tables more
