-- A database, table by table and value by value.
use Rattle.std.proofs.Common.{◌≡◌, ◌≢◌, ℕ, zero, suc, List, [], ◌∷◌, length, map, slice_get}
use Rattle.std.proofs.Common.{slice_index_or, Some, refl, ap, sym, subst, ◌∙◌, arith}
use Rattle.std.specs.List.{AllByRecursion}
use Rattle.list_laws.proofs.Lists.{all_map}
use Rattle.sql_meaning.specs.Values.{Value, Null, IsValue}
use Rattle.sql_meaning.specs.Conversions.{IsFixed}
use Rattle.sql_meaning.specs.Rows.{Row}
use Rattle.sql_meaning.specs.Schemas.{TableColumn, RisingRows, ConformsTo}
use Rattle.sql_value.specs.View.{plain_value}
use Rattle.sql_value.specs.declared.values.Value as stored
use Rattle.schema_model.specs.declared.columns.Column.{Column}
use Rattle.schema_model.specs.declared.tables.Table.{Table}
use Rattle.schema_model.specs.declared.rows.Row as code
use Rattle.schema_model.specs.Schemas.{Schema}
use Rattle.schema_model.specs.PlainSchemas.{plain_column, plain_table, plain_database}
use Rattle.schema_model.specs.Databases.{IsDatabase}
use Rattle.schema_model.specs.HeldRows.{AreHeld, IsHeldRow, AreRows}

some_is : {X : Type 0} (x y : X) → Some x ≡ Some y → x ≡ y
some_is x y e = cc

held_count : (columns : List Column) (values : List Value) → AreHeld columns values
    → length values ≡ length (map plain_column columns)
held_count [] [] h = refl
held_count [] (v ∷ vs) h = absurd h
held_count (c ∷ cs) [] h = absurd h
held_count (c ∷ cs) (v ∷ vs) h = ap suc (held_count cs vs h.1)

held_bounds : (columns : List Column) (values : List Value) → AreHeld columns values
    → AllByRecursion IsValue values
held_bounds [] [] h = tt
held_bounds [] (v ∷ vs) h = absurd h
held_bounds (c ∷ cs) [] h = absurd h
held_bounds (c ∷ cs) (v ∷ vs) h = (h.0.bounds, held_bounds cs vs h.1)

held_fixed : (columns : List Column) (values : List Value) → AreHeld columns values
    → (number : ℕ) (column : TableColumn)
    → slice_get (map plain_column columns) number ≡ Some column
    → IsFixed column.affinity (slice_index_or values number Null)
held_fixed [] [] h n c e = absurd (cc)
held_fixed [] (v ∷ vs) h n c e = absurd h
held_fixed (d ∷ ds) [] h n c e = absurd h
held_fixed (d ∷ ds) (v ∷ vs) h zero c e =
    subst (λ (x : TableColumn). IsFixed x.affinity v) (some_is (plain_column d) c e) h.0.fixed
held_fixed (d ∷ ds) (v ∷ vs) h (suc n) c e = held_fixed ds vs h.1 n c e

abbrev AllFixed : List Column → List Value → Type 0
AllFixed columns values = (number : ℕ) (column : TableColumn)
    → slice_get (map plain_column columns) number ≡ Some column
    → IsFixed column.affinity (slice_index_or values number Null)

all_held : (columns : List Column) (values : List Value)
    → length values ≡ length (map plain_column columns) → AllByRecursion IsValue values
    → AllFixed columns values → AreHeld columns values
all_held [] [] e b f = tt
all_held [] (v ∷ vs) e b f = absurd (omega (arith, e))
all_held (c ∷ cs) [] e b f = absurd (omega (arith, e))
all_held (c ∷ cs) (v ∷ vs) e b f = (
  record { bounds = b.0; fixed = f 0 (plain_column c) refl },
  all_held cs vs (omega (arith, e)) b.1 (λ n d g. f (suc n) d g),
)

pub held_conforms : (table : Table) (row : Row) → IsHeldRow table row
    → ConformsTo (Some (plain_table table)) row
held_conforms table row h = record {
  rowid = h.rowid;
  full = held_count table.columns row.values h.values;
  values = held_bounds table.columns row.values h.values;
  fixed = held_fixed table.columns row.values h.values;
  alias = h.alias;
}

conforms_held : (table : Table) (row : Row) → ConformsTo (Some (plain_table table)) row
    → IsHeldRow table row
conforms_held table row c = record {
  rowid = c.rowid;
  values = all_held table.columns row.values c.full c.values c.fixed;
  alias = c.alias;
}

abbrev Conform : List Table → ℕ → List Row → Type 0
Conform tables n rows = AllByRecursion (ConformsTo (slice_get (map plain_table tables) n)) rows

rising_at : (tables : List Table) (more : List (List Row)) → AreRows tables more → (n : ℕ)
    → RisingRows (slice_index_or more n [])
rising_at [] [] h n = tt
rising_at [] (r ∷ rs) h n = absurd h
rising_at (t ∷ ts) [] h n = absurd h
rising_at (t ∷ ts) (r ∷ rs) h zero = h.0.rising
rising_at (t ∷ ts) (r ∷ rs) h (suc n) = rising_at ts rs h.1 n

conform_at : (tables : List Table) (more : List (List Row)) → AreRows tables more → (n : ℕ)
    → Conform tables n (slice_index_or more n [])
conform_at [] [] h n = tt
conform_at [] (r ∷ rs) h n = absurd h
conform_at (t ∷ ts) [] h n = absurd h
conform_at (t ∷ ts) (r ∷ rs) h zero =
    all_map (IsHeldRow t) (ConformsTo (Some (plain_table t))) r (held_conforms t) h.0.held
conform_at (t ∷ ts) (r ∷ rs) h (suc n) = conform_at ts rs h.1 n

count_of_rows : (tables : List Table) (more : List (List Row)) → AreRows tables more
    → length more ≡ length tables
count_of_rows [] [] h = refl
count_of_rows [] (r ∷ rs) h = absurd h
count_of_rows (t ∷ ts) [] h = absurd h
count_of_rows (t ∷ ts) (r ∷ rs) h = ap suc (count_of_rows ts rs h.1)

rows_of_all : (tables : List Table) (more : List (List Row)) → length more ≡ length tables
    → ((n : ℕ) → RisingRows (slice_index_or more n []))
    → ((n : ℕ) → Conform tables n (slice_index_or more n [])) → AreRows tables more
rows_of_all [] [] e f g = tt
rows_of_all [] (r ∷ rs) e f g = absurd (omega (arith, e))
rows_of_all (t ∷ ts) [] e f g = absurd (omega (arith, e))
rows_of_all (t ∷ ts) (r ∷ rs) e f g = (
  record {
    rising = f 0;
    held = all_map (ConformsTo (Some (plain_table t))) (IsHeldRow t) r (conforms_held t) (g 0);
  },
  rows_of_all ts rs (omega (arith, e)) (λ n. f (suc n)) (λ n. g (suc n)),
)

same_count : (rows : List (List code.Row)) → length (plain_database rows) ≡ length rows
same_count [] = refl
same_count (r ∷ rs) = ap suc (same_count rs)

pub rows_are_database : (schema : Schema) (rows : List (List code.Row))
    → AreRows schema.tables (plain_database rows) → IsDatabase schema rows
rows_are_database schema rows h = record {
  counted = sym (same_count rows) ∙ count_of_rows schema.tables (plain_database rows) h;
  sound = record {
    rising = rising_at schema.tables (plain_database rows) h;
    conforms = conform_at schema.tables (plain_database rows) h;
  };
}

pub database_has_rows : (schema : Schema) (rows : List (List code.Row)) → IsDatabase schema rows
    → AreRows schema.tables (plain_database rows)
database_has_rows schema rows d =
    rows_of_all schema.tables (plain_database rows) (same_count rows ∙ d.counted) d.sound.rising
    d.sound.conforms

pub other_count : (columns : List Column) (values : List stored.Value)
    → length columns ≢ length values → AreHeld columns (map plain_value values) → ⊥
other_count [] [] h a = h refl
other_count [] (v ∷ vs) h a = a
other_count (c ∷ cs) [] h a = a
other_count (c ∷ cs) (v ∷ vs) h a = other_count cs vs (λ e. h (ap suc e)) a.1

pub other_count_of_rows : (tables : List Table) (lists : List (List code.Row))
    → length tables ≢ length lists → AreRows tables (plain_database lists) → ⊥
other_count_of_rows [] [] h a = h refl
other_count_of_rows [] (r ∷ rs) h a = a
other_count_of_rows (t ∷ ts) [] h a = a
other_count_of_rows (t ∷ ts) (r ∷ rs) h a = other_count_of_rows ts rs (λ e. h (ap suc e)) a.1
