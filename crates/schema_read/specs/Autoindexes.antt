-- The indexes that PRIMARY KEY and UNIQUE make.
use Rattle.std.specs.Prelude.{ℕ, ◌+◌, ◌==◌, Bool, true, false, cond, codes, nat_eq, decimal, List}
use Rattle.std.specs.Prelude.{[], ◌∷◌, ◌++◌, map, slice_get, Option, None, Some}
use Rattle.std.specs.List.{list_any}
use Rattle.std.specs.Cmp.Lexicographic.{pointwise}
use Rattle.sql_meaning.specs.Letters.{folded_bytes}
use Rattle.sql_value.specs.declared.values.Collation.{Collation}
use Rattle.sql_value.specs.declared.values.Collation.TheVariants.{Binary, Nocase, Rtrim}
use Rattle.schema_model.specs.Schemas.{Schema, is_taken, with_index}
use Rattle.schema_model.specs.declared.columns.Column.{Column}
use Rattle.schema_model.specs.declared.tables.Table.{Table}
use Rattle.schema_model.specs.declared.indexes.IndexColumn.{IndexColumn}
use Rattle.schema_text.specs.declared.entries.KeyColumn.{KeyColumn}
use Rattle.schema_text.specs.declared.keys.KeyConstraint.{KeyConstraint}

abbrev pub own_collation : Option Column → Collation
own_collation None = Binary
own_collation (Some column) = column.coll

abbrev pub collation_or : Option Collation → Collation → Collation
collation_or None own = own
collation_or (Some coll) own = coll

-- the collation that a key names, or the column's own
abbrev pub collation_of : List Column → KeyColumn → Collation
collation_of columns c = collation_or c.coll (own_collation (slice_get columns c.column))

abbrev pub index_columns : List Column → List KeyColumn → List IndexColumn
index_columns columns key = map (λ c. record {
  column = c.column;
  coll = collation_of columns c;
  desc = c.desc;
}) key

abbrev pub collation_number : Collation → ℕ
collation_number Binary = 0
collation_number Nocase = 1
collation_number Rtrim = 2

abbrev pub column_shape : IndexColumn → List ℕ
column_shape c = c.column ∷ collation_number c.coll ∷ []

-- columns and collations in order, without directions
abbrev pub shape_of : List IndexColumn → List ℕ
shape_of [] = []
shape_of (c ∷ cs) = column_shape c ++ shape_of cs

abbrev pub has_shape : List ℕ → List (List ℕ) → Bool
has_shape shape shapes = list_any (λ other. pointwise nat_eq shape other) shapes

abbrev pub autoindex_name : List ℕ → ℕ → List ℕ
autoindex_name table number = codes "sqlite_autoindex_" ++ table ++ codes "_" ++ decimal number

-- an index whose name is taken isn't made
abbrev pub with_autoindex : Schema → ℕ → List ℕ → List IndexColumn → Schema
with_autoindex s table name columns =
    cond (is_taken s (folded_bytes name)) s
    (with_index s (record {
      name = name;
      table = table;
      columns = columns;
      unique = true;
      usable = true;
    }))

abbrev pub is_on_rowid : Option ℕ → List KeyColumn → Bool
is_on_rowid (Some number) (c ∷ []) = c.column == number
is_on_rowid _ _ = false

-- the schema, the shapes of the keys so far, and how many indexes they made or would have made
pub record Autoindexes : Type 0 where
  pub schema : Schema
  pub shapes : List (List ℕ)
  pub count : ℕ

abbrev pub autoindexes : Schema → List (List ℕ) → ℕ → Autoindexes
autoindexes schema shapes count = record { schema = schema; shapes = shapes; count = count }

abbrev pub name_of : Option Table → List ℕ
name_of None = []
name_of (Some table) = table.name

abbrev pub name_at : Schema → ℕ → List ℕ
name_at s number = name_of (slice_get s.tables number)

abbrev pub add_shape : ℕ → List ℕ → List IndexColumn → List ℕ → Autoindexes → Autoindexes
add_shape number table columns shape a =
    cond (has_shape shape a.shapes) a
    (record {
      schema = with_autoindex a.schema number (autoindex_name table (a.count + 1)) columns;
      shapes = a.shapes ++ shape ∷ [];
      count = a.count + 1;
    })

abbrev pub add_key_of : ℕ → List KeyColumn → Option Table → Autoindexes → Autoindexes
add_key_of number key None a = a
add_key_of number key (Some table) a =
    cond (is_on_rowid table.alias key) a
    (add_shape number table.name (index_columns table.columns key)
    (shape_of (index_columns table.columns key)) a)

-- none for a key on the rowid alone, and none where an earlier key has the same shape
abbrev pub add_key : ℕ → KeyConstraint → Autoindexes → Autoindexes
add_key number key a = add_key_of number key.columns (slice_get a.schema.tables number) a

abbrev pub add_keys : ℕ → List KeyConstraint → Autoindexes → Autoindexes
add_keys number [] a = a
add_keys number (key ∷ keys) a = add_keys number keys (add_key number key a)

abbrev pub with_autoindexes : Schema → ℕ → List KeyConstraint → Schema
with_autoindexes s number keys = (add_keys number keys
    (record { schema = s; shapes = []; count = 0 })).schema
