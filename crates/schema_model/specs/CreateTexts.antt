-- The text of CREATE INDEX.
use Rattle.std.specs.Prelude.{ℕ, ◌<◌, Bool, true, false, not, ◌&&◌, ◌||◌, ◌==◌, List, [], ◌∷◌, ◌++◌}
use Rattle.std.specs.Prelude.{length, codes, slice_get, Option, Some, None, if◌then◌else◌}
use Rattle.std.specs.List.{AllByRecursion, list_all}
use Rattle.std.specs.Char.{is_ascii_alphabetic, is_ascii_alphanumeric}
use Rattle.sql_meaning.specs.Orders as plain
use Rattle.sql_value.specs.View.{plain_collation}
use Rattle.sql_value.specs.Reserved.{is_reserved_name}
use Rattle.sql_value.specs.declared.values.Collation.{Collation}
use Rattle.sql_value.specs.declared.values.Collation.TheVariants.{Binary, Nocase, Rtrim}
use Rattle.schema_model.specs.declared.columns.Column.{Column}
use Rattle.schema_model.specs.declared.tables.Table.{Table}
use Rattle.schema_model.specs.declared.indexes.IndexColumn.{IndexColumn}
use Rattle.schema_model.specs.declared.indexes.Index.{Index}
use Rattle.schema_model.specs.Schemas.{Schema, columns_at}

abbrev pub is_name_start : ℕ → Bool
is_name_start byte = is_ascii_alphabetic byte || byte == 95

abbrev pub is_name_byte : ℕ → Bool
is_name_byte byte = is_ascii_alphanumeric byte || byte == 95

-- a name that is printed without quotes
abbrev pub is_plain_name : List ℕ → Bool
is_plain_name [] = false
is_plain_name (b ∷ bs) = is_name_start b && list_all is_name_byte bs
    && not (is_reserved_name (b ∷ bs))

-- each double quote twice
abbrev pub doubled : List ℕ → List ℕ
doubled [] = []
doubled (b ∷ bs) = (if b == 34 then 34 ∷ 34 ∷ [] else b ∷ []) ++ doubled bs

abbrev pub quoted : List ℕ → List ℕ
quoted name = 34 ∷ [] ++ doubled name ++ 34 ∷ []

abbrev pub printed_name : List ℕ → List ℕ
printed_name name = if is_plain_name name then name else quoted name

abbrev pub collation_name : Collation → List ℕ
collation_name Binary = codes "BINARY"
collation_name Nocase = codes "NOCASE"
collation_name Rtrim = codes "RTRIM"

abbrev pub same_collation : Collation → Collation → Bool
same_collation a b = plain.same_collation (plain_collation a) (plain_collation b)

-- the collation of an entry where it isn't the column's own
abbrev pub collation_text : Collation → Collation → List ℕ
collation_text own coll = if same_collation own coll then []
    else codes " COLLATE " ++ collation_name coll

abbrev pub direction_text : Bool → List ℕ
direction_text true = codes " DESC"
direction_text false = []

-- a column of an index: its name, its collation where that isn't the table's, DESC where it falls
abbrev pub entry_of_column : Column → IndexColumn → List ℕ
entry_of_column column entry =
    printed_name column.name
    ++ collation_text column.coll entry.coll ++ direction_text entry.desc

abbrev pub entry_of : Option Column → IndexColumn → List ℕ
entry_of None entry = []
entry_of (Some column) entry = entry_of_column column entry

abbrev pub entry_text : List Column → IndexColumn → List ℕ
entry_text columns entry = entry_of (slice_get columns entry.column) entry

abbrev pub further_entries : List Column → List IndexColumn → List ℕ
further_entries columns [] = []
further_entries columns (e ∷ es) = (codes ", " ++ entry_text columns e)
    ++ further_entries columns es

-- the columns with a comma and a space between
abbrev pub column_text : List Column → List IndexColumn → List ℕ
column_text columns [] = []
column_text columns (e ∷ es) = entry_text columns e ++ further_entries columns es

abbrev pub AreInTable : List Column → List IndexColumn → Type 0
AreInTable columns entries = AllByRecursion (λ e. e.column < length columns) entries

abbrev pub table_name_of : Option Table → List ℕ
table_name_of None = []
table_name_of (Some table) = table.name

abbrev pub create_text : Schema → Index → List ℕ
create_text s index =
    codes "CREATE INDEX " ++ printed_name index.name
    ++ codes " ON " ++ printed_name (table_name_of (slice_get s.tables index.table))
    ++ codes "(" ++ column_text (columns_at s.tables index.table) index.columns ++ codes ")"
