-- CREATE statements.
use Rattle.std.specs.Prelude.{ℕ, Bool, true, false, cond, List, [], ◌∷◌, ◌++◌, length, slice_get}
use Rattle.std.specs.Prelude.{Option, None, Some, option_map, option_and_then}
use Rattle.sql_meaning.specs.Letters.{folded_bytes}
use Rattle.sql_tokens.specs.TokenValues.{value_of}
use Rattle.sql_tokens.specs.declared.token.Token.{Token}
use Rattle.schema_model.specs.Schemas.{with_table, with_unread, with_index, found_table}
use Rattle.schema_model.specs.declared.columns.Column.{Column}
use Rattle.schema_model.specs.declared.tables.Table.{Table}
use Rattle.schema_model.specs.declared.tables.Found.{Found}
use Rattle.schema_model.specs.declared.tables.Found.TheVariants.{Read, Unread, Missing}
use Rattle.schema_model.specs.declared.indexes.Index.{Index}
use Rattle.schema_model.specs.declared.indexes.IndexColumn.{IndexColumn}
use Rattle.schema_text.specs.Cursor.{NameAndRest}
use Rattle.schema_text.specs.Heads.{IndexHead}
use Rattle.schema_text.specs.Groups.{parts_of}
use Rattle.schema_text.specs.Entries.{entries_of, key_columns}
use Rattle.schema_text.specs.TableTexts.{table_of}
use Rattle.schema_text.specs.declared.table_texts.TableText.{TableText}
use Rattle.schema_read.specs.States.{pass_statement, with_schema, is_refused}
use Rattle.schema_read.specs.Autoindexes.{index_columns, with_autoindexes}
use Rattle.schema_read.specs.declared.state.State.{State}

abbrev pub keep_table : State → TableText → State
keep_table d made =
    record d {
      schema = with_autoindexes (with_table d.schema made.table)
          (length d.schema.tables) made.keys;
      rows = d.rows ++ [] ∷ [];
    }

abbrev pub create_table : State → List ℕ → Option TableText → State
create_table d name None = with_schema d (with_unread d.schema name)
create_table d name (Some made) = keep_table d made

abbrev pub create_named : List ℕ → State → List ℕ → NameAndRest → State
create_named text d name named = create_table d name (table_of text named)

-- a table that is read, or its name alone; nothing where the name is refused
abbrev pub apply_table : List ℕ → State → NameAndRest → State
apply_table text d named =
    cond (is_refused d.schema (value_of text named.name)) (pass_statement d)
    (create_named text d (value_of text named.name) named)

abbrev pub apply_unread : List ℕ → State → NameAndRest → State
apply_unread text d named =
    cond (is_refused d.schema (value_of text named.name)) (pass_statement d)
    (with_schema d (with_unread d.schema (value_of text named.name)))

abbrev pub listed_columns : List ℕ → List Column → List Token → Option (List IndexColumn)
listed_columns text columns list =
    option_and_then (λ entries. option_map (λ found. index_columns columns found)
    (key_columns text columns entries))
    (entries_of text false (parts_of text list))

abbrev pub usable_columns : List ℕ → List Column → IndexHead → Option (List IndexColumn)
usable_columns text columns head = cond head.partial None (listed_columns text columns head.list)

-- an index that isn't usable has no columns
abbrev pub index_made : List ℕ → ℕ → Bool → Option (List IndexColumn) → Index
index_made name table unique None = record {
  name = name;
  table = table;
  columns = [];
  unique = unique;
  usable = false;
}
index_made name table unique (Some columns) =
    record { name = name; table = table; columns = columns; unique = unique; usable = true }

abbrev pub keep_index_of : List ℕ → State → ℕ → IndexHead → Option Table → State
keep_index_of text d number head None = d
keep_index_of text d number head (Some table) =
    with_schema d (with_index d.schema (index_made (value_of text head.name) number head.unique
    (usable_columns text table.columns head)))

abbrev pub keep_index : List ℕ → State → ℕ → IndexHead → State
keep_index text d number head =
    cond (is_refused d.schema (value_of text head.name)) (pass_statement d)
    (keep_index_of text d number head (slice_get d.schema.tables number))

abbrev pub index_found : List ℕ → State → IndexHead → Found → State
index_found text d head (Read number) = keep_index text d number head
index_found text d head Unread = pass_statement d
index_found text d head Missing = pass_statement d

abbrev pub apply_index : List ℕ → State → IndexHead → State
apply_index text d head = index_found text d head
    (found_table d.schema (folded_bytes (value_of text head.table)))
