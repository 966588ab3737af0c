-- CREATE TABLE from its name on.
use Rattle.std.specs.Prelude.{ℕ, ◌&&◌, ◌||◌, Bool, true, false, not, cond, codes, nat_le, nat_lt}
use Rattle.std.specs.Prelude.{count_by, List, [], ◌∷◌, ◌++◌, length, position, slice_get, Option}
use Rattle.std.specs.Prelude.{None, Some, is_some, unwrap_or, option_and_then}
use Rattle.std.specs.List.{list_all, list_any}
use Rattle.sql_meaning.specs.Letters.{folded_bytes}
use Rattle.sql_value.specs.Keywords.{same_word}
use Rattle.sql_tokens.specs.TokenValues.{value_of}
use Rattle.sql_tokens.specs.declared.token.Token.{Token}
use Rattle.schema_model.specs.Columns.{has_column_name, as_rowid}
use Rattle.schema_model.specs.Schemas.{column_limit}
use Rattle.schema_model.specs.declared.columns.Column.{Column}
use Rattle.schema_text.specs.Words.{is_word}
use Rattle.schema_text.specs.Cursor.{NameAndRest}
use Rattle.schema_text.specs.Heads.{or_else}
use Rattle.schema_text.specs.Groups.{first_enclosed, parts_of}
use Rattle.schema_text.specs.ColumnTexts.{declared_type, column_of}
use Rattle.schema_text.specs.Keys.{behind_name, is_constraint, key_constraints_of}
use Rattle.schema_text.specs.declared.entries.KeyColumn.{KeyColumn}
use Rattle.schema_text.specs.declared.keys.KeyConstraint.{KeyConstraint}
use Rattle.schema_text.specs.declared.table_texts.TableText.{TableText}

-- no more columns than a table may have, of names that differ
abbrev pub with_column : List Column → Column → Option (List Column)
with_column columns column =
    cond (nat_le column_limit (length columns) || is_some
    (position (has_column_name (folded_bytes column.name)) columns)) None
    (Some (columns ++ column ∷ []))

abbrev pub with_item : List ℕ → List Column → List Token → Option (List Column)
with_item text columns item =
    cond (is_constraint text item) (Some columns)
    (option_and_then (λ column. with_column columns column) (column_of text item))

abbrev pub columns_from : List ℕ → List Column → List (List Token) → Option (List Column)
columns_from text columns [] = Some columns
columns_from text columns (item ∷ items) =
    option_and_then (λ more. columns_from text more items) (with_item text columns item)

-- the columns of the items in order
abbrev pub columns_of : List ℕ → List (List Token) → Option (List Column)
columns_of text items = columns_from text [] items

abbrev pub is_of_type : List ℕ → List ℕ → List Token → Bool
is_of_type text name item = same_word (declared_type text (behind_name item)) name

abbrev pub integer_flag : List ℕ → List Token → List Bool
integer_flag text item = cond (is_constraint text item) []
    (is_of_type text (codes "integer") item ∷ [])

-- for each column whether its type is exactly INTEGER
abbrev pub integer_flags : List ℕ → List (List Token) → List Bool
integer_flags text [] = []
integer_flags text (item ∷ items) = integer_flag text item ++ integer_flags text items

abbrev pub is_any : List ℕ → List Token → Bool
is_any text item = not (is_constraint text item) && is_of_type text (codes "any") item

abbrev pub has_any : List ℕ → List (List Token) → Bool
has_any text items = list_any (is_any text) items

abbrev pub is_strict : List ℕ → List Token → Bool
is_strict text (t ∷ []) = is_word text (codes "strict") t
is_strict text _ = false

-- STRICT, once or more with commas between, or nothing; nothing else is read
abbrev pub table_options : List ℕ → List Token → Option Bool
table_options text [] = Some false
table_options text (t ∷ ts) = cond (list_all (is_strict text) (parts_of text (t ∷ ts)))
    (Some true) None

abbrev pub flag_at : List Bool → ℕ → Bool
flag_at flags number = unwrap_or (slice_get flags number) false

abbrev pub alias_column : List Bool → Bool → KeyColumn → Option ℕ
alias_column flags own column = cond (flag_at flags column.column && not (own && column.desc))
    (Some column.column) None

abbrev pub alias_of_columns : List Bool → Bool → List KeyColumn → Option ℕ
alias_of_columns flags own (column ∷ []) = alias_column flags own column
alias_of_columns flags own _ = None

-- a PRIMARY KEY of one INTEGER column, but for one with DESC at its column
abbrev pub alias_of_key : List Bool → KeyConstraint → Option ℕ
alias_of_key flags key = cond key.primary (alias_of_columns flags key.own key.columns) None

abbrev pub alias_of : List Bool → List KeyConstraint → Option ℕ
alias_of flags [] = None
alias_of flags (key ∷ keys) = or_else (alias_of_key flags key) (alias_of flags keys)

abbrev pub with_alias : List Column → Option ℕ → List Column
with_alias columns None = columns
with_alias columns (Some number) = as_rowid columns number

abbrev pub made_table : List ℕ → Token → List Column → List KeyConstraint → Option ℕ → TableText
made_table text name columns keys alias =
    record {
      table = record {
        name = value_of text name;
        columns = with_alias columns alias;
        alias = alias;
      };
      keys = keys;
    }

abbrev pub table_of_items : List ℕ → Token → Bool → List (List Token) → Option TableText
table_of_items text name strict items =
    option_and_then (λ columns. cond (strict && has_any text items) None (
    option_and_then (λ keys. cond (nat_lt 1 (count_by (λ key. key.primary) keys)) None (
    Some (made_table text name columns keys (alias_of (integer_flags text items) keys))))
    (key_constraints_of text columns 0 items))) (columns_of text items)

-- the table from its name on, where it is read
abbrev pub table_of : List ℕ → NameAndRest → Option TableText
table_of text named =
    option_and_then (λ enclosed. option_and_then
    (λ strict. table_of_items text named.name strict (parts_of text enclosed.inside))
    (table_options text enclosed.rest)) (first_enclosed text named.rest)
