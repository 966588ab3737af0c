-- INSERT statements.
use Rattle.std.specs.Prelude.{ℕ, ℤ, Bool, cond, codes, List, [], ◌∷◌, ◌++◌, slice_get, slice_set}
use Rattle.std.specs.Prelude.{slice_index_or, Option, None, Some, option_and_then}
use Rattle.sql_meaning.specs.Letters.{folded_bytes}
use Rattle.sql_meaning.specs.Values.{Value, Null, Int, Text}
use Rattle.sql_value.specs.Keywords.{same_word}
use Rattle.sql_tokens.specs.TokenValues.{value_of}
use Rattle.sql_tokens.specs.declared.token.Token.{Token}
use Rattle.schema_model.specs.Schemas.{found_table}
use Rattle.schema_model.specs.declared.tables.Table.{Table}
use Rattle.schema_model.specs.declared.tables.Found.{Found}
use Rattle.schema_model.specs.declared.tables.Found.TheVariants.{Read, Unread, Missing}
use Rattle.schema_text.specs.Cursor.{NameAndRest, after_word, first_name}
use Rattle.schema_text.specs.Groups.{Enclosed, first_enclosed, parts_of}
use Rattle.schema_read.specs.Entries.{entry_value, row_values}
use Rattle.schema_read.specs.Rows.{has_rowid, next_rowid, insert_row as inserted_row}
use Rattle.schema_read.specs.States.{pass_row, pass_statement}
use Rattle.schema_read.specs.declared.state.State.{State}
use Rattle.schema_model.specs.declared.given.Given.{Given}
use Rattle.schema_read.specs.declared.inserts.InsertHead as code

pub record InsertHead : Type 0 where
  pub table : Token
  pub list : List Token

abbrev pub seen_insert : code.InsertHead → InsertHead
seen_insert head = record { table = head.table; list = head.list.now }

abbrev pub nothing_behind : Token → Enclosed → List Token → Option InsertHead
nothing_behind table enclosed [] = Some (record { table = table; list = enclosed.inside })
nothing_behind table enclosed (t ∷ ts) = None

abbrev pub values_of : List ℕ → NameAndRest → Option InsertHead
values_of text table =
    option_and_then (λ a. option_and_then
    (λ enclosed. nothing_behind table.name enclosed enclosed.rest) (first_enclosed text a))
    (after_word text (codes "values") table.rest)

-- INSERT INTO, a name, VALUES, a list in parentheses, and nothing behind
abbrev pub insert_head : List ℕ → List Token → Option InsertHead
insert_head text ts =
    option_and_then (λ a. option_and_then
    (λ b. option_and_then (λ table. values_of text table) (first_name b))
    (after_word text (codes "into") a)) (after_word text (codes "insert") ts)

-- an empty list has no entries
abbrev pub entries_of : List ℕ → List Token → List (List Token)
entries_of text [] = []
entries_of text (t ∷ ts) = parts_of text (t ∷ ts)

abbrev pub given_rowid : Value → Option ℤ → Option ℤ
given_rowid (Int rowid) next = Some rowid
given_rowid Null next = next
given_rowid _ next = None

abbrev pub rowid_in : Option Value → Option ℤ → Option ℤ
rowid_in None next = None
rowid_in (Some v) next = given_rowid v next

-- the alias column's whole number, and else the next rowid
abbrev pub rowid_of : Option ℕ → List Value → Option ℤ → Option ℤ
rowid_of None values next = next
rowid_of (Some number) values next = rowid_in (slice_get values number) next

abbrev pub with_rowid : Option ℕ → List Value → ℤ → List Value
with_rowid None values rowid = values
with_rowid (Some number) values rowid = slice_set values number (Int rowid)

abbrev pub keep_row : State → ℕ → Option ℕ → List Value → ℤ → State
keep_row d number alias values rowid =
    cond (has_rowid rowid (slice_index_or d.rows number [])) (pass_row d)
    (record d {
      rows = slice_set d.rows number
          (inserted_row rowid (with_rowid alias values rowid) (slice_index_or d.rows number []));
    })

abbrev pub keep_row_at : State → ℕ → Option ℕ → List Value → Option ℤ → State
keep_row_at d number alias values None = pass_row d
keep_row_at d number alias values (Some rowid) = keep_row d number alias values rowid

-- a row is kept under its rowid, unless that is there; without one it is passed over
abbrev pub place_row : State → ℕ → Option ℕ → List Value → State
place_row d number alias values =
    keep_row_at d number alias values (rowid_of alias values
    (next_rowid (slice_index_or d.rows number [])))

abbrev pub place_values : State → ℕ → Option ℕ → Option (List Value) → State
place_values d number alias None = pass_row d
place_values d number alias (Some values) = place_row d number alias values

abbrev pub insert_into : List ℕ → State → ℕ → List (List Token) → Option Table → State
insert_into text d number parts None = d
insert_into text d number parts (Some table) =
    place_values d number table.alias (row_values text table.columns parts)

abbrev pub insert_row : List ℕ → State → ℕ → List (List Token) → State
insert_row text d number parts = insert_into text d number parts (slice_get d.schema.tables number)

abbrev pub only_text : Option Value → Option (List ℕ)
only_text (Some (Text bytes)) = Some bytes
only_text _ = None

abbrev pub text_entry : List ℕ → List Token → Option (List ℕ)
text_entry text part = only_text (entry_value text part)

abbrev pub only_optional_text : Option Value → Option (Option (List ℕ))
only_optional_text (Some (Text bytes)) = Some (Some bytes)
only_optional_text (Some Null) = Some None
only_optional_text _ = None

abbrev pub optional_text_entry : List ℕ → List Token → Option (Option (List ℕ))
optional_text_entry text part = only_optional_text (entry_value text part)

abbrev pub given_of_three : List ℕ → List Token → List Token → List Token → Option Given
given_of_three text a b c =
    option_and_then (λ table. option_and_then (λ index. option_and_then (λ stat.
    Some (record { table = table; index = index; stat = stat })) (text_entry text c))
    (optional_text_entry text b)) (text_entry text a)

-- a text, a text or NULL, and a text
abbrev pub given_of : List ℕ → List (List Token) → Option Given
given_of text (a ∷ b ∷ c ∷ []) = given_of_three text a b c
given_of text _ = None

abbrev pub keep_given : State → Option Given → State
keep_given d None = pass_statement d
keep_given d (Some given) = record d { given = d.given ++ given ∷ [] }

abbrev pub is_figures_name : List ℕ → Bool
is_figures_name folded = same_word folded (codes "sqlite_stat1")

abbrev pub insert_other : List ℕ → State → List ℕ → List (List Token) → State
insert_other text d folded parts = cond (is_figures_name folded)
    (keep_given d (given_of text parts)) (pass_statement d)

abbrev pub insert_found : List ℕ → State → List ℕ → List (List Token) → Found → State
insert_found text d folded parts (Read number) = insert_row text d number parts
insert_found text d folded parts Unread = insert_other text d folded parts
insert_found text d folded parts Missing = insert_other text d folded parts

abbrev pub apply_insert : List ℕ → State → InsertHead → State
apply_insert text d head =
    insert_found text d (folded_bytes (value_of text head.table)) (entries_of text head.list)
    (found_table d.schema (folded_bytes (value_of text head.table)))
