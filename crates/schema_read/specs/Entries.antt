-- The entries of INSERT.
use Rattle.std.specs.Prelude.{ℕ, Bool, true, false, cond, codes, List, [], ◌∷◌, Option, None, Some}
use Rattle.std.specs.Prelude.{option_map}
use Rattle.sql_meaning.specs.Values.{Value, Null, Text, Blob}
use Rattle.sql_meaning.specs.Conversions.{converted}
use Rattle.sql_value.specs.View.{plain_affinity}
use Rattle.sql_tokens.specs.Terminals.{text_of}
use Rattle.sql_tokens.specs.TokenValues.{value_of}
use Rattle.sql_tokens.specs.declared.token.Token.{Token}
use Rattle.sql_tokens.specs.declared.token.TokenKind.{TokenKind}
use Rattle.sql_tokens.specs.declared.token.TokenKind.TheVariants as kind
use Rattle.schema_model.specs.declared.columns.Column.{Column}
use Rattle.schema_text.specs.Words.{is_word, is_mark}
use Rattle.schema_text.specs.Lists.{with_first}
use Rattle.schema_read.specs.Numbers.{number_value}

abbrev pub entry_of_kind : TokenKind → List ℕ → Token → Option Value
entry_of_kind kind.Text text token = Some (Text (value_of text token))
entry_of_kind kind.Blob text token = Some (Blob (value_of text token))
entry_of_kind kind.Number text token = number_value false (text_of text token)
entry_of_kind kind.Word text token = cond (is_word text (codes "null") token) (Some Null) None
entry_of_kind _ text token = None

abbrev pub token_entry : List ℕ → Token → Option Value
token_entry text token = entry_of_kind token.kind text token

abbrev pub number_of_kind : TokenKind → List ℕ → Bool → Token → Option Value
number_of_kind kind.Number text negative token = number_value negative (text_of text token)
number_of_kind _ text negative token = None

abbrev pub number_entry : List ℕ → Bool → Token → Option Value
number_entry text negative token = number_of_kind token.kind text negative token

abbrev pub signed_entry : List ℕ → Token → Token → Option Value
signed_entry text sign token =
    cond (is_mark text 45 sign) (number_entry text true token)
    (cond (is_mark text 43 sign) (number_entry text false token) None)

-- NULL, a text, a blob, or a number with a sign or without
abbrev pub entry_value : List ℕ → List Token → Option Value
entry_value text (t ∷ []) = token_entry text t
entry_value text (sign ∷ t ∷ []) = signed_entry text sign t
entry_value text _ = None

abbrev pub column_value : List ℕ → Column → List Token → Option Value
column_value text column part = option_map (λ v. converted (plain_affinity column.affinity) v)
    (entry_value text part)

-- a value for each column, converted by it
abbrev pub row_values : List ℕ → List Column → List (List Token) → Option (List Value)
row_values text [] [] = Some []
row_values text [] (part ∷ parts) = None
row_values text (column ∷ columns) [] = None
row_values text (column ∷ columns) (part ∷ parts) =
    with_first (column_value text column part) (row_values text columns parts)
