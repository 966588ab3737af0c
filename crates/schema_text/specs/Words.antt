-- What a token is to a schema.
use Rattle.std.specs.Prelude.{ℕ, ◌==◌, Bool, true, false, List, [], ◌∷◌}
use Rattle.sql_value.specs.Keywords.{same_word}
use Rattle.sql_tokens.specs.Terminals.{text_of}
use Rattle.sql_tokens.specs.declared.token.Token.{Token}
use Rattle.sql_tokens.specs.declared.token.TokenKind.{TokenKind}
use Rattle.sql_tokens.specs.declared.token.TokenKind.TheVariants as kind

abbrev pub is_word_of : TokenKind → List ℕ → List ℕ → Bool
is_word_of kind.Word bytes word = same_word bytes word
is_word_of _ bytes word = false

-- the unquoted word, whatever the case of its letters
abbrev pub is_word : List ℕ → List ℕ → Token → Bool
is_word text word token = is_word_of token.kind (text_of text token) word

abbrev pub is_only : ℕ → List ℕ → Bool
is_only byte (b ∷ []) = b == byte
is_only byte _ = false

abbrev pub is_mark_of : TokenKind → List ℕ → ℕ → Bool
is_mark_of kind.Symbol bytes mark = is_only mark bytes
is_mark_of _ bytes mark = false

-- the symbol of one byte
abbrev pub is_mark : List ℕ → ℕ → Token → Bool
is_mark text mark token = is_mark_of token.kind (text_of text token) mark

abbrev pub is_name_kind : TokenKind → Bool
is_name_kind kind.Word = true
is_name_kind kind.Quoted = true
is_name_kind kind.Text = true
is_name_kind _ = false

-- what may be a name in a schema: a word, a quoted name or a text
abbrev pub is_name : Token → Bool
is_name token = is_name_kind token.kind
