-- What the grammar sees of a token.
use Rattle.std.specs.Prelude.{ℕ, ◌&&◌, nat_le, cond, Option, None, Some}
use Rattle.std.specs.Prelude.{List, [], length, slice_range}
use Rattle.sql_value.specs.declared.keywords.Keyword.{Keyword}
use Rattle.sql_value.specs.Keywords.{keyword_of}
use Rattle.sql_tokens.specs.Symbols.{symbol_of}
use Rattle.sql_tokens.specs.declared.symbols.Symbol.{Symbol}
use Rattle.sql_tokens.specs.declared.terminal.Terminal.{Terminal}
use Rattle.sql_tokens.specs.declared.terminal.Terminal.TheVariants as terminal
use Rattle.sql_tokens.specs.declared.token.Token.{Token}
use Rattle.sql_tokens.specs.declared.token.TokenKind.{TokenKind}
use Rattle.sql_tokens.specs.declared.token.TokenKind.TheVariants as kind

-- the bytes of a token; none where it doesn't lie within the text
unfoldable pub text_of : List ℕ → Token → List ℕ
text_of text token =
    cond (nat_le token.start token.end && nat_le token.end (length text))
    (slice_range text token.start token.end) []

abbrev pub word_terminal : Option Keyword → Terminal
word_terminal None = terminal.Word
word_terminal (Some k) = terminal.Keyword k

abbrev pub symbol_terminal : Option Symbol → Terminal
symbol_terminal None = terminal.Bad
symbol_terminal (Some s) = terminal.Symbol s

abbrev pub terminal_of_kind : TokenKind → List ℕ → Terminal
terminal_of_kind kind.Word bytes = word_terminal (keyword_of bytes)
terminal_of_kind kind.Quoted bytes = terminal.Quoted
terminal_of_kind kind.Text bytes = terminal.Text
terminal_of_kind kind.Blob bytes = terminal.Blob
terminal_of_kind kind.Number bytes = terminal.Number
terminal_of_kind kind.Parameter bytes = terminal.Parameter
terminal_of_kind kind.Symbol bytes = symbol_terminal (symbol_of bytes)
terminal_of_kind kind.Bad bytes = terminal.Bad

unfoldable pub terminal_of : List ℕ → Token → Terminal
terminal_of text token = terminal_of_kind token.kind (text_of text token)
