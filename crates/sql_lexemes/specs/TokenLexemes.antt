-- What tokens mean to the grammar: each as a lexeme.
use Rattle.std.specs.Prelude.{ℕ, cond, Option, None, Some, List, [], ◌∷◌}
use Rattle.sql_value.specs.declared.keywords.Keyword.{Keyword}
use Rattle.sql_value.specs.declared.keywords.Keyword.TheVariants as keyword
use Rattle.sql_value.specs.Reserved.{is_reserved_word}
use Rattle.sql_tokens.specs.declared.symbols.Symbol.{Symbol}
use Rattle.sql_tokens.specs.declared.symbols.Symbol.TheVariants as symbol
use Rattle.sql_tokens.specs.declared.terminal.Terminal.{Terminal}
use Rattle.sql_tokens.specs.declared.terminal.Terminal.TheVariants as terminal
use Rattle.sql_tokens.specs.declared.number_values.Number.{Number}
use Rattle.sql_tokens.specs.declared.number_values.Number.TheVariants as number
use Rattle.sql_tokens.specs.declared.token.Token.{Token}
use Rattle.sql_tokens.specs.Terminals.{terminal_of, text_of}
use Rattle.sql_tokens.specs.TokenValues.{value_of}
use Rattle.sql_tokens.specs.NumberValues.{number_of}
use Rattle.sql_read.specs.declared.lexeme.Direction.{Direction}
use Rattle.sql_read.specs.declared.lexeme.Direction.TheVariants as direction
use Rattle.sql_read.specs.declared.lexeme.Mark.{Mark}
use Rattle.sql_read.specs.declared.lexeme.Mark.TheVariants as mark
use Rattle.sql_read.specs.Lexemes.{Lexeme}
use Rattle.sql_read.specs.Lexemes as lexeme
use Rattle.sql_lexemes.specs.Parameters.{Met, parameter_number, met_behind, no_parameters}

-- the mark that a word is, if the grammar has it
unfoldable pub keyword_mark : Keyword → Option Mark
keyword_mark keyword.Select = Some mark.Select
keyword_mark keyword.All = Some mark.All
keyword_mark keyword.From = Some mark.From
keyword_mark keyword.Where = Some mark.Where
keyword_mark keyword.Order = Some mark.Order
keyword_mark keyword.By = Some mark.By
keyword_mark keyword.Limit = Some mark.Limit
keyword_mark keyword.Offset = Some mark.Offset
keyword_mark keyword.As = Some mark.As
keyword_mark keyword.Inner = Some mark.Inner
keyword_mark keyword.Join = Some mark.Join
keyword_mark keyword.Cross = Some mark.Cross
keyword_mark keyword.Left = Some mark.Left
keyword_mark keyword.Outer = Some mark.Outer
keyword_mark keyword.On = Some mark.On
keyword_mark keyword.Update = Some mark.Update
keyword_mark keyword.Set = Some mark.Set
keyword_mark keyword.Delete = Some mark.Delete
keyword_mark keyword.Or = Some mark.Or
keyword_mark keyword.And = Some mark.And
keyword_mark keyword.Not = Some mark.Not
keyword_mark keyword.Between = Some mark.Between
keyword_mark keyword.In = Some mark.In
keyword_mark keyword.Like = Some mark.Like
keyword_mark keyword.Is = Some mark.Is
keyword_mark keyword.Null = Some mark.Null
keyword_mark keyword.Isnull = Some mark.Isnull
keyword_mark keyword.Notnull = Some mark.Notnull
keyword_mark keyword.Collate = Some mark.Collate
keyword_mark _ = None

-- the mark that a symbol is, if the grammar has it
unfoldable pub symbol_mark : Symbol → Option Mark
symbol_mark symbol.OpenParenthesis = Some mark.Open
symbol_mark symbol.CloseParenthesis = Some mark.Close
symbol_mark symbol.Comma = Some mark.Comma
symbol_mark symbol.Point = Some mark.Dot
symbol_mark symbol.Plus = Some mark.Plus
symbol_mark symbol.Minus = Some mark.Minus
symbol_mark symbol.Star = Some mark.Star
symbol_mark symbol.Equal = Some mark.Eq
symbol_mark symbol.DoubleEqual = Some mark.EqEq
symbol_mark symbol.NotEqual = Some mark.Ne
symbol_mark symbol.Less = Some mark.Lt
symbol_mark symbol.AtMost = Some mark.Le
symbol_mark symbol.Greater = Some mark.Gt
symbol_mark symbol.AtLeast = Some mark.Ge
symbol_mark _ = None

unfoldable pub keyword_direction : Keyword → Option Direction
keyword_direction keyword.Asc = Some direction.Asc
keyword_direction keyword.Desc = Some direction.Desc
keyword_direction _ = None

-- a mark, or what else it is
abbrev pub mark_or : Option Mark → Lexeme → Lexeme
mark_or None unmarked = unmarked
mark_or (Some m) unmarked = lexeme.Fixed m

-- a word of the language: a mark, or a name where it isn't reserved
abbrev pub keyword_lexeme : Keyword → List ℕ → Lexeme
keyword_lexeme k bytes =
    mark_or (keyword_mark k) (cond (is_reserved_word k) lexeme.Other
    (lexeme.Name bytes (keyword_direction k)))

abbrev pub symbol_lexeme : Symbol → Lexeme
symbol_lexeme s = mark_or (symbol_mark s) lexeme.Other

abbrev pub number_lexeme : Option Number → Lexeme
number_lexeme None = lexeme.Other
number_lexeme (Some (number.Int n)) = lexeme.Int n
number_lexeme (Some (number.Dec units)) = lexeme.Dec units

abbrev pub parameter_lexeme : Option ℕ → Lexeme
parameter_lexeme None = lexeme.Other
parameter_lexeme (Some n) = lexeme.Param n

-- The lexeme that a token is, by what the grammar sees of it, its text, its value and the
-- parameters before it.
abbrev pub lexeme_by : Terminal → List ℕ → List ℕ → Met → Lexeme
lexeme_by (terminal.Keyword k) bytes value met = keyword_lexeme k bytes
lexeme_by terminal.Word bytes value met = lexeme.Name bytes None
lexeme_by terminal.Quoted bytes value met = lexeme.Name value None
lexeme_by terminal.Text bytes value met = lexeme.Text value
lexeme_by terminal.Blob bytes value met = lexeme.Blob value
lexeme_by terminal.Number bytes value met = number_lexeme (number_of bytes)
lexeme_by terminal.Parameter bytes value met = parameter_lexeme (parameter_number met bytes)
lexeme_by (terminal.Symbol s) bytes value met = symbol_lexeme s
lexeme_by terminal.Bad bytes value met = lexeme.Other

unfoldable pub lexeme_at : List ℕ → Met → Token → Lexeme
lexeme_at text met token = lexeme_by (terminal_of text token) (text_of text token)
    (value_of text token) met

abbrev pub met_by : Terminal → List ℕ → Met → Met
met_by terminal.Parameter bytes met = met_behind met bytes
met_by (terminal.Keyword k) bytes met = met
met_by terminal.Word bytes met = met
met_by terminal.Quoted bytes met = met
met_by terminal.Text bytes met = met
met_by terminal.Blob bytes met = met
met_by terminal.Number bytes met = met
met_by (terminal.Symbol s) bytes met = met
met_by terminal.Bad bytes met = met

-- the parameters met once the token is passed
unfoldable pub met_after : List ℕ → Met → Token → Met
met_after text met token = met_by (terminal_of text token) (text_of text token) met

-- Each token as a lexeme; parameters are numbered from the first token on.
abbrev pub lexemes_from : List ℕ → Met → List Token → List Lexeme
lexemes_from text met [] = []
lexemes_from text met (t ∷ ts) = lexeme_at text met t ∷ lexemes_from text (met_after text met t) ts

abbrev pub lexemes_of : List ℕ → List Token → List Lexeme
lexemes_of text tokens = lexemes_from text no_parameters tokens
