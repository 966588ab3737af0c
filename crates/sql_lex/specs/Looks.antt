-- What stands at a place.
use Rattle.std.specs.Prelude.{Bool, true, false, not, ◌||◌, Option, Some, List}
use Rattle.std.specs.List.{list_any}
use denote.Enum.Bare.{sameb}
use Rattle.sql_value.specs.declared.keywords.Keyword.{Keyword}
use Rattle.sql_value.specs.declared.keywords.Keyword.TheVariants as keyword
use Rattle.sql_value.specs.contracts.keywords.Keyword as keywords
use Rattle.sql_value.specs.Reserved.{is_reserved_word}
use Rattle.sql_tokens.specs.declared.symbols.Symbol.{Symbol}
use Rattle.sql_tokens.specs.declared.symbols.Symbol.TheVariants as symbol
use Rattle.sql_tokens.specs.contracts.symbols.Symbol as symbols
use Rattle.sql_tokens.specs.declared.terminal.Terminal.{Terminal}
use Rattle.sql_tokens.specs.declared.terminal.Terminal.TheVariants as terminal

-- `==` of keywords and of symbols
abbrev pub same_keyword : Keyword → Keyword → Bool
same_keyword a b = sameb keywords.the_type a b

abbrev pub same_symbol : Symbol → Symbol → Bool
same_symbol a b = sameb symbols.the_type a b

-- this keyword stands there
unfoldable pub is_keyword : Keyword → Option Terminal → Bool
is_keyword k (Some (terminal.Keyword w)) = same_keyword w k
is_keyword k _ = false

-- this symbol stands there
unfoldable pub is_symbol : Symbol → Option Terminal → Bool
is_symbol s (Some (terminal.Symbol t)) = same_symbol t s
is_symbol s _ = false

-- one of these stands there
abbrev pub is_keyword_among : List Keyword → Option Terminal → Bool
is_keyword_among ks there = list_any (λ k. is_keyword k there) ks

abbrev pub is_symbol_among : List Symbol → Option Terminal → Bool
is_symbol_among ss there = list_any (λ s. is_symbol s there) ss

-- a word that is no reserved one
unfoldable pub is_free_word : Option Terminal → Bool
is_free_word (Some terminal.Word) = true
is_free_word (Some (terminal.Keyword k)) = not (is_reserved_word k)
is_free_word _ = false

abbrev pub is_quoted : Option Terminal → Bool
is_quoted (Some terminal.Quoted) = true
is_quoted _ = false

-- a name: quoted, or a word that is no reserved one
unfoldable pub is_name : Option Terminal → Bool
is_name there = is_quoted there || is_free_word there

unfoldable pub is_number : Option Terminal → Bool
is_number (Some terminal.Number) = true
is_number _ = false

unfoldable pub is_literal : Option Terminal → Bool
is_literal (Some terminal.Number) = true
is_literal (Some terminal.Text) = true
is_literal (Some terminal.Blob) = true
is_literal (Some terminal.Parameter) = true
is_literal _ = false

-- an operand may end there: a name, a value, NULL or a parenthesis
unfoldable pub is_operand_end : Option Terminal → Bool
is_operand_end there =
    is_name there || is_literal there || is_keyword keyword.Null there
    || is_symbol symbol.CloseParenthesis there
