-- Which refusal a statement meets, before its grammar is asked.
use Rattle.std.specs.Prelude.{ℕ, Bool, true, false, not, ◌||◌, cond, nat_lt, is_some, Option, None}
use Rattle.std.specs.Prelude.{Some, option_and_then, List, [], ◌∷◌}
use Rattle.sql_tokens.specs.declared.number_values.Number.{Number}
use Rattle.sql_tokens.specs.declared.symbols.Symbol.TheVariants as symbol
use Rattle.sql_tokens.specs.declared.terminal.Terminal.{Terminal}
use Rattle.sql_tokens.specs.declared.terminal.Terminal.TheVariants as terminal
use Rattle.sql_tokens.specs.declared.token.Token.{Token}
use Rattle.sql_tokens.specs.declared.token.TokenKind.{TokenKind}
use Rattle.sql_tokens.specs.declared.token.TokenKind.TheVariants as kind
use Rattle.sql_tokens.specs.NumberValues.{number_of, signed_value}
use Rattle.sql_tokens.specs.Terminals.{terminal_of, text_of}
use Rattle.sql_lex.specs.declared.constructs.Foreign.{Foreign}
use Rattle.sql_lex.specs.Constructs.{first_foreign}
use Rattle.sql_lex.specs.Depth.{depth_limit, depth_of}
use Rattle.sql_parse.specs.declared.refusals.ParseFault.{ParseFault}
use Rattle.sql_parse.specs.declared.refusals.ParseFault.TheVariants as fault

unfoldable pub is_bad : TokenKind → Bool
is_bad kind.Bad = true
is_bad _ = false

abbrev pub has_bad_token : List Token → Bool
has_bad_token [] = false
has_bad_token (t ∷ ts) = is_bad t.kind || has_bad_token ts

-- whether a number is a value, behind `-` or not
abbrev pub has_value : Bool → Option Number → Bool
has_value negative number = is_some (option_and_then (λ n. signed_value negative n) number)

abbrev pub is_outside_by : Terminal → Bool → List ℕ → Bool
is_outside_by terminal.Number negative bytes = not (has_value negative (number_of bytes))
is_outside_by _ negative bytes = false

unfoldable pub is_outside : List ℕ → Bool → Token → Bool
is_outside text negative token = is_outside_by (terminal_of text token) negative
    (text_of text token)

unfoldable pub is_minus : Terminal → Bool
is_minus (terminal.Symbol symbol.Minus) = true
is_minus _ = false

-- whether a number token is outside the profile; the flag says whether `-` stands directly before
-- the first
abbrev pub number_outside_from : List ℕ → Bool → List Token → Bool
number_outside_from text negative [] = false
number_outside_from text negative (t ∷ ts) = is_outside text negative t
    || number_outside_from text (is_minus (terminal_of text t)) ts

abbrev pub foreign_or : Option Foreign → Option ParseFault → Option ParseFault
foreign_or None later = later
foreign_or (Some f) later = Some (fault.Foreign f)

-- The first of the refusals that holds, in their order.
unfoldable pub first_refusal : List ℕ → List Token → Option ParseFault
first_refusal text tokens =
    cond (has_bad_token tokens) (Some fault.Lexical)
    (foreign_or (first_foreign text tokens)
    (cond (number_outside_from text false tokens) (Some fault.NumberOutOfProfile)
    (cond (nat_lt depth_limit (depth_of text tokens)) (Some fault.TooDeep) None)))
