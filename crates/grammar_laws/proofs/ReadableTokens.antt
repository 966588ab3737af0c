-- Tokens whose lexemes are readable: none is bad, and no number is outside the profile. So a
-- spelled statement is refused for its depth alone.
use Rattle.std.proofs.Common.{◌≡◌, ℕ, ◌+◌, ◌*◌, ◌^◌, ◌≤◌, ◌<◌, Bool, true, false, not, cond, nat_lt}
use Rattle.std.proofs.Common.{nat_le, if◌then◌else◌, Option, None, Some, option_map}
use Rattle.std.proofs.Common.{option_and_then, position}
use Rattle.std.proofs.Common.{List, [], ◌∷◌, ◌++◌, length, take, drop, refl, ap, ◌∙◌, subst, arith}
use Rattle.sql_meaning.specs.Numbers.{bare, pointed, digits_up_to}
use Rattle.sql_meaning.specs.Numbers.{last_digit_units, is_point}
use Rattle.sql_meaning.specs.Values.{without_trailing}
use Rattle.sql_meaning.proofs.Reading.{read_is_value, upto_parts}
use Rattle.sql_value.specs.declared.keywords.Keyword.{Keyword}
use Rattle.sql_value.specs.declared.keywords.Keyword.TheVariants as keyword
use Rattle.sql_value.specs.Reserved.{is_reserved_word}
use Rattle.sql_tokens.specs.declared.number_values.Number.{Number}
use Rattle.sql_tokens.specs.declared.number_values.Number.TheVariants as number
use Rattle.sql_tokens.specs.declared.symbols.Symbol.{Symbol}
use Rattle.sql_tokens.specs.declared.symbols.Symbol.TheVariants as symbol
use Rattle.sql_tokens.specs.declared.terminal.Terminal.{Terminal}
use Rattle.sql_tokens.specs.declared.terminal.Terminal.TheVariants as terminal
use Rattle.sql_tokens.specs.declared.token.Token.{Token}
use Rattle.sql_tokens.specs.declared.token.TokenKind.{TokenKind}
use Rattle.sql_tokens.specs.declared.token.TokenKind.TheVariants as kind
use Rattle.sql_tokens.specs.NumberValues.{or_zero, number_around, number_of}
use Rattle.sql_tokens.specs.Terminals.{terminal_of_kind, terminal_of, text_of}
use Rattle.sql_tokens.specs.TokenValues.{value_of}
use Rattle.sql_tree.specs.Statements.{StatementTree}
use Rattle.sql_lex.specs.Depth.{depth_limit, depth_of}
use Rattle.sql_read.specs.declared.lexeme.Direction.{Direction}
use Rattle.sql_read.specs.declared.lexeme.Mark.{Mark}
use Rattle.sql_read.specs.declared.lexeme.Mark.TheVariants as mark
use Rattle.sql_read.specs.Lexemes as lexeme
use Rattle.sql_parse.specs.declared.refusals.ParseFault.TheVariants as fault
use Rattle.sql_lexemes.specs.Parameters.{Met, parameter_number, no_parameters}
use Rattle.sql_parse.specs.Refusals.{is_bad, has_bad_token, has_value, is_outside_by, is_outside}
use Rattle.sql_parse.specs.Refusals.{number_outside_from, first_refusal}
use Rattle.sql_parse.specs.Refusals as refusals
use Rattle.sql_parse.specs.Statements.{IsSpelled}
use Rattle.sql_lexemes.specs.TokenLexemes.{keyword_mark, symbol_mark, mark_or, keyword_direction}
use Rattle.sql_lexemes.specs.TokenLexemes.{number_lexeme, parameter_lexeme, lexeme_by, lexeme_at}
use Rattle.sql_lexemes.specs.TokenLexemes.{met_after, lexemes_from, lexemes_of}
use Rattle.grammar_laws.proofs.Readable.{is_readable, is_minus, are_readable, spelled_readable}
use Rattle.grammar_laws.proofs.Places.{both}
use Rattle.grammar_laws.proofs.Known.{known}

-- A number with a point is below 10^11.

abbrev IsBelow : Option Number → Type 0
IsBelow None = Unit {0}
IsBelow (Some (number.Int n)) = Unit {0}
IsBelow (Some (number.Dec units)) = units < 10 ^ 15

below_where :
    (b : Bool) (units : ℕ) → (b ≡ true → units < 10 ^ 15)
    → IsBelow (if b then Some (number.Dec units) else None)
below_where true units h = h refl
below_where false units h = tt

at_most : (n m : ℕ) → nat_le n m ≡ true → n ≤ m
at_most n m e = grind arith

whole_below : (o : Option ℕ) → IsBelow (option_map (λ n. number.Int n) o)
whole_below None = tt
whole_below (Some n) = tt

decimal_below :
    (ds fs : List ℕ) (o p : Option ℕ) → digits_up_to 99999999999 ds ≡ o → digits_up_to 9999 fs ≡ p
    → IsBelow (option_and_then (λ n. option_and_then (λ f.
    if nat_le (length fs) 4
    then Some (number.Dec (n * 10000 + f * last_digit_units (length fs))) else None) p) o)
decimal_below ds fs None p d e = tt
decimal_below ds fs (Some n) None d e = tt
decimal_below ds fs (Some n) (Some f) d e =
    let whole = upto_parts 99999999999 n ds d in
    let part = upto_parts 9999 f fs e in
    below_where (nat_le (length fs) 4) (n * 10000 + f * last_digit_units (length fs)) (λ b.
    read_is_value (ds ++ 46 ∷ fs) _
    (pointed bare whole.0 part.0 (at_most (length fs) 4 b) (omega (arith, whole.1)) refl))

around_below : (bytes : List ℕ) (o : Option ℕ) → IsBelow (number_around bytes o)
around_below bytes None = whole_below (digits_up_to (2 ^ 63) bytes)
around_below bytes (Some place) =
    decimal_below (or_zero (take place bytes))
    (or_zero (without_trailing 48 (drop (place + 1) bytes))) _ _ refl refl

-- Numbers.

whole_has_value :
    (negative : Bool) (n : ℕ) → is_readable negative (lexeme.Int n) ≡ true
    → has_value negative (Some (number.Int n)) ≡ true
whole_has_value true n e = grind arith
whole_has_value false n e = grind arith

decimal_has_value :
    (negative : Bool) (units : ℕ) → units < 10 ^ 15
    → has_value negative (Some (number.Dec units)) ≡ true
decimal_has_value negative units h = grind arith

number_has_value :
    (negative : Bool) (o : Option Number) → IsBelow o
    → is_readable negative (number_lexeme o) ≡ true
    → has_value negative o ≡ true
number_has_value negative None h e = cc
number_has_value negative (Some (number.Int n)) h e = whole_has_value negative n e
number_has_value negative (Some (number.Dec units)) h e = decimal_has_value negative units h

-- One token.

not_outside :
    (t : Terminal) (negative : Bool) (bytes value : List ℕ) (met : Met)
    → is_readable negative (lexeme_by t bytes value met) ≡ true
    → is_outside_by t negative bytes ≡ false
not_outside terminal.Number negative bytes value met e =
    ap not (number_has_value negative (number_of bytes)
    (around_below bytes (position is_point bytes)) e)
not_outside _ negative bytes value met e = refl

not_bad_kind :
    (k : TokenKind) (negative : Bool) (bytes value : List ℕ) (met : Met)
    → is_readable negative (lexeme_by (terminal_of_kind k bytes) bytes value met) ≡ true
    → is_bad k ≡ false
unfolding is_bad
not_bad_kind kind.Bad negative bytes value met e = cc
not_bad_kind _ negative bytes value met e = refl

not_bad :
    (text : List ℕ) (met : Met) (negative : Bool) (t : Token)
    → is_readable negative (lexeme_at text met t) ≡ true → is_bad t.kind ≡ false
unfolding lexeme_at terminal_of
not_bad text met negative t e =
    not_bad_kind t.kind negative (text_of text t) (value_of text t) met e

-- A lexeme is the minus where its terminal is.

abbrev is_minus_mark : Option Mark → Bool
is_minus_mark (Some mark.Minus) = true
is_minus_mark _ = false

marked_minus :
    (o : Option Mark) (reserved : Bool) (bytes : List ℕ) (d : Option Direction)
    → is_minus (mark_or o (cond reserved lexeme.Other (lexeme.Name bytes d))) ≡ is_minus_mark o
marked_minus (Some mark.Minus) reserved bytes d = refl
marked_minus (Some _) reserved bytes d = refl
marked_minus None true bytes d = refl
marked_minus None false bytes d = refl

keyword_minus : (k : Keyword) → is_minus_mark (keyword_mark k) ≡ false
unfolding keyword_mark
keyword_minus keyword.Select = refl
keyword_minus _ = refl

symbol_minus :
    (s : Symbol) → is_minus (mark_or (symbol_mark s) lexeme.Other)
    ≡ refusals.is_minus (terminal.Symbol s)
unfolding symbol_mark refusals.is_minus
symbol_minus symbol.Minus = refl
symbol_minus _ = refl

number_minus : (o : Option Number) → is_minus (number_lexeme o) ≡ false
number_minus None = refl
number_minus (Some (number.Int n)) = refl
number_minus (Some (number.Dec units)) = refl

parameter_minus : (o : Option ℕ) → is_minus (parameter_lexeme o) ≡ false
parameter_minus None = refl
parameter_minus (Some n) = refl

same_minus :
    (t : Terminal) (bytes value : List ℕ) (met : Met)
    → is_minus (lexeme_by t bytes value met) ≡ refusals.is_minus t
unfolding refusals.is_minus
same_minus (terminal.Keyword k) bytes value met =
    marked_minus (keyword_mark k) (is_reserved_word k) bytes (keyword_direction k) ∙ keyword_minus k
same_minus terminal.Number bytes value met = number_minus (number_of bytes)
same_minus terminal.Parameter bytes value met = parameter_minus (parameter_number met bytes)
same_minus (terminal.Symbol s) bytes value met = symbol_minus s
same_minus _ bytes value met = refl

-- All tokens.

readable_tokens :
    (text : List ℕ) (met : Met) (negative : Bool) (tokens : List Token)
    → are_readable negative (lexemes_from text met tokens) ≡ true
    → (has_bad_token tokens ≡ false) × (number_outside_from text negative tokens ≡ false)
unfolding lexeme_at is_outside
readable_tokens text met negative [] e = (refl, refl)
readable_tokens text met negative (t ∷ ts) e =
    let u = terminal_of text t in
    let l = lexeme_at text met t in
    let behind = lexemes_from text (met_after text met t) ts in
    let parts = both (is_readable negative l) (are_readable (is_minus l) behind) e in
    let same = same_minus u (text_of text t) (value_of text t) met in
    let later = readable_tokens text (met_after text met t) (refusals.is_minus u) ts
    (subst (λ b. are_readable b behind ≡ true) same parts.1) in (
      rw (not_bad text met negative t parts.0, later.0) refl,
      rw (not_outside u negative (text_of text t) (value_of text t) met parts.0, later.1) refl,
    )

-- nothing but its depth refuses a statement that the grammar spells
pub refused_for_depth_alone :
    (text : List ℕ) (tokens : List Token) (tree : StatementTree)
    → IsSpelled (lexemes_of text tokens) tree
    → first_refusal text tokens
    ≡ cond (nat_lt depth_limit (depth_of text tokens)) (Some fault.TooDeep) None
unfolding first_refusal
refused_for_depth_alone text tokens tree spelled =
    let r = readable_tokens text no_parameters false tokens (spelled_readable spelled) in
    rw (r.0, known text tokens tree spelled, r.1) refl
