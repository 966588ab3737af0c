-- Classes of terminals: the same as those of the lexemes, and what they say of the terminal.
use Rattle.std.proofs.Common.{◌≡◌, ℕ, Bool, true, false, not, ◌⊎◌, inl, inr, cond, Option, None}
use Rattle.std.proofs.Common.{Some, List, [], ◌∷◌, map, refl, ap, subst}
use denote.Enum.Bare.{same_true}
use Rattle.sql_value.specs.declared.keywords.Keyword.{Keyword}
use Rattle.sql_value.specs.declared.keywords.Keyword.TheVariants as keyword
use Rattle.sql_value.specs.contracts.keywords.Keyword as keywords
use Rattle.sql_value.specs.Reserved.{is_reserved_word}
use Rattle.sql_tokens.specs.declared.symbols.Symbol.{Symbol}
use Rattle.sql_tokens.specs.declared.symbols.Symbol.TheVariants as symbol
use Rattle.sql_tokens.specs.contracts.symbols.Symbol as symbols
use Rattle.sql_tokens.specs.declared.number_values.Number.{Number}
use Rattle.sql_tokens.specs.declared.number_values.Number.TheVariants as number
use Rattle.sql_tokens.specs.declared.terminal.Terminal.{Terminal}
use Rattle.sql_tokens.specs.declared.terminal.Terminal.TheVariants as terminal
use Rattle.sql_tokens.specs.declared.token.Token.{Token}
use Rattle.sql_tokens.specs.NumberValues.{number_of}
use Rattle.sql_tokens.specs.Terminals.{terminal_of}
use Rattle.sql_lex.specs.Looks.{is_keyword, is_symbol, is_free_word, is_name, is_number, is_literal}
use Rattle.sql_lex.specs.Looks.{is_operand_end}
use Rattle.sql_read.specs.declared.lexeme.Mark.{Mark}
use Rattle.sql_read.specs.declared.lexeme.Direction.{Direction}
use Rattle.sql_read.specs.Lexemes.{Lexeme}
use Rattle.sql_read.specs.Lexemes as lexeme
use Rattle.sql_lexemes.specs.Parameters.{Met, parameter_number}
use Rattle.sql_lexemes.specs.TokenLexemes.{keyword_mark, symbol_mark, mark_or, keyword_direction}
use Rattle.sql_lexemes.specs.TokenLexemes.{number_lexeme, parameter_lexeme, lexeme_by, lexeme_at}
use Rattle.sql_lexemes.specs.TokenLexemes.{met_after, lexemes_from}
use Rattle.grammar_laws.proofs.Scan.{Class, Kind, Phase, Takes, may_come, phase_behind}
use Rattle.grammar_laws.proofs.Scan.{stack_behind}
use Rattle.grammar_laws.proofs.Scan.{mark_class, lexeme_class, class_or, keyword_class}
use Rattle.grammar_laws.proofs.Scan.{symbol_class, terminal_class}
use Rattle.grammar_laws.proofs.Scan as scan

-- The class of a lexeme is that of its terminal, or nothing is taken there.

abbrev IsClassOf : Lexeme → Terminal → Type 0
IsClassOf l t = (lexeme_class l ≡ terminal_class t) ⊎ (lexeme_class l ≡ scan.Other)

of_keyword :
    (o : Option Mark) (reserved : Bool) (bytes : List ℕ) (d : Option Direction)
    → lexeme_class (mark_or o (cond reserved lexeme.Other (lexeme.Name bytes d)))
    ≡ class_or o (cond reserved scan.Other scan.Name)
unfolding lexeme_class
of_keyword (Some m) reserved bytes d = refl
of_keyword None true bytes d = refl
of_keyword None false bytes d = refl

of_symbol : (o : Option Mark) → lexeme_class (mark_or o lexeme.Other) ≡ class_or o scan.Other
unfolding lexeme_class
of_symbol (Some m) = refl
of_symbol None = refl

of_number : (n : Option Number) → IsClassOf (number_lexeme n) terminal.Number
unfolding lexeme_class terminal_class
of_number None = inr refl
of_number (Some (number.Int n)) = inl refl
of_number (Some (number.Dec n)) = inl refl

of_parameter : (n : Option ℕ) → IsClassOf (parameter_lexeme n) terminal.Parameter
unfolding lexeme_class terminal_class
of_parameter None = inr refl
of_parameter (Some n) = inl refl

pub same_class :
    (t : Terminal) (bytes value : List ℕ) (met : Met) → IsClassOf (lexeme_by t bytes value met) t
unfolding lexeme_class terminal_class keyword_class symbol_class
same_class (terminal.Keyword k) bytes value met =
    inl (of_keyword (keyword_mark k) (is_reserved_word k) bytes (keyword_direction k))
same_class terminal.Word bytes value met = inl refl
same_class terminal.Quoted bytes value met = inl refl
same_class terminal.Text bytes value met = inl refl
same_class terminal.Blob bytes value met = inl refl
same_class terminal.Number bytes value met = of_number (number_of bytes)
same_class terminal.Parameter bytes value met = of_parameter (parameter_number met bytes)
same_class (terminal.Symbol s) bytes value met = inl (of_symbol (symbol_mark s))
same_class terminal.Bad bytes value met = inr refl

not_begun : (k : Kind) → scan.begins k scan.Other ≡ true → ⊥
not_begun scan.Query e = cc
not_begun scan.Change e = cc
not_begun scan.Removal e = cc

-- what is no part of the grammar comes nowhere
pub no_other : (k : Kind) (p : Phase) (bs : List Bool) → may_come k p bs scan.Other ≡ true → ⊥
unfolding may_come
no_other k scan.Begin bs e = not_begun k e
no_other k scan.Fresh bs e = cc
no_other k scan.Anew bs e = cc
no_other k scan.Label bs e = cc
no_other k scan.Named bs e = cc
no_other k scan.Dotted bs e = cc
no_other k scan.Ended bs e = cc
no_other k scan.AfterIn bs e = cc
no_other k scan.AfterIs bs e = cc
no_other k scan.AfterIsNot bs e = cc
no_other k scan.AfterMinus bs e = cc

-- a terminal of this class is taken, and what follows it
abbrev pub TakesFirst : Kind → Phase → List Bool → Class → List Terminal → Type 0
TakesFirst k p bs c ts =
    (may_come k p bs c ≡ true) × Takes terminal_class k (phase_behind p c) (stack_behind p c bs) ts

-- what is taken as lexemes is taken as terminals
pub of_tokens :
    (text : List ℕ) (met : Met) (tokens : List Token) (k : Kind) (p : Phase) (bs : List Bool)
    → Takes lexeme_class k p bs (lexemes_from text met tokens)
    → Takes terminal_class k p bs (map (terminal_of text) tokens)
unfolding lexeme_at
of_tokens text met [] k p bs h = h
of_tokens text met (t ∷ ts) k p bs h =
    let l = lexeme_at text met t in
    let c = lexeme_class l in
    let later = of_tokens text (met_after text met t) ts k (phase_behind p c)
    (stack_behind p c bs) h.1 in
    elim (same_class (terminal_of text t) _ _ met) [
      | inl e ↦ subst (λ d. TakesFirst k p bs d (map (terminal_of text) ts)) e (h.0, later)
      | inr e ↦ absurd (no_other k p bs (subst (λ d. may_come k p bs d ≡ true) e h.0))
    ]

-- What a test of a terminal says of its class.

pub keyword_is :
    (k : Keyword) (t : Terminal) → is_keyword k (Some t) ≡ true → terminal_class t ≡ keyword_class k
unfolding is_keyword terminal_class
keyword_is k (terminal.Keyword w) e = ap keyword_class (same_true keywords.the_type tt w k e)
keyword_is k _ e = cc

pub symbol_is :
    (s : Symbol) (t : Terminal) → is_symbol s (Some t) ≡ true → terminal_class t ≡ symbol_class s
unfolding is_symbol terminal_class
symbol_is s (terminal.Symbol t) e = ap symbol_class (same_true symbols.the_type tt t s e)
symbol_is s _ e = cc

-- a mark is no name
free_keyword : (k : Keyword) → not (is_reserved_word k) ≡ true → keyword_class k ≡ scan.Name
unfolding is_reserved_word keyword_class keyword_mark mark_class
free_keyword keyword.Asc e = refl
free_keyword _ e = cc

pub free_word_is : (t : Terminal) → is_free_word (Some t) ≡ true → terminal_class t ≡ scan.Name
unfolding is_free_word terminal_class
free_word_is (terminal.Keyword k) e = free_keyword k e
free_word_is terminal.Word e = refl
free_word_is _ e = cc

pub name_is : (t : Terminal) → is_name (Some t) ≡ true → terminal_class t ≡ scan.Name
unfolding is_name is_free_word terminal_class
name_is (terminal.Keyword k) e = free_keyword k e
name_is terminal.Word e = refl
name_is terminal.Quoted e = refl
name_is _ e = cc

-- an operand may end with this class
abbrev pub ends : Class → Bool
ends scan.Name = true
ends scan.Text = true
ends scan.Value = true
ends scan.Number = true
ends scan.Null = true
ends scan.Close = true
ends _ = false

keyword_end :
    (k : Keyword) → is_operand_end (Some (terminal.Keyword k)) ≡ true
    → ends (keyword_class k) ≡ true
unfolding is_operand_end is_name is_free_word is_literal is_keyword is_symbol is_reserved_word
    keyword_class keyword_mark mark_class
keyword_end keyword.Null e = refl
keyword_end _ e = cc

symbol_end :
    (s : Symbol) → is_operand_end (Some (terminal.Symbol s)) ≡ true → ends (symbol_class s) ≡ true
unfolding is_operand_end is_name is_free_word is_literal is_keyword is_symbol symbol_class
    symbol_mark mark_class
symbol_end symbol.CloseParenthesis e = refl
symbol_end _ e = cc

bad_end : is_operand_end (Some terminal.Bad) ≡ true → ⊥
unfolding is_operand_end is_name is_free_word is_literal is_keyword is_symbol
bad_end e = cc

pub operand_end_is :
    (t : Terminal) → is_operand_end (Some t) ≡ true → ends (terminal_class t) ≡ true
unfolding terminal_class
operand_end_is (terminal.Keyword k) e = keyword_end k e
operand_end_is (terminal.Symbol s) e = symbol_end s e
operand_end_is terminal.Bad e = absurd (bad_end e)
operand_end_is _ e = refl

-- What a class says of a terminal.

-- the classes that one terminal has, or one kind of terminals
abbrev pub means : Class → Terminal → Bool
means scan.Comma t = is_symbol symbol.Comma (Some t)
means scan.Dot t = is_symbol symbol.Point (Some t)
means scan.Open t = is_symbol symbol.OpenParenthesis (Some t)
means scan.Null t = is_keyword keyword.Null (Some t)
means scan.Not t = is_keyword keyword.Not (Some t)
means scan.Select t = is_keyword keyword.Select (Some t)
means scan.All t = is_keyword keyword.All (Some t)
means scan.From t = is_keyword keyword.From (Some t)
means scan.Number t = is_number (Some t)
means _ t = true

keyword_means : (k : Keyword) → means (keyword_class k) (terminal.Keyword k) ≡ true
unfolding is_keyword is_symbol is_number is_reserved_word keyword_class keyword_mark mark_class
keyword_means keyword.Null = refl
keyword_means _ = refl

symbol_means : (s : Symbol) → means (symbol_class s) (terminal.Symbol s) ≡ true
unfolding is_keyword is_symbol is_number symbol_class symbol_mark mark_class
symbol_means symbol.Comma = refl
symbol_means _ = refl

pub class_means : (t : Terminal) → means (terminal_class t) t ≡ true
unfolding terminal_class is_number
class_means (terminal.Keyword k) = keyword_means k
class_means (terminal.Symbol s) = symbol_means s
class_means _ = refl
