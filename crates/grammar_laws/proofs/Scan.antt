-- A scan of a statement from left to right, which takes each statement that the grammar spells and
-- stops at each part that isn't read. It sees classes in place of lexemes, and keeps what may come
-- next and, for each open parenthesis, whether it stands directly behind IN.
use Rattle.std.specs.Prelude.{◌≡◌, Bool, true, false, ◌||◌, cond, Option, None, Some, List, [], ◌∷◌}
use Rattle.sql_value.specs.declared.keywords.Keyword.{Keyword}
use Rattle.sql_value.specs.Reserved.{is_reserved_word}
use Rattle.sql_tokens.specs.declared.symbols.Symbol.{Symbol}
use Rattle.sql_tokens.specs.declared.terminal.Terminal.{Terminal}
use Rattle.sql_tokens.specs.declared.terminal.Terminal.TheVariants as terminal
use Rattle.sql_read.specs.declared.lexeme.Mark.{Mark}
use Rattle.sql_read.specs.declared.lexeme.Mark.TheVariants as mark
use Rattle.sql_read.specs.Lexemes.{Lexeme}
use Rattle.sql_read.specs.Lexemes as lexeme
use Rattle.sql_lexemes.specs.TokenLexemes.{keyword_mark, symbol_mark}

pub data Class : Type 0 where
  Name : Class
  Text : Class
  -- a blob or a parameter
  Value : Class
  Number : Class
  Null : Class
  Open : Class
  Close : Class
  Comma : Class
  Dot : Class
  Plus : Class
  Minus : Class
  Star : Class
  In : Class
  Is : Class
  Not : Class
  Select : Class
  All : Class
  Update : Class
  Delete : Class
  From : Class
  -- a word behind which a name stands: JOIN, AS, COLLATE
  Calling : Class
  -- ORDER, LIMIT
  Tail : Class
  -- ISNULL, NOTNULL
  Tested : Class
  -- any other word or operator of the grammar
  Word : Class
  -- what stands nowhere in the grammar
  Other : Class

unfoldable pub mark_class : Mark → Class
mark_class mark.Select = Select
mark_class mark.All = All
mark_class mark.From = From
mark_class mark.Order = Tail
mark_class mark.Limit = Tail
mark_class mark.As = Calling
mark_class mark.Join = Calling
mark_class mark.Collate = Calling
mark_class mark.Update = Update
mark_class mark.Delete = Delete
mark_class mark.Not = Not
mark_class mark.In = In
mark_class mark.Is = Is
mark_class mark.Null = Null
mark_class mark.Isnull = Tested
mark_class mark.Notnull = Tested
mark_class mark.Star = Star
mark_class mark.Dot = Dot
mark_class mark.Comma = Comma
mark_class mark.Open = Open
mark_class mark.Close = Close
mark_class mark.Plus = Plus
mark_class mark.Minus = Minus
mark_class _ = Word

unfoldable pub lexeme_class : Lexeme → Class
lexeme_class (lexeme.Fixed m) = mark_class m
lexeme_class (lexeme.Name bytes direction) = Name
lexeme_class (lexeme.Text bytes) = Text
lexeme_class (lexeme.Blob bytes) = Value
lexeme_class (lexeme.Int n) = Number
lexeme_class (lexeme.Dec units) = Number
lexeme_class (lexeme.Param number) = Value
lexeme_class lexeme.Other = Other

abbrev pub class_or : Option Mark → Class → Class
class_or None unmarked = unmarked
class_or (Some m) unmarked = mark_class m

unfoldable pub keyword_class : Keyword → Class
keyword_class k = class_or (keyword_mark k) (cond (is_reserved_word k) Other Name)

unfoldable pub symbol_class : Symbol → Class
symbol_class s = class_or (symbol_mark s) Other

unfoldable pub terminal_class : Terminal → Class
terminal_class (terminal.Keyword k) = keyword_class k
terminal_class terminal.Word = Name
terminal_class terminal.Quoted = Name
terminal_class terminal.Text = Text
terminal_class terminal.Blob = Value
terminal_class terminal.Number = Number
terminal_class terminal.Parameter = Value
terminal_class (terminal.Symbol s) = symbol_class s
terminal_class terminal.Bad = Other

-- what a statement begins with
pub data Kind : Type 0 where
  Query : Kind
  Change : Kind
  Removal : Kind

-- what may come next
pub data Phase : Type 0 where
  -- the statement
  Begin : Phase
  -- an operand or a `*`
  Fresh : Phase
  -- an operand
  Anew : Phase
  -- a name or a text that is no operand
  Label : Phase
  -- what follows a name, as a point
  Named : Phase
  -- a column's name or a `*`
  Dotted : Phase
  -- what follows an operand
  Ended : Phase
  -- `(`
  AfterIn : Phase
  -- NULL or NOT NULL
  AfterIs : Phase
  -- NULL
  AfterIsNot : Phase
  -- a number
  AfterMinus : Phase

abbrev pub begins : Kind → Class → Bool
begins Query Select = true
begins Change Update = true
begins Removal Delete = true
begins _ _ = false

-- a FROM may stand there
abbrev pub has_from : Kind → Bool
has_from Change = false
has_from Query = true
has_from Removal = true

-- an ORDER or a LIMIT may stand there
abbrev pub has_tail : Kind → Bool
has_tail Query = true
has_tail Change = false
has_tail Removal = false

-- a comma may stand there: outside of parentheses, or in those of an IN
abbrev pub has_comma : List Bool → Bool
has_comma [] = true
has_comma (b ∷ bs) = b

-- what may follow an operand
abbrev pub follows : Kind → List Bool → Class → Bool
follows k bs Comma = has_comma bs
follows k bs From = has_from k
follows k bs Tail = has_tail k
follows k bs Name = true
follows k bs Text = true
follows k bs Close = true
follows k bs In = true
follows k bs Is = true
follows k bs Not = true
follows k bs Calling = true
follows k bs Tested = true
follows k bs Word = true
follows k bs _ = false

-- an operand may begin so
abbrev pub begins_operand : Class → Bool
begins_operand Value = true
begins_operand Number = true
begins_operand Null = true
begins_operand Open = true
begins_operand Plus = true
begins_operand Minus = true
begins_operand _ = false

-- what may stand where an operand may begin
abbrev pub opens : Kind → List Bool → Class → Bool
opens k bs c = begins_operand c || follows k bs c

abbrev pub is_star : Class → Bool
is_star Star = true
is_star _ = false

abbrev pub is_all : Class → Bool
is_all All = true
is_all _ = false

abbrev pub is_dot : Class → Bool
is_dot Dot = true
is_dot _ = false

abbrev pub is_label : Class → Bool
is_label Name = true
is_label Text = true
is_label _ = false

abbrev pub is_column : Class → Bool
is_column Name = true
is_column Star = true
is_column _ = false

abbrev pub is_open : Class → Bool
is_open Open = true
is_open _ = false

abbrev pub is_null : Class → Bool
is_null Null = true
is_null _ = false

abbrev pub is_null_or_not : Class → Bool
is_null_or_not Null = true
is_null_or_not Not = true
is_null_or_not _ = false

abbrev pub is_number : Class → Bool
is_number Number = true
is_number _ = false

unfoldable pub may_come : Kind → Phase → List Bool → Class → Bool
may_come k Begin bs c = begins k c
may_come k Fresh bs c = is_star c || (is_all c || opens k bs c)
may_come k Anew bs c = opens k bs c
may_come k Label bs c = is_label c
may_come k Named bs c = is_dot c || follows k bs c
may_come k Dotted bs c = is_column c
may_come k Ended bs c = follows k bs c
may_come k AfterIn bs c = is_open c
may_come k AfterIs bs c = is_null_or_not c
may_come k AfterIsNot bs c = is_null c
may_come k AfterMinus bs c = is_number c

-- behind a name: a point may follow where an operand may begin
abbrev pub behind_name : Phase → Phase
behind_name Fresh = Named
behind_name Anew = Named
behind_name _ = Ended

abbrev pub behind_not : Phase → Phase
behind_not AfterIs = AfterIsNot
behind_not _ = Anew

unfoldable pub phase_behind : Phase → Class → Phase
phase_behind p Name = behind_name p
phase_behind p Not = behind_not p
phase_behind p Text = Ended
phase_behind p Value = Ended
phase_behind p Number = Ended
phase_behind p Null = Ended
phase_behind p Close = Ended
phase_behind p Star = Ended
phase_behind p Tested = Ended
phase_behind p Open = Anew
phase_behind p Plus = Anew
phase_behind p Delete = Anew
phase_behind p Tail = Anew
phase_behind p Word = Anew
phase_behind p Other = Anew
phase_behind p Comma = Fresh
phase_behind p Select = Fresh
phase_behind p All = Fresh
phase_behind p Dot = Dotted
phase_behind p Minus = AfterMinus
phase_behind p In = AfterIn
phase_behind p Is = AfterIs
phase_behind p Update = Label
phase_behind p From = Label
phase_behind p Calling = Label

abbrev pub is_after_in : Phase → Bool
is_after_in AfterIn = true
is_after_in _ = false

abbrev pub without_first : List Bool → List Bool
without_first [] = []
without_first (b ∷ bs) = bs

unfoldable pub stack_behind : Phase → Class → List Bool → List Bool
stack_behind p Open bs = is_after_in p ∷ bs
stack_behind p Close bs = without_first bs
stack_behind p _ bs = bs

-- an operand may have ended there
pub data Behind : Phase → Type 0 where
  named : Behind Named
  ended : Behind Ended

-- an operand may begin there
pub data Before : Phase → Type 0 where
  fresh : Before Fresh
  anew : Before Anew

-- the rest of a statement is taken
abbrev pub Takes : {A : Type 0} → (A → Class) → Kind → Phase → List Bool → List A → Type 0
Takes class k p bs [] = Behind p
Takes class k p bs (t ∷ ts) =
    (may_come k p bs (class t) ≡ true)
    × Takes class k (phase_behind p (class t)) (stack_behind p (class t) bs) ts
