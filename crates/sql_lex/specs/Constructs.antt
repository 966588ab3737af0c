-- What SQLite reads and this program doesn't: the names, the order, and the first that a statement
-- has.
use Rattle.std.specs.Prelude.{ℕ, Bool, Option, List, [], ◌∷◌, map, codes}
use Rattle.std.specs.List.{find}
use Rattle.sql_tokens.specs.Terminals.{terminal_of}
use Rattle.sql_tokens.specs.declared.terminal.Terminal.{Terminal}
use Rattle.sql_tokens.specs.declared.token.Token.{Token}
use Rattle.sql_lex.specs.Patterns.{fits, lacks_from}
use Rattle.sql_lex.specs.Contexts.{somewhere}
use Rattle.sql_lex.specs.Rows.{has_row_value}
use Rattle.sql_lex.specs.declared.constructs.Foreign.{Foreign}
use Rattle.sql_lex.specs.declared.constructs.Foreign.TheVariants as foreign

-- a statement has this construct
abbrev pub has_construct : List Terminal → Foreign → Bool
has_construct ts foreign.RowValue = has_row_value ts
has_construct ts foreign.SelectWithoutFrom = lacks_from ts
has_construct ts f = somewhere (fits f) ts

-- all constructs, in the order in which they are tried
unfoldable pub constructs : List Foreign
constructs =
    foreign.Insert ∷
    foreign.With ∷
    foreign.Values ∷
    foreign.OtherStatement ∷
    foreign.Subquery ∷
    foreign.CompoundSelect ∷
    foreign.WindowFunction ∷
    foreign.Case ∷
    foreign.Cast ∷
    foreign.LikeEscape ∷
    foreign.Glob ∷
    foreign.Regexp ∷
    foreign.Match ∷
    foreign.CurrentTime ∷
    foreign.Function ∷
    foreign.GroupBy ∷
    foreign.Distinct ∷
    foreign.Is ∷
    foreign.Concatenation ∷
    foreign.BitOperator ∷
    foreign.JsonOperator ∷
    foreign.Arithmetic ∷
    foreign.RightJoin ∷
    foreign.FullJoin ∷
    foreign.NaturalJoin ∷
    foreign.Using ∷
    foreign.ParenthesizedJoin ∷
    foreign.RowValue ∷
    foreign.IndexedBy ∷
    foreign.Returning ∷
    foreign.UpdateFrom ∷
    foreign.UpdateOr ∷
    foreign.LimitOnChange ∷
    foreign.NullsFirstOrLast ∷
    foreign.QualifiedTable ∷
    foreign.SelectWithoutFrom ∷
    []

-- the first construct that a statement has
unfoldable pub first_foreign : List ℕ → List Token → Option Foreign
first_foreign text tokens = find (has_construct (map (terminal_of text) tokens)) constructs

-- the name of a construct, as refusals print it
unfoldable pub foreign_name : Foreign → List ℕ
foreign_name foreign.Insert = codes "INSERT"
foreign_name foreign.With = codes "WITH"
foreign_name foreign.Values = codes "VALUES"
foreign_name foreign.OtherStatement = codes "OTHER STATEMENT"
foreign_name foreign.Subquery = codes "SUBQUERY"
foreign_name foreign.CompoundSelect = codes "COMPOUND SELECT"
foreign_name foreign.WindowFunction = codes "WINDOW FUNCTION"
foreign_name foreign.Case = codes "CASE"
foreign_name foreign.Cast = codes "CAST"
foreign_name foreign.LikeEscape = codes "LIKE ESCAPE"
foreign_name foreign.Glob = codes "GLOB"
foreign_name foreign.Regexp = codes "REGEXP"
foreign_name foreign.Match = codes "MATCH"
foreign_name foreign.CurrentTime = codes "CURRENT TIME"
foreign_name foreign.Function = codes "FUNCTION"
foreign_name foreign.GroupBy = codes "GROUP BY"
foreign_name foreign.Distinct = codes "DISTINCT"
foreign_name foreign.Is = codes "IS"
foreign_name foreign.Concatenation = codes "CONCATENATION"
foreign_name foreign.BitOperator = codes "BIT OPERATOR"
foreign_name foreign.JsonOperator = codes "JSON OPERATOR"
foreign_name foreign.Arithmetic = codes "ARITHMETIC"
foreign_name foreign.RightJoin = codes "RIGHT JOIN"
foreign_name foreign.FullJoin = codes "FULL JOIN"
foreign_name foreign.NaturalJoin = codes "NATURAL JOIN"
foreign_name foreign.Using = codes "USING"
foreign_name foreign.ParenthesizedJoin = codes "PARENTHESIZED JOIN"
foreign_name foreign.RowValue = codes "ROW VALUE"
foreign_name foreign.IndexedBy = codes "INDEXED BY"
foreign_name foreign.Returning = codes "RETURNING"
foreign_name foreign.UpdateFrom = codes "UPDATE FROM"
foreign_name foreign.UpdateOr = codes "UPDATE OR"
foreign_name foreign.LimitOnChange = codes "LIMIT ON UPDATE OR DELETE"
foreign_name foreign.NullsFirstOrLast = codes "NULLS FIRST OR LAST"
foreign_name foreign.QualifiedTable = codes "QUALIFIED TABLE"
foreign_name foreign.SelectWithoutFrom = codes "SELECT WITHOUT FROM"
