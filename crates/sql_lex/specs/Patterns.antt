-- Where each construct stands that isn't read.
use Rattle.std.specs.Prelude.{Bool, false, not, ◌&&◌, ◌||◌, is_none, Some, List, [], ◌∷◌, slice_get}
use Rattle.std.specs.List.{list_any}
use Rattle.sql_value.specs.declared.keywords.Keyword.TheVariants as keyword
use Rattle.sql_tokens.specs.declared.symbols.Symbol.TheVariants as symbol
use Rattle.sql_tokens.specs.declared.terminal.Terminal.{Terminal}
use Rattle.sql_lex.specs.Looks.{is_keyword, is_symbol, is_keyword_among, is_symbol_among}
use Rattle.sql_lex.specs.Looks.{is_free_word, is_name, is_number, is_operand_end}
use Rattle.sql_lex.specs.declared.constructs.Foreign.{Foreign}
use Rattle.sql_lex.specs.declared.constructs.Foreign.TheVariants as foreign
use Rattle.sql_lex.specs.declared.contexts.Context.{Context}

-- the statement is none of a query, an UPDATE and a DELETE
unfoldable pub fits_other_statement : Context → Bool
fits_other_statement c =
    is_keyword_among
    (keyword.Create ∷ keyword.Drop ∷ keyword.Alter ∷ keyword.Pragma ∷ keyword.Begin
    ∷ keyword.Commit ∷ keyword.End ∷ keyword.Rollback ∷ keyword.Savepoint ∷ keyword.Release
    ∷ keyword.Attach ∷ keyword.Detach ∷ keyword.Analyze ∷ keyword.Reindex ∷ keyword.Vacuum
    ∷ keyword.Explain ∷ []) c.first

-- a query in parentheses, EXISTS, or IN without a list
unfoldable pub fits_subquery : Context → Bool
fits_subquery c =
    (is_symbol symbol.OpenParenthesis c.here
    && is_keyword_among (keyword.Select ∷ keyword.With ∷ keyword.Values ∷ []) c.next)
    || is_keyword keyword.Exists c.here
    || (is_keyword keyword.In c.here && not (is_symbol symbol.OpenParenthesis c.next))

-- a window, or a function over one or with a filter
unfoldable pub fits_window_function : Context → Bool
fits_window_function c =
    is_keyword keyword.Window c.here
    || (is_symbol symbol.CloseParenthesis c.here
    && is_keyword_among (keyword.Over ∷ keyword.Filter ∷ []) c.next
    && is_symbol symbol.OpenParenthesis c.second)

-- IS with neither NULL nor NOT NULL behind it
unfoldable pub fits_is : Context → Bool
fits_is c =
    is_keyword keyword.Is c.here
    && not (is_keyword keyword.Null c.next
    || (is_keyword keyword.Not c.next && is_keyword keyword.Null c.second))

-- an operator on numbers: not the `*` of a result, nor a sign before a number or an operand
unfoldable pub fits_arithmetic : Context → Bool
fits_arithmetic c =
    is_symbol_among (symbol.Slash ∷ symbol.Percent ∷ []) c.here
    || (is_symbol symbol.Star c.here
    && not (is_keyword_among (keyword.Select ∷ keyword.All ∷ []) c.before
    || is_symbol_among (symbol.Comma ∷ symbol.Point ∷ symbol.OpenParenthesis ∷ []) c.before))
    || (is_symbol_among (symbol.Plus ∷ symbol.Minus ∷ []) c.here && is_operand_end c.before)
    || (is_symbol symbol.Minus c.here && not (is_number c.next))

-- a table's name behind that of its database; or a column's behind both
unfoldable pub fits_qualified_table : Context → Bool
fits_qualified_table c =
    (is_keyword_among (keyword.From ∷ keyword.Join ∷ keyword.Update ∷ []) c.here
    && is_name c.next && is_symbol symbol.Point c.second)
    || (is_name c.here && is_symbol symbol.Point c.next
    && is_name c.second && is_symbol symbol.Point c.third && is_name c.fourth)

-- A construct stands at a place. Rows of values and the want of a FROM are asked of the whole.
unfoldable pub fits : Foreign → Context → Bool
fits foreign.Insert c = is_keyword_among (keyword.Insert ∷ keyword.Replace ∷ []) c.first
fits foreign.With c = is_keyword keyword.With c.first
fits foreign.Values c = is_keyword keyword.Values c.first
fits foreign.OtherStatement c = fits_other_statement c
fits foreign.Subquery c = fits_subquery c
fits foreign.CompoundSelect c =
    is_keyword_among (keyword.Union ∷ keyword.Intersect ∷ keyword.Except ∷ []) c.here
fits foreign.WindowFunction c = fits_window_function c
fits foreign.Case c = is_keyword keyword.Case c.here
fits foreign.Cast c = is_keyword keyword.Cast c.here && is_symbol symbol.OpenParenthesis c.next
fits foreign.LikeEscape c = is_keyword keyword.Escape c.here
fits foreign.Glob c = is_keyword keyword.Glob c.here
fits foreign.Regexp c = is_keyword keyword.Regexp c.here
fits foreign.Match c = is_keyword keyword.Match c.here
fits foreign.CurrentTime c =
    is_keyword_among
    (keyword.CurrentDate ∷ keyword.CurrentTime ∷ keyword.CurrentTimestamp ∷ []) c.here
fits foreign.Function c = is_free_word c.here && is_symbol symbol.OpenParenthesis c.next
fits foreign.GroupBy c = is_keyword_among (keyword.Group ∷ keyword.Having ∷ []) c.here
fits foreign.Distinct c = is_keyword keyword.Select c.here && is_keyword keyword.Distinct c.next
fits foreign.Is c = fits_is c
fits foreign.Concatenation c = is_symbol symbol.Concatenation c.here
fits foreign.BitOperator c =
    is_symbol_among
    (symbol.BitOr ∷ symbol.BitAnd ∷ symbol.ShiftLeft ∷ symbol.ShiftRight ∷ symbol.BitNot ∷ [])
    c.here
fits foreign.JsonOperator c = is_symbol_among (symbol.Arrow ∷ symbol.LongArrow ∷ []) c.here
fits foreign.Arithmetic c = fits_arithmetic c
fits foreign.RightJoin c = is_keyword keyword.Right c.here
fits foreign.FullJoin c = is_keyword keyword.Full c.here
fits foreign.NaturalJoin c = is_keyword keyword.Natural c.here
fits foreign.Using c = is_keyword keyword.Using c.here
fits foreign.ParenthesizedJoin c =
    is_keyword_among (keyword.From ∷ keyword.Join ∷ []) c.here
    && is_symbol symbol.OpenParenthesis c.next
fits foreign.RowValue c = false
fits foreign.IndexedBy c = is_keyword keyword.Indexed c.here
fits foreign.Returning c = is_keyword keyword.Returning c.here
fits foreign.UpdateFrom c = is_keyword keyword.Update c.first && is_keyword keyword.From c.here
fits foreign.UpdateOr c =
    is_none c.before && is_keyword keyword.Update c.here && is_keyword keyword.Or c.next
fits foreign.LimitOnChange c =
    is_keyword_among (keyword.Update ∷ keyword.Delete ∷ []) c.first
    && is_keyword_among (keyword.Order ∷ keyword.Limit ∷ []) c.here
fits foreign.NullsFirstOrLast c = is_keyword keyword.Nulls c.here
fits foreign.QualifiedTable c = fits_qualified_table c
fits foreign.SelectWithoutFrom c = false

-- the statement is a query without a FROM
abbrev pub lacks_from : List Terminal → Bool
lacks_from ts =
    is_keyword keyword.Select (slice_get ts 0)
    && not (list_any (λ t. is_keyword keyword.From (Some t)) ts)
