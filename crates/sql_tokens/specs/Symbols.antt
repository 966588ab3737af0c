-- Which symbol some bytes write.
use Rattle.std.specs.Prelude.{ℕ, ◌==◌, ◌&&◌, ◌||◌, cond, Option, None, Some, List, [], ◌∷◌}
use Rattle.sql_tokens.specs.declared.symbols.Symbol.{Symbol}
use Rattle.sql_tokens.specs.declared.symbols.Symbol.TheVariants as symbol

unfoldable pub one_byte_symbol : ℕ → Option Symbol
one_byte_symbol a =
    cond (a == 40) (Some symbol.OpenParenthesis)
    (cond (a == 41) (Some symbol.CloseParenthesis)
    (cond (a == 44) (Some symbol.Comma)
    (cond (a == 59) (Some symbol.Semicolon)
    (cond (a == 46) (Some symbol.Point)
    (cond (a == 43) (Some symbol.Plus)
    (cond (a == 45) (Some symbol.Minus)
    (cond (a == 42) (Some symbol.Star)
    (cond (a == 47) (Some symbol.Slash)
    (cond (a == 37) (Some symbol.Percent)
    (cond (a == 61) (Some symbol.Equal)
    (cond (a == 60) (Some symbol.Less)
    (cond (a == 62) (Some symbol.Greater)
    (cond (a == 124) (Some symbol.BitOr)
    (cond (a == 38) (Some symbol.BitAnd)
    (cond (a == 126) (Some symbol.BitNot)
    None)))))))))))))))

unfoldable pub two_byte_symbol : ℕ → ℕ → Option Symbol
two_byte_symbol a b =
    cond (a == 61 && b == 61) (Some symbol.DoubleEqual)
    (cond ((a == 60 && b == 62) || (a == 33 && b == 61)) (Some symbol.NotEqual)
    (cond (a == 60 && b == 61) (Some symbol.AtMost)
    (cond (a == 62 && b == 61) (Some symbol.AtLeast)
    (cond (a == 124 && b == 124) (Some symbol.Concatenation)
    (cond (a == 60 && b == 60) (Some symbol.ShiftLeft)
    (cond (a == 62 && b == 62) (Some symbol.ShiftRight)
    (cond (a == 45 && b == 62) (Some symbol.Arrow)
    None)))))))

unfoldable pub symbol_of : List ℕ → Option Symbol
symbol_of (a ∷ []) = one_byte_symbol a
symbol_of (a ∷ b ∷ []) = two_byte_symbol a b
symbol_of (a ∷ b ∷ c ∷ []) =
    cond (a == 45 && (b == 62 && c == 62)) (Some symbol.LongArrow) None
symbol_of _ = None
