-- The words and symbols of a run that stand outside of parentheses.
use Rattle.std.specs.Prelude.{ℕ, zero, suc, Bool, true, false, List, [], ◌∷◌, ◌++◌}
use Rattle.sql_read.specs.declared.lexeme.Mark.{Mark}
use Rattle.sql_read.specs.declared.lexeme.Mark.TheVariants as mark
use Rattle.sql_read.specs.Lexemes.{Lexeme}
use Rattle.sql_read.specs.Lexemes as lexeme

-- how many parentheses are open behind a mark
abbrev pub depth_behind : Mark → ℕ → ℕ
depth_behind mark.Open depth = suc depth
depth_behind mark.Close zero = zero
depth_behind mark.Close (suc depth) = depth
depth_behind _ depth = depth

-- the mark, where no parenthesis is open and it is none itself
abbrev pub mark_outside : Mark → ℕ → List Mark
mark_outside mark.Open depth = []
mark_outside mark.Close depth = []
mark_outside m zero = m ∷ []
mark_outside m (suc depth) = []

abbrev pub outside_from : ℕ → List Lexeme → List Mark
outside_from depth [] = []
outside_from depth (lexeme.Fixed m ∷ ts) =
    mark_outside m depth ++ outside_from (depth_behind m depth) ts
outside_from depth (lexeme.Name bytes direction ∷ ts) = outside_from depth ts
outside_from depth (lexeme.Text bytes ∷ ts) = outside_from depth ts
outside_from depth (lexeme.Blob bytes ∷ ts) = outside_from depth ts
outside_from depth (lexeme.Int n ∷ ts) = outside_from depth ts
outside_from depth (lexeme.Dec units ∷ ts) = outside_from depth ts
outside_from depth (lexeme.Param number ∷ ts) = outside_from depth ts
outside_from depth (lexeme.Other ∷ ts) = outside_from depth ts

-- the marks outside of parentheses, in order
unfoldable pub outside : List Lexeme → List Mark
outside run = outside_from 0 run

abbrev pub is_or : Mark → Bool
is_or mark.Or = true
is_or _ = false

-- BETWEEN or AND
abbrev pub is_between_or_and : Mark → Bool
is_between_or_and mark.Between = true
is_between_or_and mark.And = true
is_between_or_and _ = false

-- a comparison, or a word of a test or of a level above it
abbrev pub is_above_operand : Mark → Bool
is_above_operand mark.Eq = true
is_above_operand mark.EqEq = true
is_above_operand mark.Ne = true
is_above_operand mark.Lt = true
is_above_operand mark.Le = true
is_above_operand mark.Gt = true
is_above_operand mark.Ge = true
is_above_operand mark.And = true
is_above_operand mark.Or = true
is_above_operand mark.Not = true
is_above_operand mark.Between = true
is_above_operand mark.In = true
is_above_operand mark.Like = true
is_above_operand mark.Is = true
is_above_operand mark.Isnull = true
is_above_operand mark.Notnull = true
is_above_operand _ = false
