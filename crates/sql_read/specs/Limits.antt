-- LIMIT and OFFSET.
use Rattle.std.specs.Prelude.{ℕ, Bool, true, false, Option, None, Some, [], ◌∷◌}
use Rattle.sql_tree.specs.declared.statement.Cut.{Cut}
use Rattle.sql_tree.specs.declared.statement.Cut.TheVariants as cut
use Rattle.sql_read.specs.declared.lexeme.Mark.TheVariants as mark
use Rattle.sql_read.specs.Lexemes as lexeme
use Rattle.sql_read.specs.Reading.{◌>>=◌, branch, Reader, after}
use Rattle.sql_read.specs.Leaves.{signed}

-- a number of rows, without its sign
unfoldable pub count_at : Bool → Reader Cut
count_at negative [] = None
count_at negative (lexeme.Int n ∷ rest) = signed negative n >>= λ z. Some (cut.Count z, rest)
count_at negative (lexeme.Fixed m ∷ rest) = None
count_at negative (lexeme.Name bytes direction ∷ rest) = None
count_at negative (lexeme.Text bytes ∷ rest) = None
count_at negative (lexeme.Blob bytes ∷ rest) = None
count_at negative (lexeme.Dec units ∷ rest) = None
count_at negative (lexeme.Param number ∷ rest) = None
count_at negative (lexeme.Other ∷ rest) = None

-- a parameter
unfoldable pub param_at : Reader ℕ
param_at [] = None
param_at (lexeme.Param number ∷ rest) = Some (number, rest)
param_at (lexeme.Fixed m ∷ rest) = None
param_at (lexeme.Name bytes direction ∷ rest) = None
param_at (lexeme.Text bytes ∷ rest) = None
param_at (lexeme.Blob bytes ∷ rest) = None
param_at (lexeme.Int n ∷ rest) = None
param_at (lexeme.Dec units ∷ rest) = None
param_at (lexeme.Other ∷ rest) = None

unfoldable pub cut_at : Reader Cut
cut_at ts =
    branch (after mark.Minus ts)
    (branch (param_at ts) (count_at false ts) (λ p. Some (cut.Param p.0, p.1)))
    (λ r. count_at true r)

-- the limit and the offset
abbrev pub Cuts : Type 0
Cuts = Option Cut × Option Cut

-- what follows the first number behind LIMIT: in `LIMIT x, y` that is the offset
unfoldable pub second_cut_at : Cut → Reader Cuts
second_cut_at first ts =
    branch (after mark.Offset ts)
    (branch (after mark.Comma ts)
    (Some ((Some first, None), ts))
    (λ r. cut_at r >>= λ second. Some ((Some second.0, Some first), second.1)))
    (λ r. cut_at r >>= λ second. Some ((Some first, Some second.0), second.1))

unfoldable pub limits_at : Reader Cuts
limits_at ts =
    branch (after mark.Limit ts) (Some ((None, None), ts))
    (λ r. cut_at r >>= λ first. second_cut_at first.0 first.1)
