-- Expressions that hold no other: constants, parameters, names.
use Rattle.std.specs.Prelude.{ℕ, ℤ, pos, neg_ℤ, ◌^◌, Bool, true, false, cond, nat_lt, nat_le}
use Rattle.std.specs.Prelude.{Option, None, Some, List, [], ◌∷◌}
use Rattle.sql_tree.specs.Trees.{Tree}
use Rattle.sql_tree.specs.Trees as tree
use Rattle.sql_meaning.specs.Values as value
use Rattle.sql_read.specs.declared.lexeme.Mark.TheVariants as mark
use Rattle.sql_read.specs.Lexemes as lexeme
use Rattle.sql_read.specs.Reading.{◌>>=◌, branch, Reader, after, name_at}

-- the number behind `-`, or without it, where 64 bits hold it
abbrev pub signed : Bool → ℕ → Option ℤ
signed false n = cond (nat_lt n (2 ^ 63)) (Some (pos n)) None
signed true n = cond (nat_le n (2 ^ 63)) (Some (neg_ℤ (pos n))) None

-- a number without its sign
unfoldable pub number_at : Bool → Reader Tree
number_at negative [] = None
number_at negative (lexeme.Int n ∷ rest) = signed negative n >>= λ z.
    Some (tree.Lit (value.Int z), rest)
number_at negative (lexeme.Dec units ∷ rest) = signed negative units >>= λ z.
    Some (tree.Lit (value.Dec z), rest)
number_at negative (lexeme.Fixed m ∷ rest) = None
number_at negative (lexeme.Name bytes direction ∷ rest) = None
number_at negative (lexeme.Text bytes ∷ rest) = None
number_at negative (lexeme.Blob bytes ∷ rest) = None
number_at negative (lexeme.Param number ∷ rest) = None
number_at negative (lexeme.Other ∷ rest) = None

-- what follows a name: a point and a column, or nothing more of this expression
unfoldable pub named_at : List ℕ → Reader Tree
named_at name ts =
    branch (after mark.Dot ts)
    (Some (tree.Name None name, ts))
    (λ r. name_at r >>= λ column. Some (tree.Name (Some name) column.0, column.1))

-- what begins with no mark
unfoldable pub leaf_at : Reader Tree
leaf_at [] = None
leaf_at (lexeme.Fixed m ∷ rest) = None
leaf_at (lexeme.Name bytes direction ∷ rest) = named_at bytes rest
leaf_at (lexeme.Text bytes ∷ rest) = Some (tree.Lit (value.Text bytes), rest)
leaf_at (lexeme.Blob bytes ∷ rest) = Some (tree.Lit (value.Blob bytes), rest)
leaf_at (lexeme.Int n ∷ rest) = number_at false (lexeme.Int n ∷ rest)
leaf_at (lexeme.Dec units ∷ rest) = number_at false (lexeme.Dec units ∷ rest)
leaf_at (lexeme.Param number ∷ rest) = Some (tree.Param number, rest)
leaf_at (lexeme.Other ∷ rest) = None

-- what may follow a primary expression: COLLATE and a name
unfoldable pub collated_at : Tree → Reader Tree
collated_at x ts =
    branch (after mark.Collate ts) (Some (x, ts))
    (λ r. name_at r >>= λ c. Some (tree.Collate x c.0, c.1))
