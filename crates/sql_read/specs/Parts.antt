-- The parts of a statement around its expressions, each over a reader of expressions.
use Rattle.std.specs.Prelude.{ℕ, Bool, true, false, Option, None, Some, List, [], ◌∷◌}
use Rattle.std.specs.Prelude.{if◌then◌else◌}
use Rattle.sql_tree.specs.Trees.{Tree}
use Rattle.sql_tree.specs.Statements.{SourceTree, ItemTree, KeyTree, SetTree}
use Rattle.sql_tree.specs.Statements as statement
use Rattle.sql_read.specs.declared.lexeme.Mark.{Mark}
use Rattle.sql_read.specs.declared.lexeme.Mark.TheVariants as mark
use Rattle.sql_read.specs.declared.lexeme.Direction.TheVariants as direction
use Rattle.sql_read.specs.Lexemes.{Lexeme}
use Rattle.sql_read.specs.Lexemes as lexeme
use Rattle.sql_read.specs.Reading.{◌>>=◌, branch, Reader, after, past, name_at, list_at}

-- what stands behind a mark, or nothing where the mark doesn't stand
unfoldable pub optional_at : {A : Type 0} → Mark → Reader A → Reader (Option A)
optional_at m p ts = branch (after m ts) (Some (None, ts)) (λ r. p r >>= λ x. Some (Some x.0, x.1))

-- what something may be called: a name, and where texts is true also a text
unfoldable pub label_at : Bool → Reader (List ℕ)
label_at texts [] = None
label_at texts (lexeme.Name bytes direction ∷ rest) = Some (bytes, rest)
label_at texts (lexeme.Text bytes ∷ rest) = if texts then Some (bytes, rest) else None
label_at texts (lexeme.Fixed m ∷ rest) = None
label_at texts (lexeme.Blob bytes ∷ rest) = None
label_at texts (lexeme.Int n ∷ rest) = None
label_at texts (lexeme.Dec units ∷ rest) = None
label_at texts (lexeme.Param number ∷ rest) = None
label_at texts (lexeme.Other ∷ rest) = None

-- an alias, behind AS or alone, if one stands here
unfoldable pub alias_at : Bool → Reader (Option (List ℕ))
alias_at texts ts =
    branch (after mark.As ts)
    (branch (label_at texts ts) (Some (None, ts)) (λ a. Some (Some a.0, a.1)))
    (λ r. label_at texts r >>= λ a. Some (Some a.0, a.1))

-- a name and `.*`
unfoldable pub table_star_at : Reader (List ℕ)
table_star_at ts =
    name_at ts >>= λ table. branch (after mark.Dot table.1) None
    (λ r. branch (after mark.Star r) None (λ q.
    Some (table.0, q)))

unfoldable pub value_result_at : Reader Tree → Reader ItemTree
value_result_at e ts = e ts >>= λ x. alias_at true x.1 >>= λ a. Some (statement.Value x.0 a.0, a.1)

unfoldable pub result_at : Reader Tree → Reader ItemTree
result_at e ts =
    branch (after mark.Star ts)
    (branch (table_star_at ts) (value_result_at e ts)
    (λ table. Some (statement.TableStar table.0, table.1)))
    (λ r. Some (statement.Star, r))

-- a source that nothing joins and that has no condition
abbrev pub source_named : List ℕ → Option (List ℕ) → SourceTree
source_named table alias =
    record { table = table; alias = alias; cross = false; left = false; on = None }

-- the source behind CROSS JOIN
abbrev pub cross_joined : SourceTree → SourceTree
cross_joined s = record s { cross = true }

-- the source behind LEFT JOIN
abbrev pub left_joined : SourceTree → SourceTree
left_joined s = record s { left = true }

-- the source with its ON condition
abbrev pub on_condition : SourceTree → Option Tree → SourceTree
on_condition s on = record s { on = on }

unfoldable pub source_at : Reader SourceTree
source_at ts =
    name_at ts >>= λ table. alias_at false table.1 >>= λ alias.
    Some (source_named table.0 alias.0, alias.1)

-- a source with its ON condition, behind JOIN
unfoldable pub joined_source_at : Reader Tree → Reader SourceTree
joined_source_at e ts =
    branch (after mark.Join ts) None (λ r. source_at r >>= λ s.
    optional_at mark.On e s.1 >>= λ on. Some (on_condition s.0 on.0, on.1))

-- a further source: behind a comma, CROSS JOIN, LEFT JOIN, LEFT OUTER JOIN, INNER JOIN or JOIN
unfoldable pub join_at : Reader Tree → Reader SourceTree
join_at e ts =
    branch (after mark.Comma ts)
    (branch (after mark.Cross ts)
    (branch (after mark.Left ts)
    (joined_source_at e (past mark.Inner ts))
    (λ r. joined_source_at e (past mark.Outer r) >>= λ s. Some (left_joined s.0, s.1)))
    (λ r. joined_source_at e r >>= λ s. Some (cross_joined s.0, s.1)))
    (λ r. source_at r)

-- the lexemes, where a further source begins with them
unfoldable pub join_begins : List Lexeme → Option (List Lexeme)
join_begins ts =
    branch (after mark.Comma ts)
    (branch (after mark.Cross ts)
    (branch (after mark.Left ts)
    (branch (after mark.Inner ts) (branch (after mark.Join ts) None (λ r. Some ts)) (λ r. Some ts))
    (λ r. Some ts))
    (λ r. Some ts))
    (λ r. Some ts)

-- whether DESC stands here; ASC and DESC are taken
unfoldable pub direction_at : Reader Bool
direction_at [] = Some (false, [])
direction_at (lexeme.Name bytes None ∷ rest) = Some (false, lexeme.Name bytes None ∷ rest)
direction_at (lexeme.Name bytes (Some direction.Asc) ∷ rest) = Some (false, rest)
direction_at (lexeme.Name bytes (Some direction.Desc) ∷ rest) = Some (true, rest)
direction_at (lexeme.Fixed m ∷ rest) = Some (false, lexeme.Fixed m ∷ rest)
direction_at (lexeme.Text bytes ∷ rest) = Some (false, lexeme.Text bytes ∷ rest)
direction_at (lexeme.Blob bytes ∷ rest) = Some (false, lexeme.Blob bytes ∷ rest)
direction_at (lexeme.Int n ∷ rest) = Some (false, lexeme.Int n ∷ rest)
direction_at (lexeme.Dec units ∷ rest) = Some (false, lexeme.Dec units ∷ rest)
direction_at (lexeme.Param number ∷ rest) = Some (false, lexeme.Param number ∷ rest)
direction_at (lexeme.Other ∷ rest) = Some (false, lexeme.Other ∷ rest)

abbrev pub key_by : Tree → Bool → KeyTree
key_by x desc = record { expr = x; desc = desc }

unfoldable pub key_at : Reader Tree → Reader KeyTree
key_at e ts = e ts >>= λ x. direction_at x.1 >>= λ desc. Some (key_by x.0 desc.0, desc.1)

-- the keys of ORDER BY, if it stands here
unfoldable pub keys_at : Reader Tree → Reader (List KeyTree)
keys_at e ts =
    branch (after mark.Order ts) (Some ([], ts)) (λ r. branch (after mark.By r) None (λ q.
    list_at (key_at e) (after mark.Comma) (key_at e) q))

abbrev pub set_to : List ℕ → Tree → SetTree
set_to column x = record { column = column; value = x }

-- a column and its new value
unfoldable pub set_at : Reader Tree → Reader SetTree
set_at e ts =
    name_at ts >>= λ column. branch (after mark.Eq column.1) None
    (λ r. e r >>= λ x. Some (set_to column.0 x.0, x.1))
