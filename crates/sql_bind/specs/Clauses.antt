-- The clauses of a statement, whichever it is: a clause that it doesn't have is empty.
use Rattle.std.specs.Prelude.{ℕ, Bool, true, false, Option, None, option_map, List, [], ◌∷◌, map}
use Rattle.sql_tree.specs.Trees.{Tree}
use Rattle.sql_tree.specs.Statements.{SourceTree, ItemTree, KeyTree, SetTree, StatementTree}
use Rattle.sql_tree.specs.Statements.{Select, Update, Delete}
use Rattle.sql_meaning.specs.Statements.{Cut}
use Rattle.sql_bound.specs.Statements.{cut_of}

-- FROM, or the one table that is changed
abbrev pub sources_of : StatementTree → List SourceTree
sources_of (Select s) = s.sources
sources_of (Update u) = u.source ∷ []
sources_of (Delete d) = d.source ∷ []

abbrev pub entries_of : StatementTree → List ItemTree
entries_of (Select s) = s.items
entries_of (Update u) = []
entries_of (Delete d) = []

abbrev pub sets_of : StatementTree → List SetTree
sets_of (Select s) = []
sets_of (Update u) = u.sets
sets_of (Delete d) = []

abbrev pub filter_of : StatementTree → Option Tree
filter_of (Select s) = s.filter
filter_of (Update u) = u.filter
filter_of (Delete d) = d.filter

abbrev pub order_keys_of : StatementTree → List KeyTree
order_keys_of (Select s) = s.keys
order_keys_of (Update u) = []
order_keys_of (Delete d) = []

abbrev pub limit_of : StatementTree → Option Cut
limit_of (Select s) = option_map cut_of s.limit
limit_of (Update u) = None
limit_of (Delete d) = None

abbrev pub offset_of : StatementTree → Option Cut
offset_of (Select s) = option_map cut_of s.offset
offset_of (Update u) = None
offset_of (Delete d) = None

-- whether it is an UPDATE or DELETE
abbrev pub changes_rows : StatementTree → Bool
changes_rows (Select s) = false
changes_rows (Update u) = true
changes_rows (Delete d) = true

-- of each source its alias, as it is written
abbrev pub aliases_statement : StatementTree → List (Option (List ℕ))
aliases_statement tree = map (λ s. s.alias) (sources_of tree)
