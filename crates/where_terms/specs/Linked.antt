-- The columns that pairs of columns join with a column, as the code makes their list.
use Rattle.std.specs.Prelude.{List, [], not}
use Rattle.std.specs.List.{filter}
use Rattle.std.specs.Ordering.{eq_by_cmp}
use Rattle.list_laws.specs.FirstComing.{keep_first}
use Rattle.list_laws.specs.Order.{sort_by}
use Rattle.sql_meaning.specs.Expressions.{ColumnRef}
use Rattle.sql_meaning.specs.TermLists.{Pair, visited, same_ref, ref_cmp}

-- without the column itself, by item and column, each once
abbrev pub linked_in : List Pair → ColumnRef → List ColumnRef
linked_in ps c =
    keep_first (eq_by_cmp ref_cmp) []
    (sort_by ref_cmp (filter (λ d. not (same_ref d c)) (visited c ps)))
