-- What the walk of an offered path has: rows of its table on which the terms that it uses hold.
use Rattle.std.specs.Prelude.{◌≡◌, ℕ, ◌<◌, true, List, ◌∷◌, length, Some, slice_get}
use Rattle.std.specs.List.{AllByRecursion, filter}
use Rattle.std.specs.List.Sorted.{IsPermutation}
use Rattle.list_laws.specs.Order.{Ascends}
use Rattle.list_laws.specs.FirstComing.{has}
use Rattle.list_laws.specs.Nest.{place, Agree}
use Rattle.sql_meaning.specs.Values.{Value}
use Rattle.sql_meaning.specs.Rows.{Assignment, Row}
use Rattle.sql_meaning.specs.Evaluation.{holds}
use Rattle.sql_meaning.specs.Schemas.{Schema, Database, IsDatabaseOf}
use Rattle.sql_meaning.specs.IndexLists.{SortColumn, entry_cmp, index_entries}
use Rattle.sql_meaning.specs.Paths.{walk, path_list, same_rowid}
use Rattle.sql_meaning.specs.Terms.{Term, terms_true}
use Rattle.sql_meaning.specs.Statements.{Bound, Conjunct, item_rows}
use Rattle.sql_meaning.specs.Plans.{Loop}
use Rattle.sql_meaning.specs.UsedTerms.{AllOf, AnyOf, IsOrTerm, any_terms}
use Rattle.sql_meaning.specs.Offers.{IsOffer}

-- an index's list has each row of its table once, in the order of its columns
abbrev pub IndexListsAreSorted : Type 0
IndexListsAreSorted =
    (columns : List SortColumn) (rows : List Row)
    → IsPermutation (index_entries columns rows) rows
    × Ascends (entry_cmp columns) (index_entries columns rows)

-- the walk of a path that is no union is the filter of the path's list by its terms, in the order
-- of that list; a scan uses no terms, so it has every row
abbrev pub WalksAreFilters : Type 0
WalksAreFilters =
    (schema : Schema) (bound : Bound) (placed : List ℕ) (loop : Loop) (ts : List Term)
    → IsOffer schema bound placed loop (AllOf ts)
    → (database : Database) → IsDatabaseOf schema database
    → (params : List Value) (env : Assignment)
    → walk schema params loop.path (item_rows database bound loop.item) env
    ≡ filter (terms_true env params ts)
    (path_list schema loop.path (item_rows database bound loop.item))

-- on each row of the walk each conjunct holds that the path consumes, whatever rows the items have
-- that aren't placed
abbrev pub ConsumedConjunctsHold : Type 0
ConsumedConjunctsHold =
    (schema : Schema) (bound : Bound) (placed : List ℕ) (loop : Loop) (ts : List Term)
    → IsOffer schema bound placed loop (AllOf ts)
    → (database : Database) → IsDatabaseOf schema database
    → (params : List Value) (env : Assignment) → loop.item < length env
    → AllByRecursion
    (λ number. (c : Conjunct) → slice_get bound.conjuncts number ≡ Some c
    → AllByRecursion (λ row. holds (place env loop.item (Some row)) params c.expr ≡ true)
    (walk schema params loop.path (item_rows database bound loop.item) env)) loop.consumed

-- the walk of a union has, each once, the rows on which the terms of some branch hold
abbrev pub UnionsHaveEachRowOnce : Type 0
UnionsHaveEachRowOnce =
    (schema : Schema) (bound : Bound) (placed : List ℕ) (loop : Loop) (tss : List (List Term))
    → IsOffer schema bound placed loop (AnyOf tss)
    → (database : Database) → IsDatabaseOf schema database
    → (params : List Value) (env : Assignment) → loop.item < length env
    → IsPermutation (walk schema params loop.path (item_rows database bound loop.item) env)
    (filter (λ row. any_terms (place env loop.item (Some row)) params loop.item tss)
    (item_rows database bound loop.item))

-- and it misses no row on which its OR holds for some rows of the items that aren't placed
abbrev pub UnionsMissNoRow : Type 0
UnionsMissNoRow =
    (schema : Schema) (bound : Bound) (placed : List ℕ) (loop : Loop) (tss : List (List Term))
    → IsOffer schema bound placed loop (AnyOf tss) → (o : IsOrTerm schema bound loop.item tss)
    → (database : Database) → IsDatabaseOf schema database
    → (params : List Value) (env choice : Assignment) (number : ℕ) (row : Row)
    → loop.item < length env
    → slice_get (item_rows database bound loop.item) number ≡ Some row
    → Agree (loop.item ∷ placed) (place env loop.item (Some row)) choice
    → holds choice params o.conjunct.expr ≡ true
    → has same_rowid (walk schema params loop.path (item_rows database bound loop.item) env) row
    ≡ true
