-- What a path costs to run, and how many entries it looks at (queryplanner-ng); all numbers are
-- logarithms.
use Rattle.std.specs.Prelude.{ℕ, ◌+◌, ◌-◌, ◌*◌, Bool, false, cond, min, Option, Some, None, List}
use Rattle.std.specs.Prelude.{[], ◌∷◌, length}
use Rattle.list_laws.specs.Tally.{tally}
use Rattle.sql_meaning.specs.Paths.{EqPart, OneKey, ManyKeys, NullKey, Edge, Path, TableScan}
use Rattle.sql_meaning.specs.Paths.{RowidEq, RowidRange, IndexScan, IndexSeek, Union, Paths}
use Rattle.sql_meaning.specs.Paths.{Nowhere, Then}
use Rattle.plan_choice.specs.Logarithms.{log_est, log_add, seek_cost}
use Rattle.plan_choice.specs.Figures.{Figures, table_rows, index_rows}

-- the ways to a table's rows, by what an entry costs; a covering one never reads the table
pub data Shape : Type 0 where
  WholeTable : Shape
  CoveringScan : Shape
  PlainScan : Shape
  ByRowid : Shape
  CoveringSeek : Shape
  PlainSeek : Shape

-- by the rows of the table, the entries that are looked at, and the seeks that IN lists ask for
abbrev pub run_cost : Shape → ℕ → ℕ → ℕ → ℕ
run_cost WholeTable rows entries seeks = entries + 16
run_cost CoveringScan rows entries seeks = entries + 10
run_cost PlainScan rows entries seeks = entries + 26
run_cost ByRowid rows entries seeks = log_add (seek_cost rows + seeks) (entries + 10)
run_cost CoveringSeek rows entries seeks = log_add (seek_cost rows + seeks) (entries + 5)
run_cost PlainSeek rows entries seeks = log_add (seek_cost rows + seeks) (entries + 21)

-- what an offer costs to run, and how many rows it is thought to give
pub record Cost : Type 0 where
  pub run : ℕ
  pub rows : ℕ

-- what a path costs to run, and how many entries it looks at
pub record Size : Type 0 where
  pub run : ℕ
  pub entries : ℕ

-- each conjunct that is tested on the rows of a path leaves one less
abbrev pub thinned : Size → ℕ → Cost
thinned size tested = record { run = size.run; rows = size.entries - tested }

abbrev pub sized : Shape → ℕ → ℕ → ℕ → Size
sized shape rows entries seeks =
    record { run = run_cost shape rows entries seeks; entries = entries }

-- of a path that is no union: its shape, the rows of its table, its entries, its seeks, and how
-- many conjuncts are tested on its rows
abbrev pub cost_of : Shape → ℕ → ℕ → ℕ → ℕ → Cost
cost_of shape rows entries seeks tested = thinned (sized shape rows entries seeks) tested

abbrev pub part_seeks : EqPart → ℕ
part_seeks (OneKey key) = 0
part_seeks (ManyKeys keys) = log_est (length keys)
part_seeks NullKey = 0

-- how many seeks IN lists ask for: one for each combination of their keys
abbrev pub seeks_of : List EqPart → ℕ
seeks_of eqs = min 100000 (tally part_seeks eqs)

abbrev pub bound_count : Option Edge → ℕ
bound_count None = 0
bound_count (Some e) = 1

-- each bound leaves a quarter
abbrev pub within_bounds : Option Edge → Option Edge → ℕ → ℕ
within_bounds low high entries = entries - 20 * (bound_count low + bound_count high)

-- the entries of a seek by rowid
abbrev pub rowid_entries : ℕ → EqPart → ℕ
rowid_entries rows (OneKey key) = 0
rowid_entries rows (ManyKeys keys) = min rows (seeks_of (ManyKeys keys ∷ []))
rowid_entries rows NullKey = 0

-- a union runs each of its branches
abbrev pub join_sizes : Size → Size → Size
join_sizes a b =
    record { run = log_add a.run b.run; entries = log_add a.entries b.entries }

abbrev pub entries_at_most : ℕ → Size → Size
entries_at_most rows s = record { run = s.run; entries = min rows s.entries }

-- `covering` where the path needs only what its index holds; no branch of a union is covering
abbrev mutual
  pub size_of : Figures → ℕ → Bool → Path → Size
  size_of figures table covering TableScan =
      sized WholeTable (table_rows figures table) (table_rows figures table) 0
  size_of figures table covering (RowidEq part) =
      sized ByRowid (table_rows figures table) (rowid_entries (table_rows figures table) part)
      (seeks_of (part ∷ []))
  size_of figures table covering (RowidRange low high) =
      sized ByRowid (table_rows figures table) (within_bounds low high (table_rows figures table)) 0
  size_of figures table covering (IndexScan index) =
      sized (cond covering CoveringScan PlainScan) (table_rows figures table)
      (table_rows figures table) 0
  size_of figures table covering (IndexSeek index eqs low high) =
      sized (cond covering CoveringSeek PlainSeek) (table_rows figures table)
      (min (table_rows figures table)
      (within_bounds low high (index_rows figures index (length eqs) + seeks_of eqs)))
      (seeks_of eqs)
  size_of figures table covering (Union Nowhere) = record { run = 0; entries = 0 }
  size_of figures table covering (Union (Then path paths)) =
      entries_at_most (table_rows figures table)
      (sizes_from figures table (size_of figures table false path) paths)

  pub sizes_from : Figures → ℕ → Size → Paths → Size
  sizes_from figures table before Nowhere = before
  sizes_from figures table before (Then path paths) =
      sizes_from figures table (join_sizes before (size_of figures table false path)) paths
