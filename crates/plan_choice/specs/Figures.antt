-- Figures: how many rows a table has, and how many of them agree in the first columns of an index.
-- They are counted over sampled rows, as ANALYZE counts them (lang_analyze); where there are none,
-- they are defaults.
use Rattle.std.specs.Prelude.{ℕ, suc, ◌+◌, ◌-◌, ◌*◌, ◌/◌, Bool, true, false, cond, nat_lt, List}
use Rattle.std.specs.Prelude.{[], ◌∷◌, ◌++◌, map, take, length, slice_index_or}
use Rattle.std.specs.Prelude.{codes}
use Rattle.std.specs.Fmt.{decimal}
use Rattle.std.specs.Ordering.{is_eq}
use Rattle.list_laws.specs.FirstComing.{keep_first}
use Rattle.sql_meaning.specs.Values.{value_cmp}
use Rattle.sql_meaning.specs.Rows.{Row, site_value, AtColumn}
use Rattle.sql_meaning.specs.Orders.{lex_of}
use Rattle.sql_meaning.specs.Schemas.{Schema, Index, IndexColumn, Database}
use Rattle.sql_meaning.specs.Statements.{numbers_from}
use Rattle.plan_choice.specs.Logarithms.{log_est}

-- by number of the table and of the index, as logarithms: the rows of a table; of an index, for k
-- from 0 on, the entries that agree in its first k columns. `counted` has the counts themselves,
-- and none where defaults stand; `unordered` says which indexes serve no range
pub record Figures : Type 0 where
  pub tables : List ℕ
  pub indexes : List (List ℕ)
  pub counted : List (List ℕ)
  pub unordered : List Bool

abbrev pub table_rows : Figures → ℕ → ℕ
table_rows figures table = slice_index_or figures.tables table 0

abbrev pub index_rows : Figures → ℕ → ℕ → ℕ
index_rows figures index columns =
    slice_index_or (slice_index_or figures.indexes index []) columns 0

abbrev pub is_unordered : Figures → ℕ → Bool
is_unordered figures index = slice_index_or figures.unordered index false

-- of rows that are numbered from k on, so many of each hundred, evenly
abbrev pub sampled_from : ℕ → ℕ → List Row → List Row
sampled_from percent k [] = []
sampled_from percent k (row ∷ rows) =
    cond (nat_lt (k * percent / 100) ((k + 1) * percent / 100))
    (row ∷ sampled_from percent (suc k) rows) (sampled_from percent (suc k) rows)

abbrev pub sampled : ℕ → List Row → List Row
sampled percent rows = sampled_from percent 0 rows

-- two rows agree in these columns of an index, under its collations; NULL agrees with NULL
abbrev pub agree : List IndexColumn → Row → Row → Bool
agree columns a b =
    is_eq
    (lex_of
    (λ c. value_cmp c.collation (site_value (AtColumn c.column) a)
    (site_value (AtColumn c.column) b)) columns)

abbrev pub distinct_count : List IndexColumn → List Row → ℕ
distinct_count columns rows = length (keep_first (agree columns) [] rows)

-- the quotient, upwards
abbrev pub quotient_up : ℕ → ℕ → ℕ
quotient_up m d = (m + d - 1) / d

-- for k from 0 on, how many rows stand for each that is distinct in the first k columns; for none,
-- all rows
abbrev pub counts : List IndexColumn → List Row → List ℕ
counts columns [] = []
counts columns (row ∷ rows) =
    map
    (λ k. quotient_up (length (row ∷ rows)) (distinct_count (take k columns) (row ∷ rows)))
    (numbers_from 0 (suc (length columns)))

-- the figures where nothing is known, for 0 to 5 columns; 23 for more
abbrev pub defaults : List ℕ
defaults = 200 ∷ 33 ∷ 32 ∷ 30 ∷ 28 ∷ 27 ∷ []

-- but one row has the whole key of a unique index
abbrev pub default_figure : Bool → ℕ → ℕ → ℕ
default_figure true columns (suc k) =
    cond (nat_lt (suc k) columns) (slice_index_or defaults (suc k) 23) 0
default_figure unique columns k = slice_index_or defaults k 23

abbrev pub default_figures : Bool → ℕ → List ℕ
default_figures unique columns =
    map (default_figure unique columns) (numbers_from 0 (suc columns))

abbrev pub table_figure : List Row → ℕ
table_figure [] = 200
table_figure (row ∷ rows) = log_est (length (row ∷ rows))

abbrev pub index_figures : Bool → ℕ → List ℕ → List ℕ
index_figures unique columns [] = default_figures unique columns
index_figures unique columns (n ∷ ns) = map log_est (n ∷ ns)

abbrev pub further_counts : List ℕ → List ℕ
further_counts [] = []
further_counts (n ∷ ns) = 32 ∷ (decimal n ++ further_counts ns)

-- counts as sqlite_stat1 writes them
abbrev pub stat_text : List ℕ → List ℕ
stat_text [] = codes "default"
stat_text (n ∷ ns) = decimal n ++ further_counts ns

abbrev pub counts_of : ℕ → Database → Index → List ℕ
counts_of percent database index =
    counts index.columns (sampled percent (slice_index_or database index.table []))

-- for each index the figures of its counts, or its defaults; `unique` says by number which indexes
-- are unique
abbrev pub figures_of_indexes : List Bool → ℕ → List Index → List (List ℕ) → List (List ℕ)
figures_of_indexes unique number [] counted = []
figures_of_indexes unique number (index ∷ indexes) [] = []
figures_of_indexes unique number (index ∷ indexes) (ns ∷ counted) =
    index_figures (slice_index_or unique number false) (length index.columns) ns
    ∷ figures_of_indexes unique (suc number) indexes counted

abbrev pub rows_of_tables : ℕ → ℕ → Database → List ℕ
rows_of_tables percent tables database =
    map (λ table. table_figure (sampled percent (slice_index_or database table [])))
    (numbers_from 0 tables)

-- figures of a schema's tables and indexes, counted over so many rows of each hundred
abbrev pub figures : Schema → List Bool → Database → ℕ → Figures
figures schema unique database percent =
    let counted = map (counts_of percent database) schema.indexes
    in record {
      tables = rows_of_tables percent (length schema.tables) database;
      indexes = figures_of_indexes unique 0 schema.indexes counted;
      counted = counted;
      unordered = [];
    }
