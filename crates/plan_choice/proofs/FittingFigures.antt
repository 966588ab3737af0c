-- Figures are made for their schema, and small.
use Rattle.std.specs.List.{AllByRecursion}
use Rattle.std.proofs.Common.{◌≡◌, ◌≤◌, ℕ, zero, suc, ◌+◌, ◌-◌, ◌^◌, Bool, true, false, cond, ◌==◌}
use Rattle.std.proofs.Common.{nat_lt, nat_le, List, [], ◌∷◌, Option, Some, None, refl, ap, ◌∙◌}
use Rattle.std.proofs.Common.{arith, length, map, slice_index_or}
use Rattle.std.proofs.lemmas.Bool.{lt-leb}
use Rattle.std.proofs.lemmas.List.{length-map}
use Rattle.list_laws.proofs.Lists.{all_always}
use Rattle.sql_meaning.specs.Rows.{Row}
use Rattle.sql_meaning.specs.Schemas.{Schema, Index, IndexColumn, Database}
use Rattle.sql_meaning.specs.Statements.{numbers_from}
use Rattle.sql_meaning.specs.Numbers.{digits_up_to}
use Rattle.plan_choice.specs.Logarithms.{log_est, log_from, exponent_from}
use Rattle.plan_choice.specs.Figures.{Figures, figures, table_figure, default_figure, defaults}
use Rattle.plan_choice.specs.Figures.{index_figures, figures_of_indexes, sampled, counts_of, counts}
use Rattle.plan_choice.specs.GivenFigures.{Names, Given, Counts, with_number}
use Rattle.plan_choice.specs.GivenFigures.{read_counts, or_before, last_counts, index_counts}
use Rattle.plan_choice.specs.GivenFigures.{is_of_index, words_of, given_of_index, given_of_indexes}
use Rattle.plan_choice.specs.GivenFigures.{figures_or, each_or, first_of_table, table_or}
use Rattle.plan_choice.specs.GivenFigures.{given_tables}
use Rattle.plan_choice.specs.GivenFigures.{table_counts}
use Rattle.plan_choice.specs.Advice.{Source, Sampled, AsGiven, figures_by, full_schema}
use Rattle.plan_choice.specs.FigureLaws.{AreOfIndexes, AreOfSchema, AreSmall, CountedFiguresFit}
use Rattle.plan_choice.specs.FigureLaws.{GivenFiguresFit, AdviceFiguresFit, LogarithmsAreSmall}
use Rattle.list_laws.proofs.Lists.{all_mapped}
use Rattle.plan_choice.proofs.CostBounds.{below_case, log_est_small, each_within, exponent_at_most}
use Rattle.plan_choice.proofs.CostBounds.{log_at_most}

in_list_or : (ns : List ℕ) (i k d : ℕ) → d ≤ k → AllByRecursion (λ n. n ≤ k) ns
    → slice_index_or ns i d ≤ k
in_list_or [] i k d l h = l
in_list_or (n ∷ ns) zero k d l h = h.0
in_list_or (n ∷ ns) (suc i) k d l h = in_list_or ns i k d l h.1

table_small : (rows : List Row) → table_figure rows ≤ 1000
table_small [] = omega arith
table_small (row ∷ rows) = let h = log_est_small (length (row ∷ rows)) in omega (arith, h)

all_tables : (percent start n : ℕ) (database : Database)
    → AllByRecursion (λ n. n ≤ 1000)
    (map (λ table. table_figure (sampled percent (slice_index_or database table [])))
    (numbers_from start n))
all_tables percent start zero database = tt
all_tables percent start (suc n) database = (
  table_small (sampled percent (slice_index_or database start [])),
  all_tables percent (start + 1) n database,
)

small_defaults : AllByRecursion (λ n. n ≤ 1000) defaults
small_defaults = each_within 1000 defaults refl

default_small : (unique : Bool) (columns k : ℕ) → default_figure unique columns k ≤ 1000
default_small true columns (suc k) =
    below_case (nat_lt (suc k) columns) _ 0 1000
    (in_list_or defaults (suc k) 1000 23 (omega arith) small_defaults) (omega arith)
default_small true columns zero = in_list_or defaults 0 1000 23 (omega arith) small_defaults
default_small false columns k = in_list_or defaults k 1000 23 (omega arith) small_defaults

logs_small : (ns : List ℕ) → AllByRecursion (λ n. n ≤ 1000) (map log_est ns)
logs_small [] = tt
logs_small (n ∷ ns) = (let h = log_est_small n in omega (arith, h), logs_small ns)

index_small : (unique : Bool) (columns : ℕ) (ns : List ℕ)
    → AllByRecursion (λ n. n ≤ 1000) (index_figures unique columns ns)
index_small unique columns [] =
    all_mapped (λ n. n ≤ 1000) (default_figure unique columns) (numbers_from 0 (suc columns))
    (all_always _ (numbers_from 0 (suc columns)) (λ k. default_small unique columns k))
index_small unique columns (n ∷ ns) = logs_small (n ∷ ns)

indexes_small : (unique : List Bool) (number : ℕ) (indexes : List Index) (counted : List (List ℕ))
    → AllByRecursion (λ ns. AllByRecursion (λ n. n ≤ 1000) ns)
    (figures_of_indexes unique number indexes counted)
indexes_small unique number [] counted = tt
indexes_small unique number (index ∷ indexes) [] = tt
indexes_small unique number (index ∷ indexes) (ns ∷ counted) = (
  index_small (slice_index_or unique number false) (length index.columns) ns,
  indexes_small unique (suc number) indexes counted,
)

figures_small : (schema : Schema) (unique : List Bool) (database : Database) (percent : ℕ)
    → AreSmall (figures schema unique database percent)
figures_small schema unique database percent = record {
  tables = all_tables percent 0 (length schema.tables) database;
  indexes = indexes_small unique 0 schema.indexes (map (counts_of percent database) schema.indexes);
}

-- so many numbers
numbers_count : {X : Type 0} (f : ℕ → X) (start n : ℕ) → length (map f (numbers_from start n)) ≡ n
numbers_count f start zero = refl
numbers_count f start (suc n) = ap suc (numbers_count f (start + 1) n)

figures_count : (unique : Bool) (columns : List IndexColumn) (rows : List Row)
    → length (index_figures unique (length columns) (counts columns rows)) ≡ suc (length columns)
figures_count unique columns [] =
    numbers_count (default_figure unique (length columns)) 0 (suc (length columns))
figures_count unique columns (row ∷ rows) =
    length-map (counts columns (row ∷ rows)) log_est
    ∙ numbers_count _ 0 (suc (length columns))

figures_of : (unique : List Bool) (number percent : ℕ) (database : Database) (indexes : List Index)
    → AreOfIndexes indexes
    (figures_of_indexes unique number indexes (map (counts_of percent database) indexes))
figures_of unique number percent database [] = tt
figures_of unique number percent database (index ∷ indexes) = (
  figures_count (slice_index_or unique number false) index.columns
      (sampled percent (slice_index_or database index.table [])),
  figures_of unique (suc number) percent database indexes,
)

pub counted_figures_fit : CountedFiguresFit
counted_figures_fit = λ schema unique database percent. (
  record {
    tables = numbers_count _ 0 (length schema.tables);
    indexes = figures_of unique 0 percent database schema.indexes;
  },
  figures_small schema unique database percent,
)

-- of given figures
abbrev IsCount : ℕ → Option Counts → Type 0
IsCount n None = Unit {0}
IsCount n (Some counts) = length counts.numbers ≡ n

number_case : (n : ℕ) (o : Option ℕ) (counts : Option Counts) → IsCount n counts
    → IsCount (suc n) (with_number o counts)
number_case n None counts h = tt
number_case n (Some k) None h = tt
number_case n (Some k) (Some counts) h = ap suc h

read_is : (n : ℕ) (words : List (List ℕ)) → IsCount n (read_counts n words)
read_is zero words = refl
read_is (suc n) [] = tt
read_is (suc n) (word ∷ words) =
    number_case n (digits_up_to (2 ^ 63 - 1) word) (read_counts n words) (read_is n words)

before_is : (n : ℕ) (o before : Option Counts) → IsCount n o → IsCount n before
    → IsCount n (or_before o before)
before_is n None before h k = k
before_is n (Some counts) before h k = h

last_is : (n : ℕ) (read : Given → Option Counts) → ((row : Given) → IsCount n (read row))
    → (before : Option Counts) → IsCount n before → (rows : List Given)
    → IsCount n (last_counts read before rows)
last_is n read f before h [] = h
last_is n read f before h (row ∷ rows) =
    last_is n read f (or_before (read row) before)
    (before_is n (read row) before (f row) h) rows

or_none : (n : ℕ) (b : Bool) (o : Option Counts) → IsCount n o → IsCount n (cond b o None)
or_none n true o h = h
or_none n false o h = tt

no_count : (n : ℕ) (b : Bool) (o : Option Counts) → IsCount n o → IsCount n (cond b None o)
no_count n true o h = tt
no_count n false o h = h

index_is : (names : Names) (index : Index) (name : List ℕ) (row : Given)
    → IsCount (suc (length index.columns)) (index_counts names index name row)
index_is names index name row =
    or_none (suc (length index.columns))
    (is_of_index (slice_index_or names.tables index.table []) name row row.index) _
    (read_is (suc (length index.columns)) (words_of row.stat))

given_is : (names : Names) (rows : List Given) (index : Index) (name : List ℕ)
    → IsCount (suc (length index.columns)) (given_of_index names rows index name)
given_is names rows index name =
    no_count (suc (length index.columns)) (length index.columns == 0) _
    (last_is (suc (length index.columns)) (index_counts names index name)
    (index_is names index name) None tt rows)

or_count : (n : ℕ) (ns : List ℕ) (o : Option Counts) → length ns ≡ n → IsCount n o
    → length (figures_or ns o) ≡ n
or_count n ns None h k = h
or_count n ns (Some counts) h k = length-map counts.numbers log_est ∙ k

given_of : (names : Names) (rows : List Given) (indexes : List Index) (own : List (List ℕ))
    (ns : List (List ℕ))
    → AreOfIndexes indexes ns
    → AreOfIndexes indexes (each_or figures_or ns (given_of_indexes names rows indexes own))
given_of names rows [] own [] h = tt
given_of names rows [] own (n ∷ ns) h = absurd h
given_of names rows (index ∷ indexes) own [] h = absurd h
given_of names rows (index ∷ indexes) [] (n ∷ ns) h =
    (h.0, given_of names rows indexes [] ns h.1)
given_of names rows (index ∷ indexes) (name ∷ own) (n ∷ ns) h = (
  or_count (suc (length index.columns)) n (given_of_index names rows index name) h.0
      (given_is names rows index name),
  given_of names rows indexes own ns h.1,
)

pub tables_count : (names : Names) (rows : List Given) (indexes : List Index)
    (given : List (Option Counts)) (table : ℕ) (ns : List ℕ)
    → length (given_tables names rows indexes given table ns) ≡ length ns
tables_count names rows indexes given table [] = refl
tables_count names rows indexes given table (n ∷ ns) =
    ap suc (tables_count names rows indexes given (suc table) ns)

log_small : (x : ℕ) → log_est x ≤ 1000
log_small x = let h = log_est_small x in omega (arith, h)

or_small : (ns : List ℕ) (o : Option Counts) → AllByRecursion (λ n. n ≤ 1000) ns
    → AllByRecursion (λ n. n ≤ 1000) (figures_or ns o)
or_small ns None h = h
or_small ns (Some counts) h = logs_small counts.numbers

each_small : (nss : List (List ℕ)) (given : List (Option Counts))
    → AllByRecursion (λ ns. AllByRecursion (λ n. n ≤ 1000) ns) nss
    → AllByRecursion (λ ns. AllByRecursion (λ n. n ≤ 1000) ns) (each_or figures_or nss given)
each_small [] given h = tt
each_small (ns ∷ nss) [] h = (h.0, each_small nss [] h.1)
each_small (ns ∷ nss) (o ∷ given) h = (or_small ns o h.0, each_small nss given h.1)

first_small : (table : ℕ) (indexes : List Index) (given : List (Option Counts)) (n : ℕ) → n ≤ 1000
    → first_of_table table indexes given n ≤ 1000
first_small table [] given n h = h
first_small table (index ∷ indexes) [] n h = h
first_small table (index ∷ indexes) (None ∷ given) n h = first_small table indexes given n h
first_small table (index ∷ indexes) (Some counts ∷ given) n h =
    below_case (index.table == table) (log_est (slice_index_or counts.numbers 0 0))
    (first_of_table table indexes given n) 1000 (log_small (slice_index_or counts.numbers 0 0))
    (first_small table indexes given n h)

table_or_small : (o : Option Counts) (n : ℕ) → n ≤ 1000 → table_or o n ≤ 1000
table_or_small None n h = h
table_or_small (Some counts) n h = log_small (slice_index_or counts.numbers 0 0)

tables_small : (names : Names) (rows : List Given) (indexes : List Index)
    (given : List (Option Counts)) (table : ℕ) (ns : List ℕ)
    → AllByRecursion (λ n. n ≤ 1000) ns
    → AllByRecursion (λ n. n ≤ 1000) (given_tables names rows indexes given table ns)
tables_small names rows indexes given table [] h = tt
tables_small names rows indexes given table (n ∷ ns) h = (
  table_or_small (last_counts (table_counts names table) None rows)
      (first_of_table table indexes given n) (first_small table indexes given n h.0),
  tables_small names rows indexes given (suc table) ns h.1,
)

pub given_figures_fit : GivenFiguresFit
given_figures_fit = λ schema names rows counted f h.
    let given = given_of_indexes names rows schema.indexes names.indexes in (
      record {
        tables = tables_count names rows schema.indexes given 0 counted.tables ∙ f.tables;
        indexes = given_of names rows schema.indexes names.indexes counted.indexes f.indexes;
      },
      record {
        tables = tables_small names rows schema.indexes given 0 counted.tables h.tables;
        indexes = each_small counted.indexes given h.indexes;
      },
    )

by_source : (schema : Schema) (source : Source) (counted : Figures) → AreOfSchema schema counted
    → AreSmall counted
    → AreOfSchema schema (figures_by source counted schema.indexes)
    × AreSmall (figures_by source counted schema.indexes)
by_source schema Sampled counted f h = (f, h)
by_source schema (AsGiven names rows) counted f h = given_figures_fit schema names rows counted f h

pub advice_figures_fit : AdviceFiguresFit
advice_figures_fit = λ r.
    let fits = counted_figures_fit (full_schema r) r.unique r.database r.percent in
    by_source (full_schema r) r.source (figures (full_schema r) r.unique r.database r.percent)
    fits.0 fits.1

-- the exponent of a number of 63 bits is at most 62
top_case : (x below : ℕ) (b : Bool) → b ≡ false → below ≤ 62 → cond b 63 below ≤ 62
top_case x below true e h = absurd (cc)
top_case x below false e h = h

pub logarithms_are_small : LogarithmsAreSmall
logarithms_are_small = λ x l.
    below_case (nat_lt x 2) 0 (log_from x (exponent_from 63 x)) 629 (omega arith)
    (log_at_most 62 x (exponent_from 63 x)
    (top_case x (exponent_from 62 x) (nat_le (2 ^ 63) x) (lt-leb (2 ^ 63) x l)
    (exponent_at_most 62 x)))
