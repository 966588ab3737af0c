-- Figures that the dump gives in its table sqlite_stat1, in place of counted ones (lang_analyze).
use Rattle.std.specs.Prelude.{ℕ, zero, suc, ◌-◌, ◌^◌, Bool, false, ◌&&◌, ◌==◌, cond, List, []}
use Rattle.std.specs.Prelude.{◌∷◌, map, length, slice_index_or, Option, Some, None, codes}
use Rattle.std.specs.Ordering.{nat_cmp, eq_by_cmp}
use Rattle.std.specs.Cmp.Lexicographic.{slice_cmp}
use Rattle.list_laws.specs.FirstComing.{has}
use Rattle.sql_meaning.specs.Letters.{folded_bytes}
use Rattle.sql_meaning.specs.Numbers.{digits_up_to}
use Rattle.sql_meaning.specs.Schemas.{Index}
use Rattle.plan_choice.specs.Logarithms.{log_est}
use Rattle.plan_choice.specs.Figures.{Figures}

-- a row of sqlite_stat1: of an index, or of a table where no index is named
pub record Given : Type 0 where
  pub table : List ℕ
  pub index : Option (List ℕ)
  pub stat : List ℕ

-- the names of a schema's tables and of its indexes, by number
pub record Names : Type 0 where
  pub tables : List (List ℕ)
  pub indexes : List (List ℕ)

-- two names with letters folded
abbrev pub same_name : List ℕ → List ℕ → Bool
same_name a b = eq_by_cmp (slice_cmp nat_cmp) (folded_bytes a) (folded_bytes b)

-- the byte begins the first word, or a space ends an empty one
abbrev pub before_words : ℕ → List (List ℕ) → List (List ℕ)
before_words byte [] = (byte ∷ []) ∷ []
before_words byte (word ∷ words) = cond (byte == 32) ([] ∷ word ∷ words) ((byte ∷ word) ∷ words)

-- a text cut at each space
abbrev pub words_of : List ℕ → List (List ℕ)
words_of [] = [] ∷ []
words_of (byte ∷ bytes) = before_words byte (words_of bytes)

-- the whole numbers that a row's text begins with, and the words behind them
pub record Counts : Type 0 where
  pub numbers : List ℕ
  pub rest : List (List ℕ)

abbrev pub with_number : Option ℕ → Option Counts → Option Counts
with_number None counts = None
with_number (Some n) None = None
with_number (Some n) (Some counts) =
    Some (record { numbers = n ∷ counts.numbers; rest = counts.rest })

-- so many whole numbers below 2 ^ 63, each a word
abbrev pub read_counts : ℕ → List (List ℕ) → Option Counts
read_counts zero words = Some (record { numbers = []; rest = words })
read_counts (suc n) [] = None
read_counts (suc n) (word ∷ words) =
    with_number (digits_up_to (2 ^ 63 - 1) word) (read_counts n words)

abbrev pub or_before : Option Counts → Option Counts → Option Counts
or_before (Some counts) before = Some counts
or_before None before = before

-- the last row that counts
abbrev pub last_counts : (Given → Option Counts) → Option Counts → List Given → Option Counts
last_counts read before [] = before
last_counts read before (row ∷ rows) = last_counts read (or_before (read row) before) rows

abbrev pub is_of_index : List ℕ → List ℕ → Given → Option (List ℕ) → Bool
is_of_index table index row None = false
is_of_index table index row (Some name) = same_name table row.table && same_name index name

abbrev pub is_of_table : List ℕ → Given → Option (List ℕ) → Bool
is_of_table table row None = same_name table row.table
is_of_table table row (Some name) = false

-- a row counts for an index where it names the index and its table, and has a number for no column
-- and one for each
abbrev pub index_counts : Names → Index → List ℕ → Given → Option Counts
index_counts names index name row =
    cond (is_of_index (slice_index_or names.tables index.table []) name row row.index)
    (read_counts (suc (length index.columns)) (words_of row.stat)) None

-- a row counts for a table where it names the table and no index, and has a number
abbrev pub table_counts : Names → ℕ → Given → Option Counts
table_counts names table row =
    cond (is_of_table (slice_index_or names.tables table []) row row.index)
    (read_counts 1 (words_of row.stat)) None

-- what is given of an index that has columns
abbrev pub given_of_index : Names → List Given → Index → List ℕ → Option Counts
given_of_index names rows index name =
    cond (length index.columns == 0) None (last_counts (index_counts names index name) None rows)

-- what is given of each of the schema's own indexes, which have names; nothing of the candidates
-- behind them
abbrev pub given_of_indexes : Names → List Given → List Index → List (List ℕ)
    → List (Option Counts)
given_of_indexes names rows [] own = []
given_of_indexes names rows (index ∷ indexes) [] =
    None ∷ given_of_indexes names rows indexes []
given_of_indexes names rows (index ∷ indexes) (name ∷ own) =
    given_of_index names rows index name ∷ given_of_indexes names rows indexes own

abbrev pub numbers_or : List ℕ → Option Counts → List ℕ
numbers_or numbers None = numbers
numbers_or numbers (Some counts) = counts.numbers

abbrev pub figures_or : List ℕ → Option Counts → List ℕ
figures_or figures None = figures
figures_or figures (Some counts) = map log_est counts.numbers

-- for each index what is given of it, else what was there
abbrev pub each_or : (List ℕ → Option Counts → List ℕ) → List (List ℕ) → List (Option Counts)
    → List (List ℕ)
each_or choose [] given = []
each_or choose (ns ∷ rest) [] = ns ∷ each_or choose rest []
each_or choose (ns ∷ rest) (g ∷ given) = choose ns g ∷ each_or choose rest given

abbrev pub unordered_word : List ℕ
unordered_word = codes "unordered"

abbrev pub has_word : List ℕ → List (List ℕ) → Bool
has_word word words = has (eq_by_cmp (slice_cmp nat_cmp)) words word

-- the row of the index has the word `unordered` behind its numbers
abbrev pub tells_unordered : Option Counts → Bool
tells_unordered None = false
tells_unordered (Some counts) = has_word unordered_word counts.rest

-- the rows that the first index of the table for which a row counts has
abbrev pub first_of_table : ℕ → List Index → List (Option Counts) → ℕ → ℕ
first_of_table table [] given default = default
first_of_table table (index ∷ indexes) [] default = default
first_of_table table (index ∷ indexes) (None ∷ given) default =
    first_of_table table indexes given default
first_of_table table (index ∷ indexes) (Some counts ∷ given) default =
    cond (index.table == table) (log_est (slice_index_or counts.numbers 0 0))
    (first_of_table table indexes given default)

abbrev pub table_or : Option Counts → ℕ → ℕ
table_or None rows = rows
table_or (Some counts) rows = log_est (slice_index_or counts.numbers 0 0)

-- what a row gives of the table; else what its first index gives; else what was counted
abbrev pub given_tables : Names → List Given → List Index → List (Option Counts) → ℕ → List ℕ
    → List ℕ
given_tables names rows indexes given table [] = []
given_tables names rows indexes given table (n ∷ ns) =
    table_or (last_counts (table_counts names table) None rows)
    (first_of_table table indexes given n)
    ∷ given_tables names rows indexes given (suc table) ns

-- figures with those that rows of sqlite_stat1 give in place of counted ones
abbrev pub given_figures : Names → List Given → List Index → Figures → Figures
given_figures names rows indexes counted =
    let given = given_of_indexes names rows indexes names.indexes
    in record {
      tables = given_tables names rows indexes given 0 counted.tables;
      indexes = each_or figures_or counted.indexes given;
      counted = each_or numbers_or counted.counted given;
      unordered = map tells_unordered given;
    }
