-- Counts that rows of sqlite_stat1 give, as plain data.
use Rattle.std.specs.Prelude.{ℕ, ◌<◌, ◌==◌, Bool, false, cond, List, Option, None, Some, length}
use Rattle.std.specs.Prelude.{map}
use Rattle.std.specs.Prelude.{option_map, slice_get, [], ◌∷◌, ◌-◌, ◌^◌}
use Rattle.sql_meaning.specs.Numbers.{digits_up_to}
use Rattle.plan_choice.specs.GivenFigures.{Counts, Names, index_counts}
use Rattle.sql_meaning.specs.Schemas.{Index}
use Rattle.schema_model.specs.Schemas.{Schema}
use Rattle.schema_model.specs.PlainSchemas.{plain_schema}
use Rattle.schema_model.specs.declared.given.Given.{Given}
use Rattle.stat_figures.specs.Words.{lent_words}
use Rattle.stat_figures.specs.Requests.{plain_given, names_of}
use Rattle.stat_figures.specs.declared.given_counts.GivenCounts.{GivenCounts}

abbrev pub plain_counts : GivenCounts → Counts
plain_counts c = record { numbers = c.numbers; rest = lent_words c.rest.items }

abbrev pub number_before : Option ℕ → Option (List ℕ) → Option (List ℕ)
number_before None numbers = None
number_before (Some n) None = None
number_before (Some n) (Some ns) = Some (n ∷ ns)

-- the numbers that words are, where each is one below 2 ^ 63
abbrev pub numbers_of : List (List ℕ) → Option (List ℕ)
numbers_of [] = Some []
numbers_of (word ∷ words) = number_before (digits_up_to (2 ^ 63 - 1) word) (numbers_of words)

-- what is given of each index so far
abbrev pub plain_slots : List (Option GivenCounts) → List (Option Counts)
plain_slots slots = map (option_map plain_counts) slots

-- what a row says of an index that has a name
abbrev pub said_of : Names → Given → Option Index → Option (List ℕ) → Option Counts
said_of names row None name = None
said_of names row (Some index) None = None
said_of names row (Some index) (Some name) =
    cond (length index.columns == 0) None (index_counts names index name (plain_given row))

-- what a row says of the index of a number
abbrev pub said_at : Schema → ℕ → Given → ℕ → Option Counts
said_at schema own row k =
    let names = names_of schema own in
    said_of names row (slice_get (plain_schema schema).indexes k) (slice_get names.indexes k)

abbrev pub is_number : ℕ → Option ℕ → Bool
is_number k None = false
is_number k (Some number) = number == k

-- nothing, or numbers, of which there is one at least
abbrev pub HasNumbers : Option Counts → Type 0
HasNumbers None = Unit {0}
HasNumbers (Some counts) = 0 < length counts.numbers
