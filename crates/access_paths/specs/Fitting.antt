-- Terms that fit a column of a seek, and what is taken before and behind a column.
use Rattle.std.specs.Prelude.{ℕ, Bool, ◌&&◌, Option, List, [], ◌∷◌, ◌++◌, map}
use Rattle.sql_meaning.specs.Values.{Collation}
use Rattle.sql_meaning.specs.Rows.{Site}
use Rattle.sql_meaning.specs.Orders.{same_collation}
use Rattle.sql_meaning.specs.OrderState.{column_site}
use Rattle.sql_meaning.specs.Schemas.{IndexColumn}
use Rattle.sql_meaning.specs.Terms.{Term}
use Rattle.sql_meaning.specs.UsedTerms.{is_usable}
use Rattle.sql_meaning.specs.Choices.{ColumnTerms, Taken, suits, terms_at, first_that, take_bounds}
use Rattle.sql_meaning.specs.Choices.{fits_column, nothing_taken, part_or}

abbrev pub fits_site : List ℕ → Site → Collation → Term → Bool
fits_site placed site collation t =
    is_usable placed t && suits site t.kind (same_collation t.collation collation)

-- the bounds of the first of these columns, where there is one
abbrev pub bounds_at : List ℕ → Option ℕ → List ColumnTerms → List IndexColumn → Taken
bounds_at placed alias columns [] = nothing_taken
bounds_at placed alias columns (c ∷ cs) =
    take_bounds
    (first_that (fits_column placed alias c) (terms_at (column_site alias c.column) columns).lows)
    (first_that (fits_column placed alias c) (terms_at (column_site alias c.column) columns).highs)

-- equality terms, and what is taken behind them
abbrev pub behind_equals : List Term → Taken → Taken
behind_equals ts rest = record {
  eqs = map (λ t. part_or t.kind) ts ++ rest.eqs;
  low = rest.low;
  high = rest.high;
  used = ts ++ rest.used;
}
