-- The columns that terms ask for, as the code lists them: of terms by the items that are marked.
use Rattle.std.specs.Prelude.{ℕ, ◌^◌, ◌==◌, ◌&&◌, Bool, not, cond, List, [], ◌++◌, nat_eq}
use Rattle.std.specs.Prelude.{is_none}
use Rattle.std.specs.List.{filter, flat_map, list_any}
use Rattle.list_laws.specs.FirstComing.{keep_first}
use Rattle.sql_meaning.specs.Schemas as plain
use Rattle.sql_meaning.specs.Statements.{numbers_from}
use Rattle.plan_choice.specs.Scans.{is_equality, is_bound, column_at, same_column, if_any}
use Rattle.where_terms.specs.Views.{term_of}
use Rattle.where_terms.specs.declared.term.Term.{Term}
use Rattle.where_terms.specs.declared.term.ColumnTerms.{ColumnTerms}
use Rattle.statement_scans.specs.declared.asked.Asked.{Asked}
use Rattle.statement_scans.specs.declared.asked.Asked.TheVariants.{Equality, Naming, Bound}

abbrev pub is_derived : Term → Bool
is_derived t = is_none t.conjunct

abbrev pub derived_in : ColumnTerms → List Term
derived_in c =
    filter is_derived c.equals.now
    ++ (filter is_derived c.lows.now ++ filter is_derived c.highs.now)

-- direct terms, then those of the columns that no conjunct gives by itself
abbrev pub appearing : List Term → List ColumnTerms → List Term
appearing direct columns = direct ++ flat_map derived_in columns

abbrev pub asks : Asked → Term → Bool
asks Equality t = is_equality (term_of t)
asks (Naming items) t = is_equality (term_of t) && (t.others == items)
asks Bound t = is_bound (term_of t)

abbrev pub column_asked : Asked → Term → List plain.IndexColumn
column_asked asked t = cond (asks asked t) (column_at (term_of t).column (term_of t)) []

abbrev pub columns_asked : Asked → List Term → List plain.IndexColumn
columns_asked asked ts = flat_map (column_asked asked) ts

abbrev pub asked_once : Asked → List Term → List plain.IndexColumn
asked_once asked ts = keep_first same_column [] (columns_asked asked ts)

-- columns but for those of these numbers
abbrev pub without : List ℕ → List plain.IndexColumn → List plain.IndexColumn
without numbers columns = filter (λ c. not (list_any (nat_eq c.column) numbers)) columns

abbrev pub names_some : Term → Bool
names_some t = not (t.others == 0)

-- of terms, the columns that are equal to what names this item alone
abbrev pub join_columns : List ℕ → List Term → ℕ → List plain.IndexColumn
join_columns numbers ts item = without numbers (asked_once (Naming (2 ^ item)) ts)

abbrev pub join_if_any : List ℕ → List Term → ℕ → List (List plain.IndexColumn)
join_if_any numbers ts item = if_any (join_columns numbers ts item)

-- of each of so many items, where there are some
abbrev pub joins_from : List ℕ → List Term → ℕ → List (List plain.IndexColumn)
joins_from numbers ts count = flat_map (join_if_any numbers ts) (numbers_from 0 count)
