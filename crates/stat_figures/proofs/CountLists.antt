-- What the counts of an index are, from how often its list begins new values.
use Rattle.std.proofs.Common.{◌≡◌, ℕ, suc, ◌+◌, ◌<◌, ◌≤◌, refl, arith, ap, sym, ◌∙◌}
use Rattle.std.proofs.Common.{List, [], ◌∷◌, length, map, get_or, take}
use Rattle.std.proofs.lemmas.Simd.{map-map}
use Rattle.sql_meaning.specs.Rows.{Row}
use Rattle.sql_meaning.specs.Schemas.{IndexColumn}
use Rattle.sql_meaning.specs.Statements.{numbers_from}
use Rattle.sql_meaning.specs.IndexLists.{SortColumn, entry_cmp, index_entries}
use Rattle.list_laws.specs.Tally.{tally}
use Rattle.list_laws.proofs.Orders.{SameTally-sort_by}
use Rattle.plan_choice.specs.Figures.{agree, counts, distinct_count, quotient_up}
use Rattle.stat_figures.specs.Changes.{begins}
use Rattle.stat_figures.proofs.Lists.{listing}
use Rattle.stat_figures.proofs.Prefixes.{as_sort_column, distinct_is}

tally_length : {X : Type 0} (xs : List X) → tally (λ x. 1) xs ≡ length xs
tally_length [] = refl
tally_length (x ∷ xs) = let e = tally_length xs in omega arith

pub sort_length : (cs : List SortColumn) (rows : List Row)
    → length (index_entries cs rows) ≡ length rows
sort_length cs rows =
    sym (tally_length (index_entries cs rows))
    ∙ (SameTally-sort_by (entry_cmp cs) rows).each (λ row. 1) ∙ tally_length rows

pub counts_none : (cs : List IndexColumn) (entries rows : List Row) → length entries < 1
    → entries ≡ index_entries (map as_sort_column cs) rows → counts cs rows ≡ []
counts_none cs entries [] few e = refl
counts_none cs entries (row ∷ rows) few e =
    let long = ap length e ∙ sort_length (map as_sort_column cs) (row ∷ rows) in
    absurd (omega arith)

some_case : (cs : List IndexColumn) (rows : List Row) → 0 < length rows
    → counts cs rows
    ≡ map (λ k. quotient_up (length rows) (distinct_count (take k cs) rows))
    (numbers_from 0 (suc (length cs)))
some_case cs [] some = absurd (omega arith)
some_case cs (row ∷ rows) some = refl

-- from how often each number of columns begins a new value
pub counts_are : (cs : List IndexColumn) (rows entries : List Row) (distinct : List ℕ)
    → 1 ≤ length entries
    → entries ≡ index_entries (map as_sort_column cs) rows
    → length distinct ≡ suc (length cs)
    → ((k : ℕ) → k < suc (length cs)
    → get_or distinct k 0 ≡ begins (agree (take k cs)) entries)
    → map (quotient_up (length entries)) distinct ≡ counts cs rows
counts_are cs rows entries distinct some e n h =
    let many : length entries ≡ length rows =
    ap length e ∙ sort_length (map as_sort_column cs) rows in
    let each : distinct
    ≡ map (λ k. distinct_count (take k cs) rows) (numbers_from 0 (suc (length cs))) =
    listing 0 distinct (suc (length cs)) 0 (λ k. distinct_count (take k cs) rows) n
    (λ k q. h k q ∙ ap (begins (agree (take k cs))) e ∙ sym (distinct_is cs rows k)
    ∙ ap (λ j. distinct_count (take j cs) rows) (zero_is k)) in
    rw (many, each)
    (map-map (quotient_up (length rows)) (λ k. distinct_count (take k cs) rows)
    (numbers_from 0 (suc (length cs)))
    ∙ sym (some_case cs rows (omega arith)))
  where
    zero_is : (k : ℕ) → k ≡ 0 + k
    zero_is k = omega arith
