-- Columns by their places: the rowid at 0, then each column.
use Rattle.std.specs.Prelude.{ℕ, zero, suc, List, [], ◌∷◌, ◌++◌, ◌==◌, cond, map}
use Rattle.std.specs.List.{flat_map, filter}
use Rattle.sql_meaning.specs.Rows.{Site, AtRowid, AtColumn}
use Rattle.sql_meaning.specs.Expressions.{ColumnRef}
use Rattle.sql_meaning.specs.Terms.{Term}
use Rattle.sql_meaning.specs.Choices.{ColumnTerms}
use Rattle.sql_meaning.specs.TermLists.{Pair, site_number, has_term}
use Rattle.where_terms.specs.declared.gathering.Sources.{Sources}
use Rattle.where_terms.specs.Views.{term_of, link_of}
use Rattle.where_terms.specs.Gathered.{gathered_from}

abbrev pub site_at : ℕ → Site
site_at zero = AtRowid
site_at (suc n) = AtColumn n

abbrev pub sites_from : ℕ → ℕ → List Site
sites_from start zero = []
sites_from start (suc count) = site_at start ∷ sites_from (suc start) count

abbrev pub term_numbers : List Term → List ℕ
term_numbers ts = map (λ t. site_number t.column) ts

abbrev pub ref_numbers : ℕ → ColumnRef → List ℕ
ref_numbers item c = cond (c.item == item) (site_number c.site ∷ []) []

abbrev pub pair_numbers : ℕ → Pair → List ℕ
pair_numbers item p = ref_numbers item p.first ++ ref_numbers item p.second

-- the places of the item's columns that a term or a link names
abbrev pub candidates : Sources → ℕ → List ℕ
candidates s item =
    term_numbers (map term_of s.own.now)
    ++ (term_numbers (map term_of s.likes.now)
    ++ flat_map (pair_numbers item) (map link_of s.links.now))

abbrev pub if_some : ColumnTerms → List ColumnTerms
if_some c = cond (has_term c) (c ∷ []) []

-- of so many columns from a place on, those with a term
abbrev pub listed_from : Sources → ℕ → ℕ → ℕ → List ColumnTerms
listed_from s item start count =
    filter has_term
    (map (λ site. gathered_from s (record { item = item; site = site })) (sites_from start count))
