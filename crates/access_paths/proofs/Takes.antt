-- A turn of the loop that takes equality terms along the columns of an index.
use Rattle.std.proofs.Common.{◌≡◌, ◌++◌, ℕ, List, [], ◌∷◌, Option, Some, None, map, ap, ap₂, ◌∙◌}
use Rattle.std.proofs.Common.{sym, append_assoc}
use Rattle.std.proofs.lemmas.List.{map-append}
use Rattle.sql_meaning.specs.Values.{Collation}
use Rattle.sql_meaning.specs.Rows.{Site}
use Rattle.sql_meaning.specs.OrderState.{column_site}
use Rattle.sql_meaning.specs.Paths.{EqPart}
use Rattle.sql_meaning.specs.Schemas.{IndexColumn}
use Rattle.sql_meaning.specs.Terms.{Term}
use Rattle.sql_meaning.specs.Choices.{ColumnTerms, Taken, first_that, terms_at, fits_column}
use Rattle.sql_meaning.specs.Choices.{seek_terms, take_equal, part_or}
use Rattle.access_paths.specs.Fitting.{fits_site, bounds_at, behind_equals}

-- the first term that fits the column of an index, by what the column is to a seek
pub first_at_site : (placed : List ℕ) (alias : Option ℕ) (c : IndexColumn) (site : Site)
    (collation : Collation) (columns : List ColumnTerms) (list : ColumnTerms → List Term)
    → site ≡ column_site alias c.column → collation ≡ c.collation
    → first_that (fits_site placed site collation) (list (terms_at site columns))
    ≡ first_that (fits_column placed alias c) (list (terms_at (column_site alias c.column) columns))
first_at_site placed alias c site collation columns list s k =
    ap₂
    (λ (x : Site) (y : Collation). first_that (fits_site placed x y) (list (terms_at x columns))) s
    k

module _ (placed : List ℕ) (alias : Option ℕ) (columns : List ColumnTerms) where
  abbrev first_equal : IndexColumn → Option Term
  first_equal c =
      first_that (fits_column placed alias c) (terms_at (column_site alias c.column) columns).equals

  abbrev with_lists : Taken → List EqPart → List Term → Taken
  with_lists rest eqs used =
      record { eqs = eqs; low = rest.low; high = rest.high; used = used }

  one_behind : (made : List Term) (t : Term) (rest bounds : Taken)
      → behind_equals made (take_equal (Some t) rest bounds)
      ≡ behind_equals (made ++ t ∷ []) rest
  one_behind made t rest bounds =
      ap₂ (with_lists rest)
      (sym
      (ap (λ es. es ++ rest.eqs) (map-append (λ (u : Term). part_or u.kind) made (t ∷ []))
      ∙ append_assoc (map (λ (u : Term). part_or u.kind) made) (part_or t.kind ∷ []) rest.eqs))
      (sym (append_assoc made (t ∷ []) rest.used))

  pub taken_more : (whole : Taken) (made more : List Term) (c : IndexColumn)
      (cs : List IndexColumn) (t : Term)
      → whole ≡ behind_equals made (seek_terms placed alias columns (c ∷ cs))
      → first_equal c ≡ Some t → more ≡ made ++ t ∷ []
      → whole ≡ behind_equals more (seek_terms placed alias columns cs)
  taken_more whole made more c cs t is first m =
      is
      ∙ ap
      (λ (o : Option Term). behind_equals made
      (take_equal o (seek_terms placed alias columns cs)
      (bounds_at placed alias columns (c ∷ cs)))) first
      ∙ one_behind made t (seek_terms placed alias columns cs)
      (bounds_at placed alias columns (c ∷ cs))
      ∙ ap (λ ts. behind_equals ts (seek_terms placed alias columns cs)) (sym m)

  pub taken_until : (whole : Taken) (made : List Term) (c : IndexColumn) (cs : List IndexColumn)
      → whole ≡ behind_equals made (seek_terms placed alias columns (c ∷ cs))
      → first_equal c ≡ None
      → whole ≡ behind_equals made (bounds_at placed alias columns (c ∷ cs))
  taken_until whole made c cs is first =
      is
      ∙ ap
      (λ (o : Option Term). behind_equals made
      (take_equal o (seek_terms placed alias columns cs)
      (bounds_at placed alias columns (c ∷ cs)))) first
