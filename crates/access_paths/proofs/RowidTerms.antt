-- A seek by rowid, by the terms that fit the rowid.
use Rattle.std.proofs.Common.{◌≡◌, ℕ, Bool, cond, List, [], ◌∷◌, Option, Some, None, refl, ap, ap₂}
use Rattle.std.proofs.Common.{◌∙◌, sym}
use Rattle.list_laws.proofs.Bools.{and_none}
use Rattle.sql_meaning.specs.Values.{Collation}
use Rattle.sql_meaning.specs.Rows.{AtRowid}
use Rattle.sql_meaning.specs.Paths.{RowidEq}
use Rattle.sql_meaning.specs.Terms.{Term}
use Rattle.sql_meaning.specs.UsedTerms.{is_usable}
use Rattle.sql_meaning.specs.Choices.{ColumnTerms, first_that, terms_at, part_or, rowid_offer}
use Rattle.sql_meaning.specs.Choices.{rowid_equal, rowid_range}
use Rattle.access_paths.specs.Fitting.{fits_site}

-- whatever the collation, a term of the rowid fits where it is usable
first_usable : (placed : List ℕ) (collation : Collation) (ts : List Term)
    → first_that (is_usable placed) ts ≡ first_that (fits_site placed AtRowid collation) ts
first_usable placed collation [] = refl
first_usable placed collation (t ∷ ts) =
    ap₂ (λ (b : Bool) (o : Option Term). cond b (Some t) o) (sym (and_none (is_usable placed t)))
    (first_usable placed collation ts)

module _ (placed : List ℕ) (collation : Collation) (columns : List ColumnTerms) where
  abbrev first_of : List Term → Option Term
  first_of ts = first_that (fits_site placed AtRowid collation) ts

  by_terms : rowid_offer placed columns
      ≡ rowid_equal (first_of (terms_at AtRowid columns).equals)
      (rowid_range (first_of (terms_at AtRowid columns).lows)
      (first_of (terms_at AtRowid columns).highs))
  by_terms =
      ap₂ rowid_equal (first_usable placed collation (terms_at AtRowid columns).equals)
      (ap₂ rowid_range (first_usable placed collation (terms_at AtRowid columns).lows)
      (first_usable placed collation (terms_at AtRowid columns).highs))

  pub rowid_is : (t : Term) → Some t ≡ first_of (terms_at AtRowid columns).equals
      → rowid_offer placed columns
      ≡ Some (record { path = RowidEq (part_or t.kind); used = t ∷ [] })
  rowid_is t is =
      by_terms
      ∙ ap
      (λ (o : Option Term). rowid_equal o
      (rowid_range (first_of (terms_at AtRowid columns).lows)
      (first_of (terms_at AtRowid columns).highs))) (sym is)

  pub rowid_between : (low high : Option Term) → None ≡ first_of (terms_at AtRowid columns).equals
      → low ≡ first_of (terms_at AtRowid columns).lows
      → high ≡ first_of (terms_at AtRowid columns).highs
      → rowid_offer placed columns ≡ rowid_range low high
  rowid_between low high none is_low is_high =
      by_terms
      ∙ ap
      (λ (o : Option Term). rowid_equal o
      (rowid_range (first_of (terms_at AtRowid columns).lows)
      (first_of (terms_at AtRowid columns).highs))) (sym none)
      ∙ ap₂ rowid_range (sym is_low) (sym is_high)
