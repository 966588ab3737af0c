-- Offers by what is to be seen of their seeks.
use Rattle.std.proofs.Common.{◌≡◌, ◌++◌, ◌||◌, ℕ, Bool, false, List, [], ◌∷◌, Option, Some, None, refl}
use Rattle.std.proofs.Common.{ap, ap₂, sym, ◌∙◌, option_map, append_assoc}
use Rattle.std.specs.List.{flat_map}
use Rattle.std.proofs.lemmas.List.{map-append}
use Rattle.std.proofs.lemmas.Option.{same_Some}
use Rattle.sql_meaning.specs.Paths.{Path, TableScan, Union, Then}
use Rattle.sql_meaning.specs.Choices.{Seek, rowid_offer, paths_of}
use Rattle.sql_meaning.specs.TermLists.{OrTerm, ItemTerms}
use Rattle.plan_choice.specs.Settings.{Setting, terms_for, table_for, indexes_on}
use Rattle.plan_choice.specs.Offers as meant
use Rattle.plan_form.specs.Paths.{paths}
use Rattle.access_paths.specs.Offers.{SeenOffer, told_offer}
use Rattle.access_paths.specs.Seeks.{SeenSeek, told_seek}
use Rattle.access_paths.specs.Branches.{seek_paths}
use Rattle.access_paths.specs.Listed.{told_by, told_offers, told_index, told_union}
use Rattle.access_paths.proofs.BranchSeeks.{map-flat_map}

paths_are : (ks : List Seek) → paths (seek_paths ks) ≡ paths_of ks
paths_are [] = refl
paths_are (k ∷ ks) = ap (Then k.path) (paths_are ks)

module _ (s : Setting) (placed : List ℕ) (item : ℕ) where
  abbrev one_of : SeenSeek → List SeenOffer
  one_of z = told_by s placed item z.path z.covering z.consumed ∷ []

  pub rowid_told : (z : SeenSeek) (o : Option Seek) → Some z ≡ option_map (told_seek false) o
      → one_of z ≡ told_offers (meant.rowid_offers s placed item o)
  rowid_told z None e = absurd (cc)
  rowid_told z (Some k) e = ap one_of (same_Some z (told_seek false k) e)

  pub rowid_none : (o : Option Seek)
      → ◌≡◌ {A = Option SeenSeek} None (option_map (told_seek false) o)
      → [] ≡ told_offers (meant.rowid_offers s placed item o)
  rowid_none None e = refl
  rowid_none (Some k) e = absurd (cc)

  pub index_told : (index : ℕ) (covering : Bool) (z : SeenSeek) (o : Option Seek)
      → Some z ≡ option_map (told_seek covering) o
      → one_of z ≡ told_offers (meant.seek_or_scan s placed item index covering o)
  index_told index covering z None e = absurd (cc)
  index_told index covering z (Some k) e = ap one_of (same_Some z (told_seek covering k) e)

  pub index_none : (index : ℕ) (covering : Bool) (o : Option Seek)
      → ◌≡◌ {A = Option SeenSeek} None (option_map (told_seek covering) o)
      → told_offers
      (meant.index_scans s placed item index covering
      (covering || meant.is_first_key item s.bound.keys))
      ≡ told_offers (meant.seek_or_scan s placed item index covering o)
  index_none index covering None e = refl
  index_none index covering (Some k) e = absurd (cc)

  pub union_told : (ps : List Path) (o : Option (List Seek)) → Some ps ≡ option_map seek_paths o
      → told_by s placed item (Union (paths ps)) false [] ∷ []
      ≡ told_offers (meant.union_offers s placed item o)
  union_told ps None e = absurd (cc)
  union_told ps (Some ks) e =
      ap (λ qs. told_by s placed item (Union qs) false [] ∷ [])
      (ap paths (same_Some ps (seek_paths ks) e) ∙ paths_are ks)

  pub union_none : (o : Option (List Seek))
      → ◌≡◌ {A = Option (List Path)} None (option_map seek_paths o)
      → [] ≡ told_offers (meant.union_offers s placed item o)
  union_none None e = refl
  union_none (Some ks) e = absurd (cc)

  abbrev indexes : List ℕ
  indexes = indexes_on s.schema (table_for s item)

  abbrev union_of : OrTerm → List meant.Offer
  union_of o = meant.union_offers s placed item (meant.union_seeks s placed item o.branches)

  abbrev by_rowid : ItemTerms → List SeenOffer
  by_rowid t = told_offers (meant.rowid_offers s placed item (rowid_offer placed t.columns))

  -- all offers, by the parts that the code lists
  pub all_told : (scan : SeenOffer) (rowids by_index unions : List SeenOffer) (terms : ItemTerms)
      → terms ≡ terms_for s item
      → scan ≡ told_offer (meant.scan_by s placed item TableScan false)
      → rowids ≡ told_offers (meant.rowid_offers s placed item (rowid_offer placed terms.columns))
      → by_index
      ≡ flat_map (told_index s placed item terms.columns) (indexes_on s.schema (table_for s item))
      → unions ≡ flat_map (told_union s placed item) terms.ors
      → ((scan ∷ [] ++ rowids) ++ by_index) ++ unions
      ≡ told_offers (meant.offers s placed item)
  all_told scan rowids by_index unions terms own is_scan are_rowids are_indexes are_unions =
      append_assoc (scan ∷ [] ++ rowids) by_index unions
      ∙ ap₂ (λ (x : SeenOffer) (l : List SeenOffer). x ∷ l) is_scan
      (ap₂ (λ (l m : List SeenOffer). l ++ m) (are_rowids ∙ ap by_rowid own)
      (ap₂ (λ (l m : List SeenOffer). l ++ m)
      (are_indexes
      ∙ ap (λ (t : ItemTerms). flat_map (told_index s placed item t.columns) indexes) own
      ∙ sym (map-flat_map told_offer (meant.index_offers s placed item) indexes))
      (are_unions
      ∙ ap (λ (t : ItemTerms). flat_map (told_union s placed item) t.ors) own
      ∙ sym (map-flat_map told_offer union_of (terms_for s item).ors))
      ∙ sym
      (map-append told_offer (flat_map (meant.index_offers s placed item) indexes)
      (flat_map union_of (terms_for s item).ors)))
      ∙ sym
      (map-append told_offer
      (meant.rowid_offers s placed item (rowid_offer placed (terms_for s item).columns))
      (flat_map (meant.index_offers s placed item) indexes
      ++ flat_map union_of (terms_for s item).ors)))
