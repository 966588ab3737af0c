-- The path of each listed offer fits its table.
use Rattle.std.specs.List.{AllByRecursion}
use Rattle.std.proofs.Common.{◌≡◌, ℕ, Bool, true, false, ◌||◌, List, [], ◌∷◌}
use Rattle.std.proofs.Common.{Option, Some, None, refl, subst}
use Rattle.list_laws.proofs.Lists.{all_append, all_flat_map, all_always, all_map}
use Rattle.sql_meaning.specs.Schemas.{Schema}
use Rattle.sql_meaning.specs.Choices.{Seek, ColumnTerms, rowid_offer, paths_of}
use Rattle.sql_meaning.specs.Fitting.{IsIndexOf, IsSeekOf, AreSeeksOf, FitsTable}
use Rattle.sql_meaning.proofs.Fitting.{rowid_fits, seek_is_path}
use Rattle.plan_choice.specs.Settings.{Setting, terms_for, table_for, indexes_on}
use Rattle.plan_choice.specs.Offers.{rowid_offers, index_scans, seek_or_scan}
use Rattle.plan_choice.specs.Offers.{seek_by, covers, is_first_key}
use Rattle.plan_choice.specs.Offers.{branch_seeks, seek_run, branch_seek, both_or_none, union_seeks}
use Rattle.plan_choice.specs.Offers.{union_offers}
use Rattle.plan_choice.specs.FitLaws.{ListedOffersFit}
use Rattle.plan_choice.proofs.ListedOffers.{lightest_one, listed_option, seek_fits, usable}

rowid_each : (s : Setting) (placed : List ℕ) (item : ℕ) (o : Option Seek)
    → rowid_offer placed (terms_for s item).columns ≡ o
    → AllByRecursion (λ q. FitsTable s.schema (table_for s item) q.path)
    (rowid_offers s placed item o)
rowid_each s placed item None e = tt
rowid_each s placed item (Some k) e = (
  seek_is_path s.schema (table_for s item) k.path
      (rowid_fits s.schema (table_for s item) placed (terms_for s item).columns k e),
  tt,
)

scan_each : (s : Setting) (placed : List ℕ) (item index : ℕ) (covering b : Bool)
    → IsIndexOf s.schema (table_for s item) index
    → AllByRecursion (λ q. FitsTable s.schema (table_for s item) q.path)
    (index_scans s placed item index covering b)
scan_each s placed item index covering true h = (h, tt)
scan_each s placed item index covering false h = tt

index_each : (s : Setting) (placed : List ℕ) (item index : ℕ) (covering : Bool)
    → IsIndexOf s.schema (table_for s item) index → (o : Option Seek)
    → seek_by s placed item (terms_for s item).columns index ≡ o
    → AllByRecursion (λ q. FitsTable s.schema (table_for s item) q.path)
    (seek_or_scan s placed item index covering o)
index_each s placed item index covering h None e =
    scan_each s placed item index covering (covering || is_first_key item s.bound.keys) h
index_each s placed item index covering h (Some k) e = (
  seek_is_path s.schema (table_for s item) k.path
      (seek_fits s placed item index (terms_for s item).columns h k e),
  tt,
)

branch_fits : (s : Setting) (placed : List ℕ) (item : ℕ) (columns : List ColumnTerms) (k : Seek)
    → branch_seek s placed item columns ≡ Some k → IsSeekOf s.schema (table_for s item) k.path
branch_fits s placed item columns k e =
    lightest_one (λ q. IsSeekOf s.schema (table_for s item) q.path) (seek_run s item)
    (branch_seeks s placed item columns)
    (all_append _ _ _
    (listed_option _ (rowid_offer placed columns)
    (λ q f. rowid_fits s.schema (table_for s item) placed columns q f))
    (all_flat_map _ _ (indexes_on s.schema (table_for s item))
    (all_map _ _ (indexes_on s.schema (table_for s item))
    (λ i h. listed_option _ (seek_by s placed item columns i)
    (λ q f. seek_fits s placed item i columns h q f)) (usable s item)))) k e

both_case : (schema : Schema) (table : ℕ) (o : Option Seek) (os : Option (List Seek))
    → ((k : Seek) → o ≡ Some k → IsSeekOf schema table k.path)
    → ((ks : List Seek) → os ≡ Some ks → AreSeeksOf schema table (paths_of ks))
    → (ks : List Seek) → both_or_none o os ≡ Some ks → AreSeeksOf schema table (paths_of ks)
both_case schema table None os f g ks e = absurd (cc)
both_case schema table (Some k) None f g ks e = absurd (cc)
both_case schema table (Some k) (Some rest) f g ks e =
    let is : k ∷ rest ≡ ks = cc in
    subst (λ (xs : List Seek). AreSeeksOf schema table (paths_of xs)) is
    (f k refl, g rest refl)

branches_fit : (s : Setting) (placed : List ℕ) (item : ℕ) (branches : List (List ColumnTerms))
    (ks : List Seek)
    → union_seeks s placed item branches ≡ Some ks
    → AreSeeksOf s.schema (table_for s item) (paths_of ks)
branches_fit s placed item [] ks e =
    let none : [] ≡ ks = cc in
    subst (λ (xs : List Seek). AreSeeksOf s.schema (table_for s item) (paths_of xs)) none tt
branches_fit s placed item (columns ∷ branches) ks e =
    both_case s.schema (table_for s item) (branch_seek s placed item columns)
    (union_seeks s placed item branches) (branch_fits s placed item columns)
    (branches_fit s placed item branches) ks e

union_each : (s : Setting) (placed : List ℕ) (item : ℕ) (branches : List (List ColumnTerms))
    (o : Option (List Seek))
    → union_seeks s placed item branches ≡ o
    → AllByRecursion (λ q. FitsTable s.schema (table_for s item) q.path)
    (union_offers s placed item o)
union_each s placed item branches None e = tt
union_each s placed item branches (Some ks) e = (branches_fit s placed item branches ks e, tt)

pub listed_offers_fit : ListedOffersFit
listed_offers_fit = λ s placed item. (
  tt,
  all_append _ _ _ (rowid_each s placed item _ refl)
      (all_append _ _ _
      (all_flat_map _ _ (indexes_on s.schema (table_for s item))
      (all_map _ _ (indexes_on s.schema (table_for s item))
      (λ index h. index_each s placed item index (covers s item index) h _ refl) (usable s item)))
      (all_flat_map _ _ (terms_for s item).ors
      (all_always _ (terms_for s item).ors
      (λ o. union_each s placed item o.branches _ refl)))),
)
