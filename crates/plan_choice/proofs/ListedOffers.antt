-- The offers that are listed are offers.
use Rattle.std.specs.List.{AllByRecursion, flat_map}
use Rattle.std.proofs.Common.{◌≡◌, ℕ, Bool, true, false, ◌||◌, cond, List, [], ◌∷◌, Option}
use Rattle.std.proofs.Common.{Some, None, refl, sym, ◌∙◌, ap, subst, slice_get, length}
use Rattle.list_laws.proofs.Lists.{all_append, all_flat_map, all_map, filter_all}
use Rattle.sql_meaning.specs.Expressions.{BExpr, BExprs, Nil, More, flat}
use Rattle.sql_meaning.specs.Statements.{Conjunct, has_number, FitsStatement, item_alias}
use Rattle.sql_meaning.specs.Statements.{numbers_from}
use Rattle.sql_meaning.specs.Fitting.{is_usable_on, IsIndexOf, IsSeekOf}
use Rattle.sql_meaning.proofs.Fitting.{seek_fits as offered_fits, rowid_fits}
use Rattle.sql_meaning.specs.Choices.{Seek, ColumnTerms, rowid_offer}
use Rattle.sql_meaning.specs.Terms.{Term}
use Rattle.sql_meaning.specs.UsedTerms.{IsTerm, IsBranchTerm}
use Rattle.sql_meaning.specs.TermLists.{OrTerm, branch_terms, item_terms, ItemTerms}
use Rattle.sql_meaning.specs.TermLists.{terms_of_item}
use Rattle.sql_meaning.specs.TermLaws.{AreTermsOfBranches, IsListedOr}
use Rattle.sql_meaning.proofs.OrTerms.{or_terms_are_of_conjuncts}
use Rattle.sql_meaning.proofs.Choices.{AreColumnTerms}
use Rattle.sql_meaning.proofs.OfferedPaths.{scan_offer, index_scan_offer, IsPlainOffer, seek_plain}
use Rattle.sql_meaning.proofs.OfferedPaths.{rowid_plain, plain_offer, BranchOffers, union_offer}
use Rattle.sql_meaning.proofs.ListedTerms.{rowid_of_terms, item_terms_are}
use Rattle.sql_meaning.proofs.BranchTerms.{branch_terms_are}
use Rattle.plan_choice.specs.Figures.{is_unordered}
use Rattle.plan_choice.specs.Settings.{Setting, terms_for, table_for, indexes_on}
use Rattle.plan_choice.specs.Offers.{offers, rowid_offers, index_scans, seek_or_scan}
use Rattle.plan_choice.specs.Offers.{without_bounds}
use Rattle.plan_choice.specs.Offers.{served_terms, seek_by, covers, is_first_key, option_list}
use Rattle.plan_choice.specs.Offers.{lighter}
use Rattle.plan_choice.specs.Offers.{lightest, branch_seeks, seek_run, branch_seek, both_or_none}
use Rattle.plan_choice.specs.Offers.{union_seeks, union_offers}
use Rattle.plan_choice.specs.OfferLaws.{IsOffered, ListedOffersAreOffers}
use Rattle.list_laws.proofs.Lists.{all_mapped}

-- the premises, together
pub record IsNext (s : Setting) (placed : List ℕ) (item : ℕ) : Type 0 where
  pub fits : FitsStatement s.schema s.bound
  pub unplaced : has_number item placed ≡ false
  pub own : terms_for s item ≡ terms_of_item s.schema s.bound item

columns_own : (s : Setting) (placed : List ℕ) (item : ℕ) → IsNext s placed item
    → (terms_for s item).columns ≡ item_terms s.schema s.bound item
columns_own s placed item n = ap (λ t. t.columns) n.own

-- an unordered index leaves bounds out, so what is left are terms of the column all the same
served_are : (P : Term → Type 0) (unordered : Bool) (columns : List ColumnTerms)
    → AllByRecursion (AreColumnTerms P) columns
    → AllByRecursion (AreColumnTerms P) (served_terms unordered columns)
served_are P false columns h = h
served_are P true columns h =
    all_mapped _ without_bounds columns
    (all_map _ _ columns (λ c k. record { equals = k.equals; lows = tt; highs = tt }) h)

-- a seek in an index by terms
seek_is : (P : Term → Type 0) (s : Setting) (placed : List ℕ) (item index : ℕ)
    (columns : List ColumnTerms) (k : Seek)
    → AllByRecursion (AreColumnTerms P) columns → seek_by s placed item columns index ≡ Some k
    → IsPlainOffer P s.schema (item_alias s.schema s.bound item) placed k
seek_is P s placed item index columns k h e =
    seek_plain P s.schema (item_alias s.schema s.bound item) placed
    (served_terms (is_unordered s.figures index) columns) index k
    (served_are P (is_unordered s.figures index) columns h) e

-- a seek in an index of the table
pub seek_fits : (s : Setting) (placed : List ℕ) (item index : ℕ) (columns : List ColumnTerms)
    → IsIndexOf s.schema (table_for s item) index → (k : Seek)
    → seek_by s placed item columns index ≡ Some k
    → IsSeekOf s.schema (table_for s item) k.path
seek_fits s placed item index columns h k e =
    offered_fits s.schema (table_for s item) placed (item_alias s.schema s.bound item)
    (served_terms (is_unordered s.figures index) columns) index k h e

pub usable : (s : Setting) (item : ℕ)
    → AllByRecursion (IsIndexOf s.schema (table_for s item))
    (indexes_on s.schema (table_for s item))
usable s item =
    filter_all _ (λ i. is_usable_on (table_for s item) (slice_get s.schema.indexes i))
    (numbers_from 0 (length s.schema.indexes)) (λ i e. e)

rowid_each : (s : Setting) (placed : List ℕ) (item : ℕ) (reverse : Bool) → IsNext s placed item
    → (o : Option Seek) → rowid_offer placed (terms_for s item).columns ≡ o
    → AllByRecursion (IsOffered s placed item reverse) (rowid_offers s placed item o)
rowid_each s placed item reverse n None e = tt
rowid_each s placed item reverse n (Some k) e = (
  rowid_of_terms s.schema s.bound placed item reverse k n.fits n.unplaced
      (ap (rowid_offer placed) (sym (columns_own s placed item n)) ∙ e),
  tt,
)

scan_each : (s : Setting) (placed : List ℕ) (item : ℕ) (reverse : Bool) → IsNext s placed item
    → (index : ℕ) (covering b : Bool) → IsIndexOf s.schema (table_for s item) index
    → AllByRecursion (IsOffered s placed item reverse) (index_scans s placed item index covering b)
scan_each s placed item reverse n index covering true h =
    (index_scan_offer s.schema s.bound placed item index reverse n.fits n.unplaced h, tt)
scan_each s placed item reverse n index covering false h = tt

index_each : (s : Setting) (placed : List ℕ) (item : ℕ) (reverse : Bool) → IsNext s placed item
    → (index : ℕ) (covering : Bool) → IsIndexOf s.schema (table_for s item) index
    → (o : Option Seek) → seek_by s placed item (terms_for s item).columns index ≡ o
    → AllByRecursion (IsOffered s placed item reverse)
    (seek_or_scan s placed item index covering o)
index_each s placed item reverse n index covering h None e =
    scan_each s placed item reverse n index covering (covering || is_first_key item s.bound.keys) h
index_each s placed item reverse n index covering h (Some k) e = (
  plain_offer s.schema s.bound placed item k reverse n.fits n.unplaced
      (seek_fits s placed item index (terms_for s item).columns h k e)
      (seek_is (IsTerm s.schema s.bound item) s placed item index (item_terms s.schema s.bound item)
      k (item_terms_are s.schema s.bound item)
      (ap (λ cs. seek_by s placed item cs index) (sym (columns_own s placed item n)) ∙ e)),
  tt,
)

choice_of : {X : Type 0} (P : X → Type 0) (x y : X) (b : Bool) → P x → P y → (z : X)
    → cond b (Some y) (Some x) ≡ Some z → P z
choice_of P x y true p q z e = let is : y ≡ z = cc in subst P is q
choice_of P x y false p q z e = let is : x ≡ z = cc in subst P is p

-- the lightest of a list is one of it
lighter_one : {X : Type 0} (P : X → Type 0) (weight : X → ℕ) (x : X) (o : Option X) → P x
    → ((y : X) → o ≡ Some y → P y) → (z : X) → lighter weight x o ≡ Some z → P z
lighter_one P weight x None p f z e = let is : x ≡ z = cc in subst P is p
lighter_one P weight x (Some y) p f z e = choice_of P x y _ p (f y refl) z e

pub lightest_one : {X : Type 0} (P : X → Type 0) (weight : X → ℕ) (xs : List X)
    → AllByRecursion P xs → (z : X) → lightest weight xs ≡ Some z → P z
lightest_one P weight [] h z e = absurd (cc)
lightest_one P weight (x ∷ xs) h z e =
    lighter_one P weight x (lightest weight xs) h.0 (lightest_one P weight xs h.1) z e

-- a seek of the branch's terms
pub listed_option : {X : Type 0} (P : X → Type 0) (o : Option X) → ((x : X) → o ≡ Some x → P x)
    → AllByRecursion P (option_list o)
listed_option P None f = tt
listed_option P (Some x) f = (f x refl, tt)

abbrev IsBranchSeek : Setting → List ℕ → ℕ → Conjunct → BExpr → Seek → Type 0
IsBranchSeek s placed item c e k =
    IsSeekOf s.schema (table_for s item) k.path
    × IsPlainOffer (IsBranchTerm s.schema s.bound c item (flat e)) s.schema
    (item_alias s.schema s.bound item) placed k

branch_is : (s : Setting) (placed : List ℕ) (item number : ℕ) (c : Conjunct) (e : BExpr) (k : Seek)
    → branch_seek s placed item (branch_terms s.schema s.bound c item number e) ≡ Some k
    → IsBranchSeek s placed item c e k
branch_is s placed item number c e k h =
    let P = IsBranchTerm s.schema s.bound c item (flat e) in
    let columns = branch_terms s.schema s.bound c item number e in
    let own = branch_terms_are s.schema s.bound c item number e in
    lightest_one (IsBranchSeek s placed item c e) (seek_run s item)
    (branch_seeks s placed item columns)
    (all_append _ _ _
    (listed_option _ (rowid_offer placed columns)
    (λ o f. (
      rowid_fits s.schema (table_for s item) placed columns o f,
      rowid_plain P s.schema (item_alias s.schema s.bound item) placed columns o own f,
    )))
    (all_flat_map _ _ (indexes_on s.schema (table_for s item))
    (all_map _ _ (indexes_on s.schema (table_for s item))
    (λ i u. listed_option _ (seek_by s placed item columns i)
    (λ o f. (
      seek_fits s placed item i columns u o f,
      seek_is P s placed item i columns o own f,
    ))) (usable s item)))) k h

split_seeks : (o : Option Seek) (os : Option (List Seek)) (ks : List Seek)
    → both_or_none o os ≡ Some ks
    → (k : Seek) × (rest : List Seek) × (o ≡ Some k) × (os ≡ Some rest) × (k ∷ rest ≡ ks)
split_seeks None os ks e = absurd (cc)
split_seeks (Some k) None ks e = absurd (cc)
split_seeks (Some k) (Some rest) ks e =
    (k, rest, refl, refl, (let is : k ∷ rest ≡ ks = cc in is))

branches_are : (s : Setting) (placed : List ℕ) (item number : ℕ) (c : Conjunct) (es : BExprs)
    (bs : List (List ColumnTerms))
    → AreTermsOfBranches s.schema s.bound c item number es bs → (ks : List Seek)
    → union_seeks s placed item bs ≡ Some ks
    → BranchOffers s.schema s.bound c placed item es ks
branches_are s placed item number c Nil [] h ks f =
    let is : [] ≡ ks = cc in subst (BranchOffers s.schema s.bound c placed item Nil) is tt
branches_are s placed item number c Nil (columns ∷ bs) h ks f = absurd h
branches_are s placed item number c (More e es) [] h ks f = absurd h
branches_are s placed item number c (More e es) (columns ∷ bs) h ks f =
    let k = split_seeks (branch_seek s placed item columns) (union_seeks s placed item bs) ks f in
    let own = branch_is s placed item number c e k.0
    (ap (branch_seek s placed item) (sym h.0) ∙ k.2)
    in
    subst (BranchOffers s.schema s.bound c placed item (More e es)) k.4 (
      own.0,
      own.1,
      branches_are s placed item number c es bs h.2 k.1 k.3,
    )

union_each : (s : Setting) (placed : List ℕ) (item : ℕ) (reverse : Bool) → IsNext s placed item
    → (o : OrTerm) → IsListedOr s.schema s.bound item o → (ks : Option (List Seek))
    → union_seeks s placed item o.branches ≡ ks
    → AllByRecursion (IsOffered s placed item reverse) (union_offers s placed item ks)
union_each s placed item reverse n o h None e = tt
union_each s placed item reverse n o h (Some ks) e = (
  union_offer s.schema s.bound placed item reverse o.conjunct h.conjunct h.branches ks n.fits
      n.unplaced h.is h.allowed h.any
      (branches_are s placed item o.conjunct h.conjunct h.branches o.branches h.terms ks e),
  tt,
)

unions_each : (s : Setting) (placed : List ℕ) (item : ℕ) (reverse : Bool) → IsNext s placed item
    → (os : List OrTerm) → AllByRecursion (IsListedOr s.schema s.bound item) os
    → AllByRecursion (IsOffered s placed item reverse)
    (flat_map (λ o. union_offers s placed item (union_seeks s placed item o.branches)) os)
unions_each s placed item reverse n os h =
    all_flat_map _ _ os
    (all_map _ _ os (λ o i. union_each s placed item reverse n o i _ refl) h)

pub offers_are : (s : Setting) (placed : List ℕ) (item : ℕ) (reverse : Bool) → IsNext s placed item
    → AllByRecursion (IsOffered s placed item reverse) (offers s placed item)
offers_are s placed item reverse n = (
  scan_offer s.schema s.bound placed item reverse n.fits n.unplaced,
  all_append _ _ _ (rowid_each s placed item reverse n _ refl)
      (all_append _ _ _
      (all_flat_map _ _ (indexes_on s.schema (table_for s item))
      (all_map _ _ (indexes_on s.schema (table_for s item))
      (λ index h. index_each s placed item reverse n index (covers s item index) h _ refl)
      (usable s item)))
      (unions_each s placed item reverse n (terms_for s item).ors
      (subst (λ (t : ItemTerms). AllByRecursion (IsListedOr s.schema s.bound item) t.ors)
      (sym n.own) (or_terms_are_of_conjuncts s.schema s.bound item)))),
)

pub listed_offers_are_offers : ListedOffersAreOffers
listed_offers_are_offers = λ s placed item reverse fits unplaced own.
    offers_are s placed item reverse
    (record { fits = fits; unplaced = unplaced; own = own })
