-- Offers depend on which items are placed, and not on how these are listed.
use Rattle.std.proofs.Common.{◌≡◌, ◌&&◌, ◌||◌, ◌==◌, ◌++◌, ◌+◌, not, ℕ, suc, Bool, true, false}
use Rattle.std.proofs.Common.{cond, List, [], ◌∷◌, Option, Some, None, refl, ap, ap₂, ◌∙◌, sym}
use Rattle.std.proofs.Common.{slice_get}
use mathlib.Core.Path.{fun_ext}
use Rattle.std.specs.List.{flat_map}
use Rattle.sql_meaning.specs.Expressions.{names}
use Rattle.sql_meaning.specs.Orders.{same_collation}
use Rattle.sql_meaning.specs.OrderState.{column_site, columns_at}
use Rattle.sql_meaning.specs.Paths.{Path, KeyExpr, TableScan, IndexScan, Union}
use Rattle.sql_meaning.specs.Schemas.{IndexColumn}
use Rattle.sql_meaning.specs.Rows.{AtRowid}
use Rattle.sql_meaning.specs.Statements.{Conjunct, has_number, all_in, is_empty, item_alias}
use Rattle.sql_meaning.specs.Conjuncts.{first_by}
use Rattle.sql_meaning.specs.Terms.{Term, term_keys}
use Rattle.sql_meaning.specs.TermLists.{OrTerm}
use Rattle.sql_meaning.specs.UsedTerms.{Used, AllOf, AnyOf, keys_in, is_usable}
use Rattle.sql_meaning.specs.Choices.{ColumnTerms, Seek, Taken, suits, first_that, terms_at}
use Rattle.sql_meaning.specs.Choices.{fits_column, seek_terms, take_equal, take_bounds, seek_of}
use Rattle.sql_meaning.specs.Choices.{rowid_offer, rowid_equal, rowid_range, consumed_of}
use Rattle.sql_meaning.specs.Choices.{paths_of, used_of}
use Rattle.sql_bound.specs.Naming.{IsPlaced}
use Rattle.plan_choice.specs.Costs.{thinned, size_of}
use Rattle.plan_choice.specs.Settings.{Setting, terms_for, table_for, indexes_on}
use Rattle.plan_choice.specs.Figures.{is_unordered}
use Rattle.plan_choice.specs.Offers.{Offer, offers, tested_from, made_offer, rowid_offers}
use Rattle.plan_choice.specs.Offers.{index_scans, seek_or_scan, index_offers, seek_by, served_terms}
use Rattle.plan_choice.specs.Offers.{covers, is_first_key, branch_seek, union_seeks, union_offers}
use Rattle.plan_choice.specs.Offers.{both_or_none, lightest, seek_run, option_list}

module _ (a b : List ℕ) (same : (item : ℕ) → has_number item a ≡ has_number item b)
    (none : is_empty a ≡ is_empty b) where
  all_same : (ns : List ℕ) → all_in ns a ≡ all_in ns b
  all_same [] = refl
  all_same (n ∷ ns) = ap₂ (λ x y. x && y) (same n) (all_same ns)

  keys_same : (keys : List KeyExpr) → keys_in a keys ≡ keys_in b keys
  keys_same [] = refl
  keys_same (key ∷ keys) = ap₂ (λ x y. x && y) (all_same (names key.expr)) (keys_same keys)

  usable_same : is_usable a ≡ is_usable b
  usable_same = fun_ext (λ t. keys_same (term_keys t.kind))

  fits_same : (alias : Option ℕ) (c : IndexColumn) → fits_column a alias c ≡ fits_column b alias c
  fits_same alias c =
      fun_ext
      (λ t. ap
      (λ u. u && suits (column_site alias c.column) t.kind
      (same_collation t.collation c.collation))
      (keys_same (term_keys t.kind)))

  abbrev take_at : Option ℕ → List ColumnTerms → IndexColumn → (Term → Bool) → Taken → Taken
  take_at alias columns c fits rest =
      take_equal (first_that fits (terms_at (column_site alias c.column) columns).equals) rest
      (take_bounds (first_that fits (terms_at (column_site alias c.column) columns).lows)
      (first_that fits (terms_at (column_site alias c.column) columns).highs))

  seek_terms_same : (alias : Option ℕ) (columns : List ColumnTerms) (cs : List IndexColumn)
      → seek_terms a alias columns cs ≡ seek_terms b alias columns cs
  seek_terms_same alias columns [] = refl
  seek_terms_same alias columns (c ∷ cs) =
      ap₂ (take_at alias columns c) (fits_same alias c) (seek_terms_same alias columns cs)

  rowid_same : (columns : List ColumnTerms) → rowid_offer a columns ≡ rowid_offer b columns
  rowid_same columns =
      ap
      (λ (fits : Term → Bool). rowid_equal (first_that fits (terms_at AtRowid columns).equals)
      (rowid_range (first_that fits (terms_at AtRowid columns).lows)
      (first_that fits (terms_at AtRowid columns).highs)))
      usable_same

  more_same : (item : ℕ) (ns : List ℕ) → all_in ns (item ∷ a) ≡ all_in ns (item ∷ b)
  more_same item [] = refl
  more_same item (n ∷ ns) =
      ap₂ (λ x y. x && y) (ap (λ x. (n == item) || x) (same n)) (more_same item ns)

  first_same : (item : ℕ) (named : List ℕ) (owner : Option ℕ)
      → first_by a item named owner ≡ first_by b item named owner
  first_same item named None =
      ap₂ (λ x y. (has_number item named && x) || (is_empty named && y)) (more_same item named) none
  first_same item named (Some owner) = refl

  abbrev tested_more : List ℕ → ℕ → Bool → ℕ → ℕ
  tested_more consumed j first rest = cond (first && not (has_number j consumed)) 1 0 + rest

  tested_same : (consumed : List ℕ) (item j : ℕ) (cs : List Conjunct)
      → tested_from consumed a item j cs ≡ tested_from consumed b item j cs
  tested_same consumed item j [] = refl
  tested_same consumed item j (c ∷ cs) =
      ap₂ (tested_more consumed j) (first_same item (names c.expr) c.owner)
      (tested_same consumed item (suc j) cs)

  module _ (s : Setting) (item : ℕ) where
    abbrev with_tested : Path → Bool → Used → List ℕ → ℕ → Offer
    with_tested path covering used consumed tested = record {
      path = path;
      covering = covering;
      used = used;
      consumed = consumed;
      cost = thinned (size_of s.figures (table_for s item) covering path) tested;
    }

    made_same : (path : Path) (covering : Bool) (used : Used) (consumed : List ℕ)
        → made_offer s a item path covering used consumed
        ≡ made_offer s b item path covering used consumed
    made_same path covering used consumed =
        ap (with_tested path covering used consumed) (tested_same consumed item 0 s.bound.conjuncts)

    one_same : (path : Path) (covering : Bool) (used : Used) (consumed : List ℕ)
        → ◌≡◌ {A = List Offer} (made_offer s a item path covering used consumed ∷ [])
        (made_offer s b item path covering used consumed ∷ [])
    one_same path covering used consumed =
        ap (λ (o : Offer). o ∷ []) (made_same path covering used consumed)

    rowid_offers_same : (o : Option Seek) → rowid_offers s a item o ≡ rowid_offers s b item o
    rowid_offers_same None = refl
    rowid_offers_same (Some k) = one_same k.path false (AllOf k.used) (consumed_of k.used)

    scans_same : (index : ℕ) (covering wanted : Bool)
        → index_scans s a item index covering wanted ≡ index_scans s b item index covering wanted
    scans_same index covering true = one_same (IndexScan index) covering (AllOf []) []
    scans_same index covering false = refl

    seek_or_scan_same : (index : ℕ) (covering : Bool) (o : Option Seek)
        → seek_or_scan s a item index covering o ≡ seek_or_scan s b item index covering o
    seek_or_scan_same index covering None =
        scans_same index covering (covering || is_first_key item s.bound.keys)
    seek_or_scan_same index covering (Some k) =
        one_same k.path covering (AllOf k.used) (consumed_of k.used)

    seek_same : (columns : List ColumnTerms) (index : ℕ)
        → seek_by s a item columns index ≡ seek_by s b item columns index
    seek_same columns index =
        ap (λ (t : Taken). seek_of index t t.used)
        (seek_terms_same (item_alias s.schema s.bound item)
        (served_terms (is_unordered s.figures index) columns)
        (columns_at (slice_get s.schema.indexes index)))

    index_same : (index : ℕ) → index_offers s a item index ≡ index_offers s b item index
    index_same index =
        ap (seek_or_scan s a item index (covers s item index))
        (seek_same (terms_for s item).columns index)
        ∙ seek_or_scan_same index (covers s item index)
        (seek_by s b item (terms_for s item).columns index)

    branch_same : (columns : List ColumnTerms)
        → branch_seek s a item columns ≡ branch_seek s b item columns
    branch_same columns =
        ap (lightest (seek_run s item))
        (ap₂
        (λ (r : Option Seek) (f : ℕ → List Seek). option_list r
        ++ flat_map f (indexes_on s.schema (table_for s item)))
        (rowid_same columns) (fun_ext (λ i. ap option_list (seek_same columns i))))

    unions_same : (branches : List (List ColumnTerms))
        → union_seeks s a item branches ≡ union_seeks s b item branches
    unions_same [] = refl
    unions_same (columns ∷ branches) =
        ap₂ both_or_none (branch_same columns) (unions_same branches)

    union_offers_same : (o : Option (List Seek)) → union_offers s a item o ≡ union_offers s b item o
    union_offers_same None = refl
    union_offers_same (Some ks) = one_same (Union (paths_of ks)) false (AnyOf (used_of ks)) []

    or_same : (o : OrTerm)
        → union_offers s a item (union_seeks s a item o.branches)
        ≡ union_offers s b item (union_seeks s b item o.branches)
    or_same o =
        ap (union_offers s a item) (unions_same o.branches)
        ∙ union_offers_same (union_seeks s b item o.branches)

    rowids_same : rowid_offers s a item (rowid_offer a (terms_for s item).columns)
        ≡ rowid_offers s b item (rowid_offer b (terms_for s item).columns)
    rowids_same =
        ap (rowid_offers s a item) (rowid_same (terms_for s item).columns)
        ∙ rowid_offers_same (rowid_offer b (terms_for s item).columns)

    pub offers_same : offers s a item ≡ offers s b item
    offers_same =
        ap₂ (λ (x : Offer) (xs : List Offer). x ∷ xs)
        (made_same TableScan false (AllOf []) [])
        (ap₂ (λ (xs ys : List Offer). xs ++ ys) rowids_same
        (ap₂ (λ (xs ys : List Offer). xs ++ ys)
        (ap (λ (f : ℕ → List Offer). flat_map f (indexes_on s.schema (table_for s item)))
        (fun_ext index_same))
        (ap (λ (f : OrTerm → List Offer). flat_map f (terms_for s item).ors) (fun_ext or_same))))

-- those of two lists of the items of one mask
pub offers_of_placed : (s : Setting) (mask item : ℕ) (a b : List ℕ) → IsPlaced mask a
    → IsPlaced mask b → offers s a item ≡ offers s b item
offers_of_placed s mask item a b p q =
    offers_same a b (λ k. p.each k ∙ sym (q.each k)) (p.none ∙ sym q.none) s item
