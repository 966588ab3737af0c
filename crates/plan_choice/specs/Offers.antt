-- The offers of an item: each way to its rows once other items are placed, with what it costs.
use Rattle.std.specs.Prelude.{ℕ, suc, ◌+◌, Bool, true, false, ◌&&◌, ◌||◌, not, cond, nat_lt, List}
use Rattle.std.specs.Prelude.{[], ◌∷◌, ◌++◌, map, Option, Some, None, slice_get, slice_index_or}
use Rattle.std.specs.List.{flat_map}
use Rattle.sql_meaning.specs.Expressions.{bare_column}
use Rattle.sql_meaning.specs.Paths.{Path, TableScan, IndexScan, Union}
use Rattle.sql_meaning.specs.Statements.{Conjunct, SortKey, has_number, all_in, item_alias}
use Rattle.sql_meaning.specs.Conjuncts.{first_at}
use Rattle.sql_meaning.specs.UsedTerms.{Used, AllOf, AnyOf}
use Rattle.sql_meaning.specs.OrderState.{columns_at, on_item}
use Rattle.sql_meaning.specs.Choices.{Seek, ColumnTerms, rowid_offer, seek_offer}
use Rattle.sql_meaning.specs.Choices.{consumed_of, paths_of, used_of}
use Rattle.plan_choice.specs.Figures.{is_unordered}
use Rattle.plan_choice.specs.Costs.{Cost, Size, size_of, thinned}
use Rattle.plan_choice.specs.Settings.{Setting, terms_for, table_for, indexes_on}

-- `covering` where its index holds all columns that the statement needs of the item; `used` the
-- terms whose keys the path carries, and `consumed` the conjuncts of the direct ones among them,
-- which need no test any more
pub record Offer : Type 0 where
  pub path : Path
  pub covering : Bool
  pub used : Used
  pub consumed : List ℕ
  pub cost : Cost

-- each column that is needed is one of the index; the rowid stands in every index
abbrev pub covers : Setting → ℕ → ℕ → Bool
covers s item index =
    all_in (slice_index_or s.needs item [])
    (map (λ c. c.column) (columns_at (slice_get s.schema.indexes index)))

-- of the conjuncts, numbered from j, those that can first be evaluated with this item and that its
-- path doesn't consume
abbrev pub tested_from : List ℕ → List ℕ → ℕ → ℕ → List Conjunct → ℕ
tested_from consumed placed item j [] = 0
tested_from consumed placed item j (c ∷ cs) =
    cond (first_at placed item c && not (has_number j consumed)) 1 0
    + tested_from consumed placed item (suc j) cs

abbrev pub cost_at : Setting → List ℕ → ℕ → List ℕ → Size → Cost
cost_at s placed item consumed size =
    thinned size (tested_from consumed placed item 0 s.bound.conjuncts)

abbrev pub made_offer : Setting → List ℕ → ℕ → Path → Bool → Used → List ℕ → Offer
made_offer s placed item path covering used consumed = record {
  path = path;
  covering = covering;
  used = used;
  consumed = consumed;
  cost = cost_at s placed item consumed (size_of s.figures (table_for s item) covering path);
}

abbrev pub scan_by : Setting → List ℕ → ℕ → Path → Bool → Offer
scan_by s placed item path covering = made_offer s placed item path covering (AllOf []) []

abbrev pub seek_with : Setting → List ℕ → ℕ → Bool → Seek → Offer
seek_with s placed item covering k =
    made_offer s placed item k.path covering (AllOf k.used) (consumed_of k.used)

-- a seek by rowid, where a term of the rowid may be used
abbrev pub rowid_offers : Setting → List ℕ → ℕ → Option Seek → List Offer
rowid_offers s placed item None = []
rowid_offers s placed item (Some k) = seek_with s placed item false k ∷ []

-- ORDER BY begins with a column of the item
abbrev pub is_first_key : ℕ → List SortKey → Bool
is_first_key item [] = false
is_first_key item (k ∷ ks) = on_item item (bare_column k.expr)

-- an index that no term may seek in is scanned where that saves the table or a sort
abbrev pub index_scans : Setting → List ℕ → ℕ → ℕ → Bool → Bool → List Offer
index_scans s placed item index covering true =
    scan_by s placed item (IndexScan index) covering ∷ []
index_scans s placed item index covering false = []

abbrev pub seek_or_scan : Setting → List ℕ → ℕ → ℕ → Bool → Option Seek → List Offer
seek_or_scan s placed item index covering (Some k) = seek_with s placed item covering k ∷ []
seek_or_scan s placed item index covering None =
    index_scans s placed item index covering (covering || is_first_key item s.bound.keys)

abbrev pub without_bounds : ColumnTerms → ColumnTerms
without_bounds c = record { column = c.column; equals = c.equals; lows = []; highs = [] }

-- an unordered index serves no bound
abbrev pub served_terms : Bool → List ColumnTerms → List ColumnTerms
served_terms true columns = map without_bounds columns
served_terms false columns = columns

-- the seek in an index by these terms
abbrev pub seek_by : Setting → List ℕ → ℕ → List ColumnTerms → ℕ → Option Seek
seek_by s placed item columns index =
    seek_offer placed (item_alias s.schema s.bound item)
    (served_terms (is_unordered s.figures index) columns) index
    (columns_at (slice_get s.schema.indexes index))

abbrev pub index_offers : Setting → List ℕ → ℕ → ℕ → List Offer
index_offers s placed item index =
    seek_or_scan s placed item index (covers s item index)
    (seek_by s placed item (terms_for s item).columns index)

abbrev pub option_list : {X : Type 0} → Option X → List X
option_list None = []
option_list (Some x) = x ∷ []

-- the first of those that weigh least
abbrev pub lighter : {X : Type 0} → (X → ℕ) → X → Option X → Option X
lighter weight x None = Some x
lighter weight x (Some y) = cond (nat_lt (weight y) (weight x)) (Some y) (Some x)

abbrev pub lightest : {X : Type 0} → (X → ℕ) → List X → Option X
lightest weight [] = None
lightest weight (x ∷ xs) = lighter weight x (lightest weight xs)

-- the seeks by the terms of a branch of an OR: by rowid, and in each index
abbrev pub branch_seeks : Setting → List ℕ → ℕ → List ColumnTerms → List Seek
branch_seeks s placed item columns =
    option_list (rowid_offer placed columns)
    ++ flat_map (λ i. option_list (seek_by s placed item columns i))
    (indexes_on s.schema (table_for s item))

abbrev pub seek_run : Setting → ℕ → Seek → ℕ
seek_run s item k = (size_of s.figures (table_for s item) false k.path).run

abbrev pub branch_seek : Setting → List ℕ → ℕ → List ColumnTerms → Option Seek
branch_seek s placed item columns =
    lightest (seek_run s item) (branch_seeks s placed item columns)

abbrev pub both_or_none : {X : Type 0} → Option X → Option (List X) → Option (List X)
both_or_none None xs = None
both_or_none (Some x) None = None
both_or_none (Some x) (Some xs) = Some (x ∷ xs)

-- for each branch the seek of it that is cheapest to run, where each has one
abbrev pub union_seeks : Setting → List ℕ → ℕ → List (List ColumnTerms) → Option (List Seek)
union_seeks s placed item [] = Some []
union_seeks s placed item (columns ∷ branches) =
    both_or_none (branch_seek s placed item columns) (union_seeks s placed item branches)

-- a union consumes nothing: of its OR it says only that some branch may hold
abbrev pub union_offers : Setting → List ℕ → ℕ → Option (List Seek) → List Offer
union_offers s placed item None = []
union_offers s placed item (Some ks) =
    made_offer s placed item (Union (paths_of ks)) false (AnyOf (used_of ks)) [] ∷ []

-- in this order: the table scan; the seek by rowid; for each index a seek or a scan; for each OR
-- term a union
abbrev pub offers : Setting → List ℕ → ℕ → List Offer
offers s placed item =
    scan_by s placed item TableScan false
    ∷ (rowid_offers s placed item (rowid_offer placed (terms_for s item).columns)
    ++ (flat_map (index_offers s placed item) (indexes_on s.schema (table_for s item))
    ++ flat_map (λ o. union_offers s placed item (union_seeks s placed item o.branches))
    (terms_for s item).ors))
