-- Which terms a seek takes for an item, after the items that are placed.
use Rattle.std.specs.Prelude.{List, ℕ, Bool, true, ◌&&◌, [], ◌∷◌, cond, Option, Some, None, ◌++◌}
use Rattle.std.specs.Prelude.{map}
use Rattle.std.specs.List.{flat_map}
use Rattle.std.specs.Ordering.{nat_cmp, eq_by_cmp}
use Rattle.list_laws.specs.Order.{sort_by}
use Rattle.list_laws.specs.FirstComing.{keep_first}
use Rattle.sql_meaning.specs.Rows.{Site, AtRowid, AtColumn}
use Rattle.sql_meaning.specs.UsedTerms.{is_usable}
use Rattle.sql_meaning.specs.Terms.{Term, part_of, TermKind, Equals, Within, IsNothing, Low, High}
use Rattle.sql_meaning.specs.Paths.{EqPart, NullKey, Edge, Path}
use Rattle.sql_meaning.specs.Paths.{RowidRange, RowidEq, IndexSeek, Paths, Nowhere, Then}
use Rattle.sql_meaning.specs.Orders.{same_site, same_collation}
use Rattle.sql_meaning.specs.Schemas.{IndexColumn}
use Rattle.sql_meaning.specs.OrderState.{column_site}

-- the terms of a column, each kind in the order in which they are tried
pub record ColumnTerms : Type 0 where
  pub column : Site
  pub equals : List Term
  pub lows : List Term
  pub highs : List Term

-- IS NULL, and a term on the rowid, may be used whatever the collation is
abbrev pub suits : Site → TermKind → Bool → Bool
suits AtRowid kind same = true
suits (AtColumn column) IsNothing same = true
suits (AtColumn column) (Equals key) same = same
suits (AtColumn column) (Within keys) same = same
suits (AtColumn column) (Low key inclusive) same = same
suits (AtColumn column) (High key inclusive) same = same

abbrev pub first_that : (Term → Bool) → List Term → Option Term
first_that p [] = None
first_that p (t ∷ ts) = cond (p t) (Some t) (first_that p ts)

abbrev pub terms_at : Site → List ColumnTerms → ColumnTerms
terms_at site [] = record { column = site; equals = []; lows = []; highs = [] }
terms_at site (c ∷ cs) = cond (same_site c.column site) c (terms_at site cs)

abbrev pub or_null_key : Option EqPart → EqPart
or_null_key None = NullKey
or_null_key (Some part) = part

-- the part of an equality term; no other is asked for one
abbrev pub part_or : TermKind → EqPart
part_or kind = or_null_key (part_of kind)

abbrev pub edge_or : TermKind → Option Edge
edge_or (Equals key) = None
edge_or (Within keys) = None
edge_or IsNothing = None
edge_or (Low key inclusive) = Some (record { key = key; inclusive = inclusive })
edge_or (High key inclusive) = Some (record { key = key; inclusive = inclusive })

abbrev pub edge_of : Option Term → Option Edge
edge_of None = None
edge_of (Some t) = edge_or t.kind

abbrev pub one_or_none : Option Term → List Term
one_or_none None = []
one_or_none (Some t) = t ∷ []

-- what a seek takes of the terms
pub record Taken : Type 0 where
  pub eqs : List EqPart
  pub low : Option Edge
  pub high : Option Edge
  pub used : List Term

abbrev pub nothing_taken : Taken
nothing_taken = record { eqs = []; low = None; high = None; used = [] }

abbrev pub take_bounds : Option Term → Option Term → Taken
take_bounds low high =
    record {
      eqs = [];
      low = edge_of low;
      high = edge_of high;
      used = one_or_none low ++ one_or_none high;
    }

abbrev pub take_equal : Option Term → Taken → Taken → Taken
take_equal (Some t) rest bounds =
    record {
      eqs = part_or t.kind ∷ rest.eqs;
      low = rest.low;
      high = rest.high;
      used = t ∷ rest.used;
    }
take_equal None rest bounds = bounds

abbrev pub fits_column : List ℕ → Option ℕ → IndexColumn → Term → Bool
fits_column placed alias c t =
    is_usable placed t
    && suits (column_site alias c.column) t.kind (same_collation t.collation c.collation)

-- for each column, from the first on, its first equality term that may be used, until a column has
-- none; then that column's first bounds that may be used
abbrev pub seek_terms : List ℕ → Option ℕ → List ColumnTerms → List IndexColumn → Taken
seek_terms placed alias columns [] = nothing_taken
seek_terms placed alias columns (c ∷ cs) =
    take_equal
    (first_that (fits_column placed alias c) (terms_at (column_site alias c.column) columns).equals)
    (seek_terms placed alias columns cs)
    (take_bounds
    (first_that (fits_column placed alias c) (terms_at (column_site alias c.column) columns).lows)
    (first_that (fits_column placed alias c) (terms_at (column_site alias c.column) columns).highs))

-- a path with the terms that it uses
pub record Seek : Type 0 where
  pub path : Path
  pub used : List Term

abbrev pub rowid_range : Option Term → Option Term → Option Seek
rowid_range None None = None
rowid_range (Some l) high =
    Some
    (record {
      path = RowidRange (edge_of (Some l)) (edge_of high);
      used = one_or_none (Some l) ++ one_or_none high;
    })
rowid_range None (Some h) =
    Some
    (record
    { path = RowidRange None (edge_of (Some h)); used = one_or_none None ++ one_or_none (Some h) })

abbrev pub rowid_equal : Option Term → Option Seek → Option Seek
rowid_equal (Some t) range = Some (record { path = RowidEq (part_or t.kind); used = t ∷ [] })
rowid_equal None range = range

-- a seek by rowid: by the first equality term of the rowid that may be used, else by its first
-- bounds
abbrev pub rowid_offer : List ℕ → List ColumnTerms → Option Seek
rowid_offer placed columns =
    rowid_equal (first_that (is_usable placed) (terms_at AtRowid columns).equals)
    (rowid_range (first_that (is_usable placed) (terms_at AtRowid columns).lows)
    (first_that (is_usable placed) (terms_at AtRowid columns).highs))

-- a seek by index, which needs a term at least
abbrev pub seek_of : ℕ → Taken → List Term → Option Seek
seek_of index taken [] = None
seek_of index taken (t ∷ ts) =
    Some (record { path = IndexSeek index taken.eqs taken.low taken.high; used = t ∷ ts })

abbrev pub seek_offer : List ℕ → Option ℕ → List ColumnTerms → ℕ → List IndexColumn → Option Seek
seek_offer placed alias columns index cs =
    seek_of index (seek_terms placed alias columns cs) (seek_terms placed alias columns cs).used

abbrev pub number_list : Option ℕ → List ℕ
number_list None = []
number_list (Some n) = n ∷ []

-- the conjuncts whose direct terms are used, rising and each once
abbrev pub consumed_of : List Term → List ℕ
consumed_of ts =
    keep_first (eq_by_cmp nat_cmp) [] (sort_by nat_cmp (flat_map (λ t. number_list t.conjunct) ts))

-- a union of one offer for each branch
abbrev pub paths_of : List Seek → Paths
paths_of [] = Nowhere
paths_of (o ∷ os) = Then o.path (paths_of os)

abbrev pub used_of : List Seek → List (List Term)
used_of os = map (λ o. o.used) os
