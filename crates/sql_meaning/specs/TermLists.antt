-- The terms of an item, as lists: direct ones, derived ones, and those of the branches of an OR.
use Rattle.std.specs.Prelude.{Bool, ◌&&◌, ◌==◌, ℕ, cond, not, List, [], ◌∷◌, Option, Some, None}
use Rattle.std.specs.Prelude.{false, ◌||◌, zero, suc, ◌+◌, length, ◌++◌, true, map, slice_get, ◌≡◌}
use Rattle.std.specs.Prelude.{◌⊎◌}
use Rattle.std.specs.List.{flat_map, filter}
use Rattle.std.specs.declared.cmp.Ordering.{Ordering}
use Rattle.std.specs.Ordering.{nat_cmp, on, then_cmp, eq_by_cmp}
use Rattle.list_laws.specs.Order.{sort_by}
use Rattle.list_laws.specs.FirstComing.{keep_first}
use Rattle.sql_meaning.specs.Expressions.{ColumnRef, IsEqual, BExpr, Cmp, bare_column, names}
use Rattle.sql_meaning.specs.Expressions.{ref_expr, flat, BExprs, Nil, More, Any}
use Rattle.sql_meaning.specs.Orders.{same_site, same_collation}
use Rattle.sql_meaning.specs.Values.{Collation}
use Rattle.sql_meaning.specs.Schemas.{Schema, columns_of}
use Rattle.sql_meaning.specs.Items.{Item, own_column}
use Rattle.sql_meaning.specs.Rows.{Site, AtRowid, AtColumn}
use Rattle.sql_meaning.specs.Paths.{KeyExpr}
use Rattle.sql_meaning.specs.Terms.{Equals, Term, TermKind, Within, IsNothing, Low, High}
use Rattle.sql_meaning.specs.Statements.{is_empty, Bound, exprs_of, numbers_from, table_of}
use Rattle.sql_meaning.specs.Statements.{Conjunct, item_alias}
use Rattle.sql_meaning.specs.Serving.{key_under, comparison_served, direct_terms, serving}
use Rattle.sql_meaning.specs.Serving.{numbered_term, Served, or_served, first_served}
use Rattle.sql_meaning.specs.Conjuncts.{may_derive, may_serve}
use Rattle.sql_meaning.specs.OrderState.{columns_at}
use Rattle.sql_meaning.specs.Fitting.{IsIndexOf}
use Rattle.sql_meaning.specs.Links.{affinity_class}
use Rattle.sql_meaning.specs.LikeTerms.{like_terms}
use Rattle.sql_meaning.specs.Choices.{ColumnTerms, Seek, rowid_offer, seek_offer}

abbrev pub same_ref : ColumnRef → ColumnRef → Bool
same_ref c d = (c.item == d.item) && same_site c.site d.site

pub record Pair : Type 0 where
  pub first : ColumnRef
  pub second : ColumnRef

-- the comparison is one that both columns own, and their affinities are of one class
abbrev pub owns_link : Schema → List Item → ColumnRef → ColumnRef → Collation → Bool
owns_link schema items c d collation =
    not (c.item == d.item)
    && (same_collation (own_column schema items c).collation collation
    && (same_collation (own_column schema items d).collation collation
    && (affinity_class (own_column schema items c).affinity
    == affinity_class (own_column schema items d).affinity)))

-- the two columns that a comparison links
abbrev pub pair_of : Schema → List Item → Option ColumnRef → Option ColumnRef → Collation
    → List Pair
pair_of schema items None d collation = []
pair_of schema items (Some c) None collation = []
pair_of schema items (Some c) (Some d) collation =
    cond (owns_link schema items c d collation) (record { first = c; second = d } ∷ []) []

abbrev pub link_pair : Schema → List Item → BExpr → List Pair
link_pair schema items (Cmp IsEqual left right left_conversion right_conversion collation) =
    pair_of schema items (bare_column left) (bare_column right) collation
link_pair schema items e = []

abbrev pub has_ref : ColumnRef → List ColumnRef → Bool
has_ref c [] = false
has_ref c (d ∷ ds) = same_ref d c || has_ref c ds

abbrev pub touches : ColumnRef → Pair → Bool
touches c p = same_ref c p.first || same_ref c p.second

abbrev pub other_end : ColumnRef → Pair → ColumnRef
other_end c p = cond (same_ref c p.first) p.second p.first

-- the columns that links join with those that are to be visited, in the order of the visits: what
-- links join with a column is to be visited next, and no link is gone along twice
abbrev pub visits : ℕ → List ColumnRef → List Pair → List ColumnRef
visits zero next ps = []
visits (suc n) [] ps = []
visits (suc n) (c ∷ next) ps =
    c
    ∷ visits n (map (other_end c) (filter (touches c) ps) ++ next)
    (filter (λ p. not (touches c p)) ps)

abbrev pub link_pairs : Schema → List Item → List BExpr → List Pair
link_pairs schema items es = flat_map (link_pair schema items) es

abbrev pub site_number : Site → ℕ
site_number AtRowid = 0
site_number (AtColumn column) = column + 1

-- by item, then by column, the rowid first
abbrev pub ref_cmp : ColumnRef → ColumnRef → Ordering
ref_cmp = then_cmp (on (λ c. c.item) nat_cmp) (on (λ c. site_number c.site) nat_cmp)

-- from a column there is one visit more than links at most
abbrev pub visited : ColumnRef → List Pair → List ColumnRef
visited c ps = visits (suc (length ps)) (c ∷ []) ps

-- the columns that are linked with c but c itself, by item and column, each once
abbrev pub linked_to : Schema → List Item → List BExpr → ColumnRef → List ColumnRef
linked_to schema items es c =
    keep_first (eq_by_cmp ref_cmp) []
    (sort_by ref_cmp
    (filter (λ d. not (same_ref d c)) (visited c (link_pairs schema items es))))

abbrev pub derived_term : Schema → List Item → ColumnRef → KeyExpr → Term
derived_term schema items c key =
    record {
      column = c.site;
      conjunct = None;
      collation = (own_column schema items c).collation;
      kind = Equals key;
    }

abbrev pub key_term : Schema → List Item → ColumnRef → Option KeyExpr → List Term
key_term schema items c None = []
key_term schema items c (Some key) =
    cond (is_empty (names key.expr)) (derived_term schema items c key ∷ []) []

abbrev pub column_term : Schema → List Item → ℕ → ColumnRef → ColumnRef → List Term
column_term schema items item c d =
    cond (d.item == item) []
    (derived_term schema items c (record { expr = ref_expr d; conversion = None }) ∷ [])

-- the equalities that follow for a column of the columns that are linked with it: `c = e` by
-- conjunct number, then `c = d` by item and column
abbrev pub derived_along : Schema → List Item → List BExpr → ℕ → ColumnRef → List ColumnRef
    → List Term
derived_along schema items es item c linked =
    flat_map
    (λ e. flat_map
    (λ d. key_term schema items c
    (key_under d.site (own_column schema items c).collation (comparison_served d.item e)))
    linked) es
    ++ flat_map (column_term schema items item c) linked

abbrev pub derived_terms : Schema → List Item → List BExpr → ℕ → ColumnRef → List Term
derived_terms schema items es item c =
    derived_along schema items es item c (linked_to schema items es c)

abbrev pub is_equal : TermKind → Bool
is_equal (Equals key) = true
is_equal (Within keys) = false
is_equal IsNothing = true
is_equal (Low key inclusive) = false
is_equal (High key inclusive) = false

abbrev pub is_within : TermKind → Bool
is_within (Within keys) = true
is_within kind = false

abbrev pub is_low : TermKind → Bool
is_low (Low key inclusive) = true
is_low kind = false

abbrev pub is_high : TermKind → Bool
is_high (High key inclusive) = true
is_high kind = false

abbrev pub of_kind : (TermKind → Bool) → Site → List Term → List Term
of_kind test site ts = filter (λ t. same_site t.column site && test t.kind) ts

abbrev pub own_terms : Schema → Bound → ℕ → List Term
own_terms schema bound item =
    direct_terms
    (λ site. (own_column schema bound.items (record { item = item; site = site })).collation) bound
    item 0 bound.conjuncts

-- the bounds that follow from LIKEs, by conjunct number
abbrev pub own_likes : Schema → Bound → ℕ → List Term
own_likes schema bound item =
    flat_map (λ c. like_terms schema bound.items item c.expr)
    (filter (may_serve bound item) bound.conjuncts)

-- of equality terms `=` and IS NULL come first, then derived ones, then IN; of bounds the direct
-- ones, then those of a LIKE
abbrev pub gathered : Site → List Term → List Term → List Term → ColumnTerms
gathered site own derived likes = record {
  column = site;
  equals = of_kind is_equal site own ++ (derived ++ of_kind is_within site own);
  lows = of_kind is_low site own ++ of_kind is_low site likes;
  highs = of_kind is_high site own ++ of_kind is_high site likes;
}

abbrev pub column_terms : Schema → Bound → ℕ → Site → ColumnTerms
column_terms schema bound item site =
    gathered site (own_terms schema bound item)
    (derived_terms schema bound.items (exprs_of (filter (may_derive bound item) bound.conjuncts))
    item (record { item = item; site = site }))
    (own_likes schema bound item)

abbrev pub all_sites : Schema → Bound → ℕ → List Site
all_sites schema bound item =
    AtRowid
    ∷ map AtColumn
    (numbers_from 0
    (length (columns_of (slice_get schema.tables (table_of (slice_get bound.items item))))))

abbrev pub has_term : ColumnTerms → Bool
has_term c = not (length (c.equals ++ (c.lows ++ c.highs)) == 0)

-- the terms of an item, for each column that has one
abbrev pub item_terms : Schema → Bound → ℕ → List ColumnTerms
item_terms schema bound item =
    filter has_term (map (column_terms schema bound item) (all_sites schema bound item))

-- the direct terms of a branch of an OR, from the conjuncts of that branch alone; all have the
-- number of the OR
abbrev pub branch_own : Schema → Bound → ℕ → ℕ → List BExpr → List Term
branch_own schema bound item number es =
    flat_map
    (λ e. numbered_term number
    (serving
    (λ site. (own_column schema bound.items (record { item = item; site = site })).collation) item
    e)) es

abbrev pub branch_likes : Schema → Bound → ℕ → List BExpr → List Term
branch_likes schema bound item es = flat_map (like_terms schema bound.items item) es

abbrev pub derived_if : Bool → List Term → List Term
derived_if true ts = ts
derived_if false ts = []

abbrev pub branch_column : Schema → Bound → Conjunct → ℕ → ℕ → List BExpr → Site → ColumnTerms
branch_column schema bound c item number es site =
    gathered site (branch_own schema bound item number es)
    (derived_if (may_derive bound item c)
    (derived_terms schema bound.items es item (record { item = item; site = site })))
    (branch_likes schema bound item es)

abbrev pub branch_terms : Schema → Bound → Conjunct → ℕ → ℕ → BExpr → List ColumnTerms
branch_terms schema bound c item number e =
    filter has_term
    (map (branch_column schema bound c item number (flat e)) (all_sites schema bound item))

-- an OR with the terms of each of its branches
pub record OrTerm : Type 0 where
  pub conjunct : ℕ
  pub branches : List (List ColumnTerms)

abbrev pub if_each_has_terms : List ColumnTerms → Option (List (List ColumnTerms))
    → Option (List (List ColumnTerms))
if_each_has_terms terms None = None
if_each_has_terms terms (Some others) =
    cond (not (length terms == 0)) (Some (terms ∷ others)) None

abbrev pub terms_of_branches : Schema → Bound → Conjunct → ℕ → ℕ → BExprs
    → Option (List (List ColumnTerms))
terms_of_branches schema bound c item number Nil = Some []
terms_of_branches schema bound c item number (More e es) =
    if_each_has_terms (branch_terms schema bound c item number e)
    (terms_of_branches schema bound c item number es)

abbrev pub or_term : ℕ → Option (List (List ColumnTerms)) → List OrTerm
or_term number None = []
or_term number (Some branches) = record { conjunct = number; branches = branches } ∷ []

abbrev pub unless_served : Option Served → List OrTerm → List OrTerm
unless_served None terms = terms
unless_served (Some served) terms = []

-- an OR is an OR term of the item where it is no IN term of it and each branch has a term
abbrev pub or_terms_of : Schema → Bound → Conjunct → ℕ → ℕ → BExpr → List OrTerm
or_terms_of schema bound c item number (Any es) =
    unless_served (or_served item es (first_served item es))
    (or_term number (terms_of_branches schema bound c item number es))
or_terms_of schema bound c item number e = []

abbrev pub or_terms_from : Schema → Bound → ℕ → ℕ → List Conjunct → List OrTerm
or_terms_from schema bound item number [] = []
or_terms_from schema bound item number (c ∷ cs) =
    cond (may_serve bound item c) (or_terms_of schema bound c item number c.expr) []
    ++ or_terms_from schema bound item (suc number) cs

-- the OR terms of an item, by conjunct number
abbrev pub or_terms : Schema → Bound → ℕ → List OrTerm
or_terms schema bound item = or_terms_from schema bound item 0 bound.conjuncts

-- the terms of an item, column by column, and its OR terms
pub record ItemTerms : Type 0 where
  pub columns : List ColumnTerms
  pub ors : List OrTerm

abbrev pub terms_of_item : Schema → Bound → ℕ → ItemTerms
terms_of_item schema bound item =
    record { columns = item_terms schema bound item; ors = or_terms schema bound item }

-- for each item of the statement
abbrev pub terms_of : Schema → Bound → List ItemTerms
terms_of schema bound = map (terms_of_item schema bound) (numbers_from 0 (length bound.items))

-- the offer is a seek with the terms of this branch alone: by rowid, or by an index of the table
abbrev pub OffersBranch : Schema → Bound → Conjunct → List ℕ → ℕ → ℕ → BExpr → Seek → Type 0
OffersBranch schema bound c placed item number e o =
    (rowid_offer placed (branch_terms schema bound c item number e) ≡ Some o)
    ⊎ ((index : ℕ) × IsIndexOf schema (table_of (slice_get bound.items item)) index
    × (seek_offer placed (item_alias schema bound item)
    (branch_terms schema bound c item number e) index
    (columns_at (slice_get schema.indexes index)) ≡ Some o))

-- an offer for each branch of an OR
abbrev pub OffersBranches : Schema → Bound → Conjunct → List ℕ → ℕ → ℕ → BExprs → List Seek
    → Type 0
OffersBranches schema bound c placed item number Nil [] = Unit {0}
OffersBranches schema bound c placed item number Nil (o ∷ os) = ⊥
OffersBranches schema bound c placed item number (More e es) [] = ⊥
OffersBranches schema bound c placed item number (More e es) (o ∷ os) =
    OffersBranch schema bound c placed item number e o
    × OffersBranches schema bound c placed item number es os
