-- The columns of terms are columns of the item's table.
use Rattle.std.proofs.Common.{◌≡◌, ◌≢◌, ◌<◌, ◌+◌, ℕ, List, [], ◌∷◌, ◌++◌}
use Rattle.std.proofs.Common.{Option, Some, None, refl, ap, sym, ◌∙◌, subst, map, add-zero, slice_get}
use Rattle.std.proofs.Common.{inl, inr, arith}
use Rattle.std.specs.List.{AllByRecursion, filter, flat_map}
use Rattle.list_laws.proofs.Lists.{all_map, all_append, all_flat_map, all_filter, all_mapped}
use Rattle.list_laws.proofs.Lists.{all_both}
use Rattle.sql_meaning.specs.Values.{Collation}
use Rattle.sql_meaning.specs.Rows.{Site, AtRowid, AtColumn}
use Rattle.sql_meaning.specs.Schemas.{Schema}
use Rattle.sql_meaning.specs.Items.{Item, own_column}
use Rattle.sql_meaning.specs.Expressions.{BExpr, BExprs, Lit, Param, Column, Rowid, Plus, Collate}
use Rattle.sql_meaning.specs.Expressions.{Cmp, OneOf, Like, IsNull, Not, All, Any, Nil, More, flat}
use Rattle.sql_meaning.specs.Expressions.{flat_all, ColumnRef, plain_column, bare_column}
use Rattle.sql_meaning.specs.Paths.{KeyExpr}
use Rattle.sql_meaning.specs.Statements.{Bound, Conjunct, numbers_from}
use Rattle.sql_meaning.specs.Terms.{Term, TermKind, Equals, Serves, ComparisonServes, AreEqualities}
use Rattle.sql_meaning.specs.UsedTerms.{IsDirect}
use Rattle.sql_meaning.specs.Choices.{ColumnTerms}
use Rattle.sql_meaning.specs.Serving.{Served, serving, numbered_term}
use Rattle.sql_meaning.specs.TermLists.{own_terms, branch_own, item_terms, branch_terms, all_sites}
use Rattle.sql_meaning.specs.TermLists.{column_terms, branch_column, has_term}
use Rattle.sql_meaning.proofs.Choices.{AreColumnTerms}
use Rattle.sql_meaning.proofs.Links.{all_at}
use Rattle.sql_meaning.proofs.ListedTerms.{item_terms_are}
use Rattle.sql_meaning.proofs.BranchTerms.{branch_terms_are}
use Rattle.sql_meaning.proofs.Serving.{serving_is, direct_are}
use Rattle.plan_choice.specs.Scans.{by_appearance, is_derived}
use Rattle.plan_choice.proofs.SoundLevels.{numbers_below}
use Rattle.sql_bound.specs.Fits.{NamesExist, AllNamesExist, IsSound, Fits, width}

abbrev pub IsSiteIn : ℕ → Site → Type 0
IsSiteIn width AtRowid = Unit {0}
IsSiteIn width (AtColumn column) = column < width

abbrev pub IsTermIn : ℕ → Term → Type 0
IsTermIn width t = IsSiteIn width t.column

abbrev IsRefIn : Schema → List Item → ColumnRef → Type 0
IsRefIn schema items c = IsSiteIn (width schema items c.item) c.site

same_ref : (schema : Schema) (items : List Item) (c d : ColumnRef) → Some c ≡ Some d
    → IsRefIn schema items c → IsRefIn schema items d
same_ref schema items c d e h = let same : c ≡ d = cc in subst (IsRefIn schema items) same h

plain_in : (schema : Schema) (items : List Item) (e : BExpr) (c : ColumnRef)
    → NamesExist schema items e → plain_column e ≡ Some c → IsRefIn schema items c
plain_in schema items (Column item column) c h e =
    same_ref schema items (record { item = item; site = AtColumn column }) c e h.1
plain_in schema items (Rowid item) c h e =
    same_ref schema items (record { item = item; site = AtRowid }) c e tt
plain_in schema items (Lit v) c h e = absurd (cc)
plain_in schema items (Param n) c h e = absurd (cc)
plain_in schema items (Plus x) c h e = absurd (cc)
plain_in schema items (Collate x collation) c h e = absurd (cc)
plain_in schema items (Cmp op l r lc rc collation) c h e = absurd (cc)
plain_in schema items (OneOf n l es ec collation) c h e = absurd (cc)
plain_in schema items (Like n x pattern) c h e = absurd (cc)
plain_in schema items (IsNull n x) c h e = absurd (cc)
plain_in schema items (Not x) c h e = absurd (cc)
plain_in schema items (All es) c h e = absurd (cc)
plain_in schema items (Any es) c h e = absurd (cc)

-- the column that an expression is stands in its item's table
pub bare_in : (schema : Schema) (items : List Item) (e : BExpr) (c : ColumnRef)
    → NamesExist schema items e → bare_column e ≡ Some c → IsRefIn schema items c
bare_in schema items (Collate x collation) c h e = plain_in schema items x c h e
bare_in schema items (Column item column) c h e = plain_in schema items (Column item column) c h e
bare_in schema items (Rowid item) c h e = plain_in schema items (Rowid item) c h e
bare_in schema items (Lit v) c h e = absurd (cc)
bare_in schema items (Param n) c h e = absurd (cc)
bare_in schema items (Plus x) c h e = absurd (cc)
bare_in schema items (Cmp op l r lc rc collation) c h e = absurd (cc)
bare_in schema items (OneOf n l es ec collation) c h e = absurd (cc)
bare_in schema items (Like n x pattern) c h e = absurd (cc)
bare_in schema items (IsNull n x) c h e = absurd (cc)
bare_in schema items (Not x) c h e = absurd (cc)
bare_in schema items (All es) c h e = absurd (cc)
bare_in schema items (Any es) c h e = absurd (cc)

comparison_in : (schema : Schema) (items : List Item) (item : ℕ) (site : Site)
    (collation : Collation) (kind : TermKind) (e : BExpr)
    → NamesExist schema items e → ComparisonServes item site collation kind e
    → IsSiteIn (width schema items item) site
comparison_in schema items item site collation kind (Cmp op left right lc rc c) h (same, inl s) =
    bare_in schema items left (record { item = item; site = site }) h.0 s.is_column
comparison_in schema items item site collation kind (Cmp op left right lc rc c) h (same, inr s) =
    bare_in schema items right (record { item = item; site = site }) h.1 s.is_column
comparison_in schema items item site collation kind e h s = absurd s

equalities_in : (schema : Schema) (items : List Item) (item : ℕ) (site : Site)
    (collation : Collation) (es : BExprs) (keys : List KeyExpr)
    → AllNamesExist schema items es → keys ≢ [] → AreEqualities item site collation es keys
    → IsSiteIn (width schema items item) site
equalities_in schema items item site collation Nil [] h some s = absurd (some refl)
equalities_in schema items item site collation Nil (key ∷ keys) h some s = absurd s
equalities_in schema items item site collation (More e es) [] h some s = absurd s
equalities_in schema items item site collation (More e es) (key ∷ keys) h some s =
    comparison_in schema items item site collation (Equals key) e h.0 s.0

serves_in : (schema : Schema) (items : List Item) (item : ℕ) (site : Site)
    (collation : Collation) (kind : TermKind) (e : BExpr)
    → NamesExist schema items e → Serves item site collation kind e
    → IsSiteIn (width schema items item) site
serves_in schema items item site collation kind (Cmp op left right lc rc c) h s =
    comparison_in schema items item site collation kind (Cmp op left right lc rc c) h s
serves_in schema items item site collation kind (OneOf negated left entries ec c) h s =
    bare_in schema items left (record { item = item; site = site }) h.0 s.2.is_column
serves_in schema items item site collation kind (IsNull negated e) h s =
    bare_in schema items e (record { item = item; site = site }) h s.1
serves_in schema items item site collation kind (Any es) h s =
    equalities_in schema items item site collation es s.keys h s.some s.equalities
serves_in schema items item site collation kind e h s = absurd s

-- direct terms
pub own_in : (schema : Schema) (bound : Bound) (needs : List (List ℕ)) (item : ℕ)
    → Fits schema bound needs
    → AllByRecursion (IsTermIn (width schema bound.items item)) (own_terms schema bound item)
own_in schema bound needs item fits =
    all_map (IsDirect bound item) (IsTermIn (width schema bound.items item))
    (own_terms schema bound item)
    (λ t d. serves_in schema bound.items item t.column t.collation t.kind d.conjunct.expr
    (all_at (λ c. IsSound schema bound.items c.expr) bound.conjuncts d.number d.conjunct
    fits.conjuncts d.is).names d.serves)
    (direct_are
    (λ site. (own_column schema bound.items (record { item = item; site = site })).collation) bound
    item 0 bound.conjuncts (λ k c e. ap (slice_get bound.conjuncts) (add-zero k) ∙ e))

mutual
  flat_in : (schema : Schema) (items : List Item) (e : BExpr) → NamesExist schema items e
      → AllByRecursion (NamesExist schema items) (flat e)
  flat_in schema items (All es) h = flat_all_in schema items es h
  flat_in schema items (Lit v) h = (h, tt)
  flat_in schema items (Param n) h = (h, tt)
  flat_in schema items (Column i n) h = (h, tt)
  flat_in schema items (Rowid i) h = (h, tt)
  flat_in schema items (Plus e) h = (h, tt)
  flat_in schema items (Collate e collation) h = (h, tt)
  flat_in schema items (Cmp op l r lc rc collation) h = (h, tt)
  flat_in schema items (OneOf n l es ec collation) h = (h, tt)
  flat_in schema items (Like n e pattern) h = (h, tt)
  flat_in schema items (IsNull n e) h = (h, tt)
  flat_in schema items (Not e) h = (h, tt)
  flat_in schema items (Any es) h = (h, tt)

  flat_all_in : (schema : Schema) (items : List Item) (es : BExprs)
      → AllNamesExist schema items es → AllByRecursion (NamesExist schema items) (flat_all es)
  flat_all_in schema items Nil h = tt
  flat_all_in schema items (More e es) h =
      all_append (NamesExist schema items) (flat e) (flat_all es) (flat_in schema items e h.0)
      (flat_all_in schema items es h.1)

numbered_in : (schema : Schema) (items : List Item) (item number : ℕ) (own : Site → Collation)
    (e : BExpr) (o : Option Served) → NamesExist schema items e → serving own item e ≡ o
    → AllByRecursion (IsTermIn (width schema items item)) (numbered_term number o)
numbered_in schema items item number own e None h f = tt
numbered_in schema items item number own e (Some s) h f =
    (serves_in schema items item s.site s.collation s.kind e h (serving_is own item e s f), tt)

pub branch_own_in : (schema : Schema) (bound : Bound) (item number : ℕ) (e : BExpr)
    → NamesExist schema bound.items e
    → AllByRecursion (IsTermIn (width schema bound.items item))
    (branch_own schema bound item number (flat e))
branch_own_in schema bound item number e h =
    let own : Site → Collation =
    λ site. (own_column schema bound.items (record { item = item; site = site })).collation in
    all_flat_map (IsTermIn (width schema bound.items item))
    (λ x. numbered_term number (serving own item x)) (flat e)
    (all_map (NamesExist schema bound.items)
    (λ x. AllByRecursion (IsTermIn (width schema bound.items item))
    (numbered_term number (serving own item x))) (flat e)
    (λ x k. numbered_in schema bound.items item number own x (serving own item x) k refl)
    (flat_in schema bound.items e h))

-- terms that stand by column
abbrev all_of : ColumnTerms → List Term
all_of c = c.equals ++ (c.lows ++ c.highs)

column_in : (P : Term → Type 0) (width : ℕ) (c : ColumnTerms) → AreColumnTerms P c
    → IsSiteIn width c.column → AllByRecursion (IsTermIn width) (all_of c)
column_in P width c are h =
    all_append (IsTermIn width) c.equals (c.lows ++ c.highs)
    (all_map _ (IsTermIn width) c.equals (λ t k. subst (IsSiteIn width) (sym k.0) h) are.equals)
    (all_append (IsTermIn width) c.lows c.highs
    (all_map _ (IsTermIn width) c.lows (λ t k. subst (IsSiteIn width) (sym k.0) h) are.lows)
    (all_map _ (IsTermIn width) c.highs (λ t k. subst (IsSiteIn width) (sym k.0) h) are.highs))

columns_in : (P : Term → Type 0) (width : ℕ) (cs : List ColumnTerms)
    → AllByRecursion (AreColumnTerms P) cs → AllByRecursion (λ c. IsSiteIn width c.column) cs
    → AllByRecursion (IsTermIn width) (flat_map all_of cs)
columns_in P width cs are h =
    all_flat_map (IsTermIn width) all_of cs
    (all_both (AreColumnTerms P) (λ c. IsSiteIn width c.column)
    (λ c. AllByRecursion (IsTermIn width) (all_of c)) cs
    (λ c k l. column_in P width c k l) are h)

sites_in : (schema : Schema) (bound : Bound) (item : ℕ)
    → AllByRecursion (IsSiteIn (width schema bound.items item)) (all_sites schema bound item)
sites_in schema bound item =
    let n = width schema bound.items item in (
      tt,
      all_mapped (IsSiteIn n) AtColumn (numbers_from 0 n)
          (all_map (λ i. i < 0 + n) (λ i. i < n) (numbers_from 0 n) (λ i h. omega (arith, h))
          (numbers_below 0 n)),
    )

pub item_terms_in : (schema : Schema) (bound : Bound) (item : ℕ)
    → AllByRecursion (IsTermIn (width schema bound.items item))
    (flat_map all_of (item_terms schema bound item))
item_terms_in schema bound item =
    columns_in _ (width schema bound.items item) (item_terms schema bound item)
    (item_terms_are schema bound item)
    (all_filter _ has_term (map (column_terms schema bound item) (all_sites schema bound item))
    (all_mapped (λ c. IsSiteIn (width schema bound.items item) c.column)
    (column_terms schema bound item) (all_sites schema bound item) (sites_in schema bound item)))

pub branch_terms_in : (schema : Schema) (bound : Bound) (c : Conjunct) (item number : ℕ)
    (e : BExpr)
    → AllByRecursion (IsTermIn (width schema bound.items item))
    (flat_map all_of (branch_terms schema bound c item number e))
branch_terms_in schema bound c item number e =
    columns_in _ (width schema bound.items item) (branch_terms schema bound c item number e)
    (branch_terms_are schema bound c item number e)
    (all_filter _ has_term
    (map (branch_column schema bound c item number (flat e)) (all_sites schema bound item))
    (all_mapped (λ k. IsSiteIn (width schema bound.items item) k.column)
    (branch_column schema bound c item number (flat e)) (all_sites schema bound item)
    (sites_in schema bound item)))

-- all together
pub appearing_in : (width : ℕ) (direct : List Term) (cs : List ColumnTerms)
    → AllByRecursion (IsTermIn width) direct
    → AllByRecursion (IsTermIn width) (flat_map all_of cs)
    → AllByRecursion (IsTermIn width) (by_appearance direct cs)
appearing_in width direct cs h k =
    all_append (IsTermIn width) direct (filter is_derived (flat_map all_of cs)) h
    (all_filter (IsTermIn width) is_derived (flat_map all_of cs) k)
