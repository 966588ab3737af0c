-- What a seek takes of the terms of a column.
use Rattle.std.specs.List.{AllByRecursion}
use Rattle.std.specs.Ordering.{nat_cmp, eq_by_cmp}
use Rattle.std.proofs.Common.{◌≡◌, Some, Bool, true, false, cond, List, ap, sym, ◌∙◌, subst, []}
use Rattle.std.proofs.Common.{◌∷◌, refl, ℕ, ◌⊎◌, inl, inr, Option, None, map, suc, slice_get}
use Rattle.list_laws.proofs.Lists.{all_append, all_flat_map}
use Rattle.list_laws.proofs.FirstComings.{all_keep}
use Rattle.list_laws.proofs.Bools.{and_left, and_right}
use Rattle.sql_meaning.specs.Paths.{Edge, KeyExpr}
use Rattle.sql_meaning.specs.Terms.{Low, High, Term, part_of, TermKind, Equals, Within}
use Rattle.sql_meaning.specs.Terms.{IsNothing, MayUse, Carries, EdgeFrom, LowFrom, HighFrom}
use Rattle.sql_meaning.specs.Choices.{ColumnTerms, part_or, edge_or, first_that, terms_at}
use Rattle.sql_meaning.specs.Choices.{suits, fits_column, Taken, edge_of, one_or_none}
use Rattle.sql_meaning.specs.Choices.{take_bounds, take_equal, seek_terms, number_list, consumed_of}
use Rattle.sql_meaning.specs.Rows.{Site, AtColumn, AtRowid}
use Rattle.sql_meaning.specs.Orders.{same_site, same_collation}
use Rattle.sql_meaning.specs.UsedTerms.{is_usable, AreUsable, AllOf, Consumes}
use Rattle.sql_meaning.specs.Values.{Collation}
use Rattle.sql_meaning.specs.Schemas.{IndexColumn}
use Rattle.sql_meaning.specs.OrderState.{is_alias, column_site}
use Rattle.sql_meaning.specs.IndexLists.{SortColumn}
use Rattle.sql_meaning.proofs.Terms.{some_is}
use Rattle.sql_meaning.proofs.TiedPositions.{site_is, collation_is}
use Rattle.sql_meaning.proofs.Rises.{spot_of, alias_is}
use Rattle.list_laws.proofs.SortedViews.{all_sort}

-- the terms of a column as they are listed: of the column, of the right kind, and each a term of
-- the item
pub record AreColumnTerms (P : Term → Type 0) (c : ColumnTerms) : Type 0 where
  pub equals : AllByRecursion
      (λ t. (t.column ≡ c.column) × (part_of t.kind ≡ Some (part_or t.kind)) × P t) c.equals
  pub lows : AllByRecursion
      (λ t. (t.column ≡ c.column)
      × ((e : Edge) × (edge_or t.kind ≡ Some e) × (t.kind ≡ Low e.key e.inclusive)) × P t) c.lows
  pub highs : AllByRecursion
      (λ t. (t.column ≡ c.column)
      × ((e : Edge) × (edge_or t.kind ≡ Some e) × (t.kind ≡ High e.key e.inclusive)) × P t) c.highs

first_case : (P : Term → Type 0) (p : Term → Bool) (t u : Term) (ts : List Term) → P t
    → (first_that p ts ≡ Some u → P u × (p u ≡ true)) → (b : Bool) → p t ≡ b
    → cond b (Some t) (first_that p ts) ≡ Some u → P u × (p u ≡ true)
first_case P p t u ts h ih true e f = let is = some_is t u f in (subst P is h, sym (ap p is) ∙ e)
first_case P p t u ts h ih false e f = ih f

pub first_is : (P : Term → Type 0) (p : Term → Bool) (ts : List Term) (u : Term)
    → AllByRecursion P ts
    → first_that p ts ≡ Some u → P u × (p u ≡ true)
first_is P p [] u h f = absurd (cc)
first_is P p (t ∷ ts) u h f = first_case P p t u ts h.0 (first_is P p ts u h.1) (p t) refl f

at_case : (P : Term → Type 0) (site : Site) (c : ColumnTerms) (rest : ColumnTerms)
    → AreColumnTerms P c → AreColumnTerms P rest × (rest.column ≡ site) → (b : Bool)
    → same_site c.column site ≡ b → AreColumnTerms P (cond b c rest)
    × ((cond b c rest).column ≡ site)
at_case P site c rest h r true e = (h, site_is c.column site e)
at_case P site c rest h r false e = r

pub at_is : (P : Term → Type 0) (site : Site) (cs : List ColumnTerms)
    → AllByRecursion (AreColumnTerms P) cs → AreColumnTerms P (terms_at site cs)
    × ((terms_at site cs).column ≡ site)
at_is P site [] h = (record { equals = tt; lows = tt; highs = tt }, refl)
at_is P site (c ∷ cs) h =
    at_case P site c (terms_at site cs) h.0 (at_is P site cs h.1) (same_site c.column site) refl

suits_case : (column : ℕ) (kind : TermKind) (a b : Collation)
    → suits (AtColumn column) kind (same_collation a b) ≡ true → (a ≡ b) ⊎ (kind ≡ IsNothing)
suits_case column IsNothing a b h = inr refl
suits_case column (Equals key) a b h = inl (collation_is a b h)
suits_case column (Within keys) a b h = inl (collation_is a b h)
suits_case column (Low key inclusive) a b h = inl (collation_is a b h)
suits_case column (High key inclusive) a b h = inl (collation_is a b h)

may_case : (alias : Option ℕ) (c : IndexColumn) (t : Term) (b : Bool) → is_alias alias c.column ≡ b
    → t.column ≡ cond b AtRowid (AtColumn c.column)
    → suits (cond b AtRowid (AtColumn c.column)) t.kind (same_collation t.collation c.collation)
    ≡ true
    → MayUse alias (spot_of c) t
may_case alias c t true e at h = inr (at, alias_is alias c.column e)
may_case alias c t false e at h = inl (at, suits_case c.column t.kind t.collation c.collation h)

-- a term that fits an index column may be used for it
may_use : (placed : List ℕ) (alias : Option ℕ) (c : IndexColumn) (t : Term)
    → t.column ≡ column_site alias c.column → fits_column placed alias c t ≡ true
    → MayUse alias (spot_of c) t
may_use placed alias c t at h =
    may_case alias c t (is_alias alias c.column) refl at (and_right (is_usable placed t) _ h)

-- what is taken: the path carries it, and each used term is usable and one of the item's
pub record IsTaken (P : Term → Type 0) (placed : List ℕ) (alias : Option ℕ) (ss : List SortColumn)
    (taken : Taken) : Type 0
  where
    pub carries : Carries alias ss taken.eqs taken.low taken.high taken.used
    pub usable : AreUsable placed taken.used
    pub terms : AllByRecursion P taken.used

-- a bound that is taken: the lower or the upper one
pub record IsBound (From : Option Edge → List Term → Type 0) (P : Term → Type 0)
    (placed : List ℕ) (bound : Option Term) : Type 0
  where
    pub is : From (edge_of bound) (one_or_none bound)
    pub usable : AreUsable placed (one_or_none bound)
    pub terms : AllByRecursion P (one_or_none bound)

pub bound_is : (kind : KeyExpr → Bool → TermKind) (P : Term → Type 0) (placed : List ℕ)
    (alias : Option ℕ) (s : SortColumn) (column : Site) (p : Term → Bool)
    → ((t : Term) → t.column ≡ column → p t ≡ true
    → MayUse alias s t × (is_usable placed t ≡ true))
    → (ts : List Term)
    → AllByRecursion
    (λ t. (t.column ≡ column)
    × ((e : Edge) × (edge_or t.kind ≡ Some e) × (t.kind ≡ kind e.key e.inclusive)) × P t) ts
    → (bound : Option Term) → first_that p ts ≡ bound
    → IsBound (EdgeFrom kind alias s) P placed bound
bound_is kind P placed alias s column p may ts h None f =
    record { is = refl; usable = tt; terms = tt }
bound_is kind P placed alias s column p may ts h (Some t) f =
    let r = first_is _ p ts t h f in
    let m = may t r.0.0 r.1 in
    record {
      is =
          subst (λ (o : Option Edge). EdgeFrom kind alias s o (t ∷ [])) (sym r.0.1.1)
          (t, refl, m.0, r.0.1.2);
      usable = (m.1, tt);
      terms = (r.0.2, tt);
    }

pub bounds_taken : (P : Term → Type 0) (placed : List ℕ) (alias : Option ℕ) (s : SortColumn)
    (ss : List SortColumn) (low high : Option Term)
    → IsBound (LowFrom alias s) P placed low → IsBound (HighFrom alias s) P placed high
    → IsTaken P placed alias (s ∷ ss) (take_bounds low high)
bounds_taken P placed alias s ss low high l h = record {
  carries = (one_or_none low, one_or_none high, refl, l.is, h.is);
  usable = all_append _ (one_or_none low) (one_or_none high) l.usable h.usable;
  terms = all_append _ (one_or_none low) (one_or_none high) l.terms h.terms;
}

equal_taken : (P : Term → Type 0) (placed : List ℕ) (alias : Option ℕ) (s : SortColumn)
    (ss : List SortColumn) (column : Site) (p : Term → Bool)
    → ((t : Term) → t.column ≡ column → p t ≡ true → MayUse alias s t × (is_usable placed t ≡ true))
    → (ts : List Term)
    → AllByRecursion (λ t. (t.column ≡ column) × (part_of t.kind ≡ Some (part_or t.kind)) × P t) ts
    → (rest bounds : Taken) → IsTaken P placed alias ss rest
    → IsTaken P placed alias (s ∷ ss) bounds → (equal : Option Term) → first_that p ts ≡ equal
    → IsTaken P placed alias (s ∷ ss) (take_equal equal rest bounds)
equal_taken P placed alias s ss column p may ts h rest bounds r b None f = b
equal_taken P placed alias s ss column p may ts h rest bounds r b (Some t) f =
    let q = first_is _ p ts t h f in
    let m = may t q.0.0 q.1 in
    record {
      carries = (m.0, q.0.1, r.carries);
      usable = (m.1, r.usable);
      terms = (q.0.2, r.terms);
    }

-- a seek carries the terms that it takes
pub seek_taken : (P : Term → Type 0) (placed : List ℕ) (alias : Option ℕ)
    (columns : List ColumnTerms)
    → AllByRecursion (AreColumnTerms P) columns → (cs : List IndexColumn)
    → IsTaken P placed alias (map spot_of cs) (seek_terms placed alias columns cs)
seek_taken P placed alias columns h [] = record { carries = refl; usable = tt; terms = tt }
seek_taken P placed alias columns h (c ∷ cs) =
    let here = at_is P (column_site alias c.column) columns h in
    let ct = terms_at (column_site alias c.column) columns in
    equal_taken P placed alias (spot_of c) (map spot_of cs) ct.column (fits_column placed alias c)
    (may here.1) ct.equals here.0.equals (seek_terms placed alias columns cs) _
    (seek_taken P placed alias columns h cs)
    (bounds_taken P placed alias (spot_of c) (map spot_of cs) _ _
    (bound_is Low P placed alias (spot_of c) ct.column (fits_column placed alias c)
    (may here.1) ct.lows here.0.lows _ refl)
    (bound_is High P placed alias (spot_of c) ct.column (fits_column placed alias c)
    (may here.1) ct.highs here.0.highs _ refl))
    (first_that (fits_column placed alias c) ct.equals) refl
  where
    may : (terms_at (column_site alias c.column) columns).column ≡ column_site alias c.column
        → (t : Term) → t.column ≡ (terms_at (column_site alias c.column) columns).column
        → fits_column placed alias c t ≡ true
        → MayUse alias (spot_of c) t × (is_usable placed t ≡ true)
    may is t at f = (
      may_use placed alias c t (at ∙ is) f,
      and_left _
          (suits (column_site alias c.column) t.kind (same_collation t.collation c.collation)) f,
    )

-- the conjuncts of the used terms
pub consumed_terms : (ts : List Term) → AllByRecursion (Consumes (AllOf ts)) (consumed_of ts)
consumed_terms ts =
    all_keep (eq_by_cmp nat_cmp) _ _ []
    (all_sort _ nat_cmp _ (all_flat_map _ (λ t. number_list t.conjunct) ts (from_at ts)))
  where
    numbers : (us : List Term) (k : ℕ) (t : Term) (o : Option ℕ) → slice_get us k ≡ Some t
        → t.conjunct ≡ o → AllByRecursion (Consumes (AllOf us)) (number_list o)
    numbers us k t None e f = tt
    numbers us k t (Some n) e f = ((k, t, e, f), tt)

    all_from : (us : List Term) (P : Term → Type 0)
        → ((k : ℕ) (t : Term) → slice_get us k ≡ Some t → P t) → AllByRecursion P us
    all_from [] P f = tt
    all_from (u ∷ us) P f = (f 0 u refl, all_from us P (λ k t e. f (suc k) t e))

    from_at : (us : List Term)
        → AllByRecursion (λ t. AllByRecursion (Consumes (AllOf us)) (number_list t.conjunct)) us
    from_at us = all_from us _ (λ k t e. numbers us k t t.conjunct e refl)
