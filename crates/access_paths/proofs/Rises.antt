-- The columns that have a term stand in order.
use Rattle.std.proofs.Common.{◌≡◌, ◌<◌, ◌≤◌, ◌+◌, ℕ, zero, suc, Bool, true, false, cond, List, []}
use Rattle.std.proofs.Common.{◌∷◌, map, arith, subst, sym, length, slice_get, refl}
use Rattle.std.specs.List.{AllByRecursion, filter}
use Rattle.list_laws.proofs.Lists.{all_map, all_filter}
use Rattle.sql_meaning.specs.Rows.{Site, AtRowid, AtColumn}
use Rattle.sql_meaning.specs.Schemas.{Schema, columns_of}
use Rattle.sql_meaning.specs.Expressions.{BExpr, BExprs, Nil, More, flat}
use Rattle.sql_meaning.specs.Statements.{Bound, Conjunct, numbers_from, table_of}
use Rattle.sql_meaning.specs.Choices.{ColumnTerms}
use Rattle.sql_meaning.specs.TermLists.{site_number, has_term, item_terms, column_terms, or_terms}
use Rattle.sql_meaning.specs.TermLists.{branch_terms, branch_column}
use Rattle.sql_meaning.specs.TermLaws.{AreTermsOfBranches, IsListedOr}
use Rattle.sql_meaning.proofs.OrTerms.{or_terms_are_of_conjuncts}
use Rattle.access_paths.specs.Supplies.{RisesBySite}

kept : (p : ColumnTerms → Bool) (c : ColumnTerms) (cs : List ColumnTerms) (b : Bool)
    → AllByRecursion (λ d. site_number c.column < site_number d.column) cs
    → RisesBySite (filter p cs) → RisesBySite (cond b (c ∷ filter p cs) (filter p cs))
kept p c cs true h rest =
    (all_filter (λ d. site_number c.column < site_number d.column) p cs h, rest)
kept p c cs false h rest = rest

filter_rises : (p : ColumnTerms → Bool) (cs : List ColumnTerms) → RisesBySite cs
    → RisesBySite (filter p cs)
filter_rises p [] h = tt
filter_rises p (c ∷ cs) h = kept p c cs (p c) h.0 (filter_rises p cs h.1)

module _ (f : Site → ColumnTerms) (own : (site : Site) → (f site).column ≡ site) where
  abbrev Above : ℕ → List ColumnTerms → Type 0
  Above number cs = AllByRecursion (λ d. number < site_number d.column) cs

  behind : (number : ℕ) (site : Site) (cs : List ColumnTerms) → site_number site ≤ number
      → Above number cs → AllByRecursion (λ d. site_number (f site).column < site_number d.column) cs
  behind number site cs low h =
      subst
      (λ (s : Site). AllByRecursion (λ d. site_number s < site_number d.column) cs)
      (sym (own site))
      (all_map (λ d. number < site_number d.column) (λ d. site_number site < site_number d.column)
      cs (λ d l. omega (arith, l)) h)

  numbers_rise : (start n : ℕ)
      → RisesBySite (map f (map AtColumn (numbers_from start n)))
      × Above start (map f (map AtColumn (numbers_from start n)))
  numbers_rise start zero = (tt, tt)
  numbers_rise start (suc n) =
      let rest = numbers_rise (start + 1) n in
      let cs = map f (map AtColumn (numbers_from (start + 1) n)) in (
        (behind (start + 1) (AtColumn start) cs (omega arith) rest.1, rest.0),
        (
          subst (λ (s : Site). start < site_number s) (sym (own (AtColumn start))) (omega arith),
          all_map (λ d. start + 1 < site_number d.column) (λ d. start < site_number d.column) cs
              (λ d l. omega (arith, l)) rest.1,
        ),
      )

  sites_rise : (n : ℕ)
      → RisesBySite (filter has_term (map f (AtRowid ∷ map AtColumn (numbers_from 0 n))))
  sites_rise n =
      let rest = numbers_rise 0 n in
      filter_rises has_term (map f (AtRowid ∷ map AtColumn (numbers_from 0 n)))
      (behind 0 AtRowid (map f (map AtColumn (numbers_from 0 n))) (omega arith) rest.1, rest.0)

pub item_rises : (schema : Schema) (bound : Bound) (item : ℕ)
    → RisesBySite (item_terms schema bound item)
item_rises schema bound item =
    sites_rise (column_terms schema bound item) (λ site. refl)
    (length (columns_of (slice_get schema.tables (table_of (slice_get bound.items item)))))

branch_rises : (schema : Schema) (bound : Bound) (c : Conjunct) (item number : ℕ) (e : BExpr)
    → RisesBySite (branch_terms schema bound c item number e)
branch_rises schema bound c item number e =
    sites_rise (branch_column schema bound c item number (flat e)) (λ site. refl)
    (length (columns_of (slice_get schema.tables (table_of (slice_get bound.items item)))))

branches_rise : (schema : Schema) (bound : Bound) (c : Conjunct) (item number : ℕ) (es : BExprs)
    (bs : List (List ColumnTerms)) → AreTermsOfBranches schema bound c item number es bs
    → AllByRecursion RisesBySite bs
branches_rise schema bound c item number Nil [] h = tt
branches_rise schema bound c item number Nil (columns ∷ bs) h = absurd h
branches_rise schema bound c item number (More e es) [] h = absurd h
branches_rise schema bound c item number (More e es) (columns ∷ bs) h = (
  subst RisesBySite (sym h.0) (branch_rises schema bound c item number e),
  branches_rise schema bound c item number es bs h.2,
)

pub ors_rise : (schema : Schema) (bound : Bound) (item : ℕ)
    → AllByRecursion (λ o. AllByRecursion RisesBySite o.branches) (or_terms schema bound item)
ors_rise schema bound item =
    all_map (IsListedOr schema bound item) (λ o. AllByRecursion RisesBySite o.branches)
    (or_terms schema bound item)
    (λ o h. branches_rise schema bound h.conjunct item o.conjunct h.branches o.branches h.terms)
    (or_terms_are_of_conjuncts schema bound item)
