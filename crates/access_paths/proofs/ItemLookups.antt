-- What is looked up for an item is there, and is its own.
use Rattle.std.proofs.Common.{◌≡◌, ◌<◌, ◌+◌, ℕ, zero, suc, List, [], ◌∷◌, length, map, get_or, sym}
use Rattle.std.proofs.Common.{ap, ◌∙◌, subst, arith, slice_get}
use Rattle.std.specs.Borrow.{Bor}
use Rattle.std.specs.List.{AllByRecursion}
use Rattle.std.proofs.lemmas.List.{length-map, get_or-map}
use Rattle.std.proofs.lemmas.Option.{slice_get-get_or}
use Rattle.list_laws.proofs.Lists.{filter_all}
use Rattle.sql_meaning.proofs.Links.{all_at}
use Rattle.sql_meaning.specs.Fitting.{is_usable_on}
use Rattle.sql_meaning.specs.Items.{Item}
use Rattle.sql_meaning.specs.Statements.{Bound, numbers_from, table_of}
use Rattle.sql_meaning.specs.Schemas as plain_schemas
use Rattle.sql_meaning.specs.TermLists as meant
use Rattle.schema_model.specs.Schemas.{Schema}
use Rattle.schema_model.specs.PlainSchemas.{plain_schema}
use Rattle.where_terms.specs.Marked.{AreMarked, ItemIsMarked}
use Rattle.where_terms.specs.Views.{branches_of, or_term_of, item_terms_of}
use Rattle.where_terms.specs.declared.term.ColumnTerms.{ColumnTerms}
use Rattle.where_terms.specs.declared.term.OrTerm.{OrTerm}
use Rattle.where_terms.specs.declared.term.ItemTerms.{ItemTerms}
use Rattle.plan_choice.specs.Settings.{indexes_on}
use Rattle.plan_form.proofs.IndexColumns.{is_there}
use Rattle.access_paths.specs.Supplies.{RisesBySite, AreReady, OrIsReady, ItemIsReady}
use Rattle.access_paths.proofs.IndexLists.{numbers_length, numbers_at}
use Rattle.access_paths.proofs.Rises.{item_rises, ors_rise}

all_get : {X : Type 0} (P : X → Type 0) (xs : List X) (i : ℕ) (d : X) → AllByRecursion P xs
    → i < length xs → P (get_or xs i d)
all_get P xs i d h below = all_at P xs i (get_or xs i d) h (slice_get-get_or xs i d below)

-- the table of an item
pub table_there : (items : List Item) (item count : ℕ) → AllByRecursion (λ i. i.table < count) items
    → item < length items → table_of (slice_get items item) < count
table_there [] item count h below = absurd (omega (arith, below))
table_there (i ∷ is) zero count h below = h.0
table_there (i ∷ is) (suc item) count h below =
    table_there is item count h.1 (omega (arith, below))

-- each usable index of a table
pub index_there : (schema : Schema) (table i d : ℕ) (indexes : List ℕ)
    → indexes ≡ indexes_on (plain_schema schema) table → i < length indexes
    → get_or indexes i d < length schema.indexes
index_there schema table i d indexes is below =
    all_get (λ n. n < length schema.indexes) indexes i d
    (subst (λ (ns : List ℕ). AllByRecursion (λ n. n < length schema.indexes) ns) (sym is)
    (filter_all (λ n. n < length schema.indexes)
    (λ n. is_usable_on table (slice_get (plain_schema schema).indexes n))
    (numbers_from 0 (length (plain_schema schema).indexes))
    (λ n usable. is_there table n schema.indexes usable))) below

ready_branches : (bs : List (Bor (List ColumnTerms)))
    → AllByRecursion RisesBySite (branches_of bs)
    → AllByRecursion (λ branch. AllByRecursion AreMarked branch.now) bs
    → AllByRecursion (λ columns. AreReady columns.now) bs
ready_branches [] rise marked = tt
ready_branches (b ∷ bs) rise marked =
    (record { marked = marked.0; rises = rise.0 }, ready_branches bs rise.1 marked.1)

ready_ors : (os : List OrTerm)
    → AllByRecursion (λ o. AllByRecursion RisesBySite o.branches) (map or_term_of os)
    → AllByRecursion
    (λ o. AllByRecursion (λ branch. AllByRecursion AreMarked branch.now) o.branches.now) os
    → AllByRecursion OrIsReady os
ready_ors [] rise marked = tt
ready_ors (o ∷ os) rise marked =
    (ready_branches o.branches.now rise.0 marked.0, ready_ors os rise.1 marked.1)

module _ (schema : plain_schemas.Schema) (bound : Bound) (terms : List ItemTerms)
    (are : map item_terms_of terms ≡ meant.terms_of schema bound) where
  -- the terms of an item are there
  pub terms_there : (item : ℕ) → item < length bound.items → item < length terms
  terms_there item below =
      subst (λ (n : ℕ). item < n)
      (sym
      (sym (length-map terms item_terms_of)
      ∙ ap length are
      ∙ length-map (numbers_from 0 (length bound.items)) (meant.terms_of_item schema bound)
      ∙ numbers_length 0 (length bound.items))) below

  own_terms : (item : ℕ) (d : ItemTerms) → item < length bound.items
      → item_terms_of (get_or terms item d) ≡ meant.terms_of_item schema bound item
  own_terms item d below =
      let numbers = numbers_from 0 (length bound.items) in
      let inside : item < length numbers = rw (numbers_length 0 (length bound.items)) below in
      let start : 0 + item ≡ item = omega arith in
      sym (get_or-map item_terms_of terms item d (item_terms_of d) (terms_there item below))
      ∙ ap (λ ts. get_or ts item (item_terms_of d)) are
      ∙ get_or-map (meant.terms_of_item schema bound) numbers item 0 (item_terms_of d) inside
      ∙ ap (meant.terms_of_item schema bound)
      (numbers_at 0 (length bound.items) item below ∙ start)

  -- and are as the code asks of them
  pub terms_ready : (item : ℕ) (d : ItemTerms) → AllByRecursion ItemIsMarked terms
      → item < length bound.items → ItemIsReady (get_or terms item d)
  terms_ready item d marked below =
      let t = get_or terms item d in
      let m = all_get ItemIsMarked terms item d marked (terms_there item below) in
      let own = own_terms item d below in
      record {
        columns = record {
          marked = m.columns;
          rises =
              subst RisesBySite (sym (ap (λ (u : meant.ItemTerms). u.columns) own))
              (item_rises schema bound item);
        };
        ors =
            ready_ors t.ors.now
            (subst (λ (os : List meant.OrTerm). AllByRecursion
            (λ o. AllByRecursion RisesBySite o.branches) os)
            (sym (ap (λ (u : meant.ItemTerms). u.ors) own)) (ors_rise schema bound item))
            m.ors;
      }
