-- The terms that a seek may take, column by column.
use Rattle.std.specs.Prelude.{◌<◌, cond, List, [], ◌∷◌, map, Option, Some, None, option_map}
use Rattle.std.specs.Borrow.{Bor}
use Rattle.std.specs.List.{AllByRecursion}
use Rattle.sql_meaning.specs.Rows.{Site}
use Rattle.sql_meaning.specs.Orders.{same_site}
use Rattle.sql_meaning.specs.Choices as plain
use Rattle.sql_meaning.specs.Terms as plain_terms
use Rattle.sql_meaning.specs.TermLists.{site_number}
use Rattle.where_terms.specs.Views.{term_of, column_terms_of}
use Rattle.where_terms.specs.Marked.{AreMarked}
use Rattle.where_terms.specs.declared.term.Term.{Term}
use Rattle.where_terms.specs.declared.term.ColumnTerms.{ColumnTerms}
use Rattle.where_terms.specs.declared.term.OrTerm.{OrTerm}
use Rattle.where_terms.specs.declared.term.ItemTerms.{ItemTerms}
use Rattle.plan_choice.specs.Offers.{served_terms}
use Rattle.access_paths.specs.declared.supply.Supply.{Supply}

-- columns stand in order, the rowid first, each once
abbrev pub RisesBySite : List plain.ColumnTerms → Type 0
RisesBySite [] = Unit {0}
RisesBySite (c ∷ cs) =
    AllByRecursion (λ d. site_number c.column < site_number d.column) cs × RisesBySite cs

-- of a column that may be another one, or isn't there
abbrev pub found_for : Site → Option plain.ColumnTerms → plain.ColumnTerms
found_for site None = plain.terms_at site []
found_for site (Some c) = cond (same_site c.column site) c (plain.terms_at site [])

-- without bounds where none is served
abbrev pub supplied : Supply → List plain.ColumnTerms
supplied s = served_terms s.unordered (map column_terms_of s.columns.now)

-- columns with the terms that the code makes for them
pub record AreReady (cs : List ColumnTerms) : Type 0 where
  pub marked : AllByRecursion AreMarked cs
  pub rises : RisesBySite (map column_terms_of cs)

abbrev pub OrIsReady : OrTerm → Type 0
OrIsReady o = AllByRecursion (λ columns. AreReady columns.now) o.branches.now

pub record ItemIsReady (t : ItemTerms) : Type 0 where
  pub columns : AreReady t.columns.now
  pub ors : AllByRecursion OrIsReady t.ors.now

-- a term, and terms, that are lent
abbrev pub lent_term : Option (Bor Term) → Option plain_terms.Term
lent_term t = option_map (λ lent. term_of lent.now) t

abbrev pub lent_terms : List (Bor Term) → List plain_terms.Term
lent_terms ts = map (λ lent. term_of lent.now) ts
