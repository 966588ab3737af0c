-- `others` of each term has just the items that its keys name.
use Rattle.std.specs.List.{AllByRecursion}
use Rattle.sql_bound.specs.Naming.{IsPlaced}
use Rattle.where_terms.specs.Kinds.{term_kind_of}
use Rattle.where_terms.specs.Masks.{kind_names}
use Rattle.where_terms.specs.declared.term.Term.{Term}
use Rattle.where_terms.specs.declared.term.ColumnTerms.{ColumnTerms}
use Rattle.where_terms.specs.declared.term.ItemTerms.{ItemTerms}
use Rattle.where_terms.specs.declared.term.Terms.{Terms}

abbrev pub IsMarked : Term → Type 0
IsMarked t = IsPlaced t.others (kind_names (term_kind_of t.kind))

pub record AreMarked (c : ColumnTerms) : Type 0 where
  pub equals : AllByRecursion IsMarked c.equals.now
  pub lows : AllByRecursion IsMarked c.lows.now
  pub highs : AllByRecursion IsMarked c.highs.now

pub record ItemIsMarked (t : ItemTerms) : Type 0 where
  pub columns : AllByRecursion AreMarked t.columns.now
  pub ors : AllByRecursion
      (λ o. AllByRecursion (λ branch. AllByRecursion AreMarked branch.now) o.branches.now)
      t.ors.now

abbrev pub AllAreMarked : Terms → Type 0
AllAreMarked terms = AllByRecursion ItemIsMarked terms.items.now
