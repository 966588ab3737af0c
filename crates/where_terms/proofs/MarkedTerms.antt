-- Where keys name items that have a bit, `others` has just these.
use Rattle.std.proofs.Common.{ℕ, List, [], ◌∷◌, map, subst, sym}
use Rattle.std.specs.List.{AllByRecursion}
use Rattle.sql_bound.specs.Naming.{IsPlaced}
use Rattle.where_terms.specs.Kinds.{term_kind_of}
use Rattle.where_terms.specs.Masks.{kind_names}
use Rattle.where_terms.specs.Marked.{IsMarked, AreMarked, ItemIsMarked}
use Rattle.where_terms.specs.Views.{term_of, column_terms_of, or_term_of}
use Rattle.where_terms.specs.Views.{item_terms_of}
use Rattle.where_terms.specs.declared.term.Term.{Term}
use Rattle.where_terms.specs.declared.term.ColumnTerms.{ColumnTerms}
use Rattle.where_terms.specs.declared.term.OrTerm.{OrTerm}
use Rattle.where_terms.specs.declared.term.ItemTerms.{ItemTerms}
use Rattle.where_terms.proofs.MarkTurns.{marks_are_placed}
use Rattle.where_terms.proofs.NamedItems.{SmallTerm, SmallColumn, SmallOr, SmallItem}

all_seen : {X Y : Type 0} (P : X → Type 0) (Q : Y → Type 0) (f : X → Y) (xs : List X)
    → ((x : X) → Q (f x) → P x) → AllByRecursion Q (map f xs) → AllByRecursion P xs
all_seen P Q f [] give h = tt
all_seen P Q f (x ∷ xs) give h = (give x h.0, all_seen P Q f xs give h.1)

marked : (t : Term) → SmallTerm (term_of t) → IsMarked t
marked t small =
    subst (λ (mask : ℕ). IsPlaced mask (kind_names (term_kind_of t.kind))) (sym t.others_are_named)
    (marks_are_placed (kind_names (term_kind_of t.kind)) small)

pub terms_marked : (ts : List Term) → AllByRecursion SmallTerm (map term_of ts)
    → AllByRecursion IsMarked ts
terms_marked ts small = all_seen IsMarked SmallTerm term_of ts marked small

column_marked : (c : ColumnTerms) → SmallColumn (column_terms_of c) → AreMarked c
column_marked c small = record {
  equals = terms_marked c.equals.now small.equals;
  lows = terms_marked c.lows.now small.lows;
  highs = terms_marked c.highs.now small.highs;
}

or_marked : (o : OrTerm) → SmallOr (or_term_of o)
    → AllByRecursion (λ branch. AllByRecursion AreMarked branch.now) o.branches.now
or_marked o small =
    all_seen (λ branch. AllByRecursion AreMarked branch.now) (AllByRecursion SmallColumn)
    (λ branch. map column_terms_of branch.now) o.branches.now
    (λ branch h. all_seen AreMarked SmallColumn column_terms_of branch.now column_marked h) small

pub item_marked : (t : ItemTerms) → SmallItem (item_terms_of t) → ItemIsMarked t
item_marked t small = record {
  columns =
      all_seen AreMarked SmallColumn column_terms_of t.columns.now column_marked small.columns;
  ors =
      all_seen
      (λ o. AllByRecursion (λ branch. AllByRecursion AreMarked branch.now) o.branches.now)
      SmallOr or_term_of t.ors.now or_marked small.ors;
}

pub all_marked : (ts : List ItemTerms) → AllByRecursion SmallItem (map item_terms_of ts)
    → AllByRecursion ItemIsMarked ts
all_marked ts small = all_seen ItemIsMarked SmallItem item_terms_of ts item_marked small
