-- The scans of an item's OR terms, and OR terms whose keys are marked.
use Rattle.std.specs.Prelude.{ℕ, List, slice_get}
use Rattle.std.specs.List.{AllByRecursion}
use Rattle.sql_meaning.specs.Schemas.{Schema}
use Rattle.sql_meaning.specs.Statements.{Bound}
use Rattle.sql_meaning.specs.TermLists as plain
use Rattle.plan_choice.specs.Scans.{Scan, scans_of_or}
use Rattle.where_terms.specs.Marked.{AreMarked}
use Rattle.where_terms.specs.declared.term.OrTerm.{OrTerm}

abbrev pub OrIsMarked : OrTerm → Type 0
OrIsMarked o = AllByRecursion (λ branch. AllByRecursion AreMarked branch.now) o.branches.now

abbrev pub or_scans : Schema → Bound → ℕ → plain.OrTerm → List Scan
or_scans schema bound item o =
    scans_of_or schema bound item o.conjunct (slice_get bound.conjuncts o.conjunct)
