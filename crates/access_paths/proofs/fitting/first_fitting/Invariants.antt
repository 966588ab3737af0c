use Rattle.std.proofs.Common.{◌≡◌, drop, map}
use Rattle.std.specs.List.{AllByRecursion}
use Rattle.sql_meaning.specs.Choices.{first_that}
use Rattle.sql_value.specs.View.{plain_collation}
use Rattle.sql_bound.specs.Columns.{site_of}
use Rattle.where_terms.specs.Views.{term_of}
use Rattle.where_terms.specs.Marked.{IsMarked}
use Rattle.access_paths.specs.Placed.{items_in}
use Rattle.access_paths.specs.Fitting.{fits_site}
use Rattle.access_paths.proofs.fitting.first_fitting.Given as goal

-- none so far fits
abbrev pub invariant-loop-term : goal.invariant-loop-term
invariant-loop-term l = record {
  marked : AllByRecursion IsMarked (drop l.term-index l.terms);
  left : first_that
      (fits_site (items_in l.placed) (site_of l.column.column) (plain_collation l.column.coll))
      (map term_of (drop l.term-index l.terms))
      ≡ first_that
      (fits_site (items_in l.placed) (site_of l.column.column) (plain_collation l.column.coll))
      (map term_of l.terms);
}
