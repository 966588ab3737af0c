use Rattle.std.proofs.Common.{rules, ◌≡◌, ℕ, true, false, ap, ◌∙◌, subst}
use Rattle.std.specs.List.Sorted.{IsPartitionPoint}
use Rattle.std.proofs.lemmas.List.Sorted.{IsPartitionPoint-from_clause}
use Rattle.sql_bound.specs.Columns.{site_of}
use Rattle.access_paths.specs.Supplies.{found_for}
use Rattle.access_paths.proofs.FoundColumns.{stands_before, partitioned, found_is, got_is}
use Rattle.access_paths.proofs.supply.terms_of_column.Goals as goal

pub returns-clause-terms : goal.returns-clause-terms
returns-clause-terms c =
    let columns = c.args.columns.now in
    let site = site_of c.args.column in
    let place = c.partition_point-place.result in
    let number = c.site_number-number.result in
    c.found_terms.ensures.terms
    ∙ ap (found_for site)
    (got_is columns place c.get.result c.get.ensures.lookup.0 c.get.ensures.lookup.1)
    ∙ found_is columns site place c.requires.rises
    (subst
    (λ (n : ℕ). IsPartitionPoint (λ y. stands_before n y ≡ true) (λ y. stands_before n y ≡ false)
    columns place) c.site_number-number.ensures
    (IsPartitionPoint-from_clause (stands_before number) columns place
    c.partition_point-place.ensures.partitioned (partitioned columns number c.requires.rises)
    (λ a r f k. search rules)))
