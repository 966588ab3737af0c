use Rattle.std.proofs.Common.{◌≡◌, sym, ap, ◌∙◌, map}
use Rattle.std.proofs.lemmas.Simd.{map-map}
use Rattle.list_laws.specs.Order.{sort_by}
use Rattle.sql_value.specs.View.{plain_value}
use Rattle.schema_model.specs.PlainSchemas.{plain_database}
use Rattle.sql_bound.specs.Statements.{sort_key_of, bound_of}
use Rattle.bound_rows.specs.Keys.{pairs_cmp, keyed_by}
use Rattle.bound_rows.specs.Keyed.{pair_of}
use Rattle.bound_rows.specs.Places.{lent}
use Rattle.bound_rows.proofs.Sorts.{sorted_is, sorted_fit}
use Rattle.bound_rows.proofs.sorting.sorted_by_keys.Goals.{In_ok-rows}
use Rattle.bound_rows.proofs.sorting.sorted_by_keys.Goals as goal

out : (c : In_ok-rows)
    → lent c.in_ok-rows.rows.items ≡ map (λ p. p.1) (map pair_of c.in_ok-sorted.sorted.items)
out c =
    c.in_ok-rows.ensures ∙ ap (map (λ each. each.places.now)) c.as_slice.ensures.value
    ∙ sym (map-map (λ p. p.1) pair_of c.in_ok-sorted.sorted.items)

pairs : (c : In_ok-rows)
    → map pair_of c.in_ok-sorted.sorted.items
    ≡ sort_by (pairs_cmp (map sort_key_of c.args.bound.now.keys.now))
    (map
    (keyed_by (plain_database c.args.source.now.tables.now)
    (map sort_key_of c.args.bound.now.keys.now) (map plain_value c.args.source.now.params.now))
    (lent c.args.rows.now))
pairs c =
    c.in_ok-sorted.ensures
    ∙ ap (sort_by (pairs_cmp (map sort_key_of c.args.bound.now.keys.now))) c.in_ok-keyed.ensures

pub returns-clause-fit : goal.returns-clause-fit
returns-clause-fit c =
    let at = (goal.at.returns-clause-fit c).In_ok-rows in
    sorted_fit (plain_database c.args.source.now.tables.now) (bound_of c.args.bound.now).items
    (map sort_key_of c.args.bound.now.keys.now) (map plain_value c.args.source.now.params.now)
    (lent c.args.rows.now) _ (map pair_of c.in_ok-sorted.sorted.items) (out at) (pairs at)
    c.requires.fit

pub returns-clause-sorted : goal.returns-clause-sorted
returns-clause-sorted c =
    let at = (goal.at.returns-clause-sorted c).In_ok-rows in
    sorted_is (plain_database c.args.source.now.tables.now)
    (map sort_key_of c.args.bound.now.keys.now) (map plain_value c.args.source.now.params.now)
    (lent c.args.rows.now) _ (map pair_of c.in_ok-sorted.sorted.items) (out at) (pairs at)
