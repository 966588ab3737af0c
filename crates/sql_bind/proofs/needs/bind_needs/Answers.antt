use Rattle.std.proofs.Common.{[], map, ap, ◌∙◌}
use Rattle.std.proofs.lemmas.List.{map_push}
use Rattle.sql_bind.specs.Needs.{needed_of}
use Rattle.sql_bind.specs.Parts.{exprs_of_parts}
use Rattle.sql_bind.proofs.Ranges.{mapped_more}
use Rattle.sql_bind.proofs.needs.bind_needs.Goals as goal

pub loop-item-preserved : goal.loop-item-preserved
loop-item-preserved c =
    mapped_more (needed_of c.args.scope.now c.args.rowids (exprs_of_parts c.args.parts.now))
    c.loop-item.item [] (map (λ columns. columns.now) c.loop-item.needs.items)
    (map (λ columns. columns.now) c.push.new.list.items) c.in_ok-place.place.now
    c.loop-item.invariant
    (ap (map (λ columns. columns.now)) c.in_ok-push.ensures.ok
    ∙ map_push (λ columns. columns.now) c.loop-item.needs.items c.in_ok-place.place)
    (c.in_ok-place.ensures ∙ c.as_slice.ensures.value ∙ c.in_ok-columns.ensures)
