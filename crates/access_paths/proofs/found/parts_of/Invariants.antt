use Rattle.std.proofs.Common.{◌≡◌, ◌++◌, drop, map}
use Rattle.sql_meaning.specs.Choices.{part_or}
use Rattle.plan_form.specs.Paths.{part_of}
use Rattle.access_paths.specs.Supplies.{lent_terms}
use Rattle.access_paths.proofs.found.parts_of.Given as goal

abbrev pub invariant-loop-term : goal.invariant-loop-term
invariant-loop-term l =
    map (λ part. part_of part.now) l.parts.items
    ++ map (λ t. part_or t.kind) (lent_terms (drop l.term-index l.terms))
    ≡ map (λ t. part_or t.kind) (lent_terms l.terms)
