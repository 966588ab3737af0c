use Rattle.std.proofs.Common.{◌≡◌, ◌++◌, drop}
use Rattle.std.specs.List.{flat_map}
use Rattle.sql_meaning.specs.Choices.{number_list}
use Rattle.access_paths.specs.Supplies.{lent_terms}
use Rattle.access_paths.proofs.consumed.conjuncts_of.Given as goal

abbrev pub invariant-loop-term : goal.invariant-loop-term
invariant-loop-term l =
    l.numbers.items ++ flat_map (λ t. number_list t.conjunct) (lent_terms (drop l.term-index l.terms))
    ≡ flat_map (λ t. number_list t.conjunct) (lent_terms l.terms)
