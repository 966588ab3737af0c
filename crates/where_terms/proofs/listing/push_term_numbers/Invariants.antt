use Rattle.std.proofs.Common.{◌≡◌, ◌++◌, drop, map}
use Rattle.where_terms.specs.Views.{term_of}
use Rattle.where_terms.specs.Sites.{term_numbers}
use Rattle.where_terms.proofs.listing.push_term_numbers.Given as goal

abbrev pub invariant-loop-term : goal.invariant-loop-term
invariant-loop-term l =
    l.numbers.items ++ term_numbers (map term_of (drop l.term-index l.terms))
    ≡ l.fn.numbers.items ++ term_numbers (map term_of l.terms)
