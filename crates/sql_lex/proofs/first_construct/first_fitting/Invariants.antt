use Rattle.std.proofs.Common.{◌≡◌, ◌+◌, drop}
use Rattle.std.specs.List.{position_or_len}
use Rattle.sql_lex.specs.Patterns.{fits}
use Rattle.sql_lex.proofs.first_construct.first_fitting.Given as goal

abbrev pub invariant-loop-number : goal.invariant-loop-number
invariant-loop-number l =
    position_or_len (λ f. fits f l.context) l.constructs
    ≡ l.number + position_or_len (λ f. fits f l.context) (drop l.number l.constructs)
