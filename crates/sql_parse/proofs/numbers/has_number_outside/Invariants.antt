use Rattle.std.proofs.Common.{◌≡◌, false, drop}
use Rattle.sql_parse.specs.Refusals.{number_outside_from}
use Rattle.sql_parse.proofs.numbers.has_number_outside.Given as goal

abbrev pub invariant-loop-token : goal.invariant-loop-token
invariant-loop-token l =
    number_outside_from l.text l.negative (drop l.token-index l.tokens)
    ≡ number_outside_from l.text false l.tokens
