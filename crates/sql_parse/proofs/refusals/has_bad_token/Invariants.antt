use Rattle.std.proofs.Common.{◌≡◌, drop}
use Rattle.sql_parse.specs.Refusals.{has_bad_token}
use Rattle.sql_parse.proofs.refusals.has_bad_token.Given as goal

abbrev pub invariant-loop-token : goal.invariant-loop-token
invariant-loop-token l = has_bad_token (drop l.token-index l.tokens) ≡ has_bad_token l.tokens
