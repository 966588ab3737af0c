use Rattle.std.proofs.Common.{◌≡◌, ◌+◌, cond, option_map, drop}
use Rattle.sql_tokens.specs.Runs.{inside_len, behind_quote_len}
use Rattle.sql_tokens.proofs.quotes.closing_run.Given as goal

abbrev pub invariant-loop-number : goal.invariant-loop-number
invariant-loop-number l =
    inside_len l.quote l.bytes
    ≡ option_map (λ n. n + l.number)
    (cond l.behind_quote (behind_quote_len l.quote (drop l.number l.bytes))
    (inside_len l.quote (drop l.number l.bytes)))
