use Rattle.std.proofs.Common.{◌≡◌, ◌+◌, cond, drop}
use Rattle.sql_tokens.specs.Runs.{comment_len, behind_star_len}
use Rattle.sql_tokens.proofs.runs.comment_run.Given as goal

abbrev pub invariant-loop-number : goal.invariant-loop-number
invariant-loop-number l =
    comment_len l.bytes ≡ l.number + cond l.starred (behind_star_len (drop l.number l.bytes))
    (comment_len (drop l.number l.bytes))
