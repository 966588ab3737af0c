use Rattle.std.proofs.Common.{◌≡◌, ◌+◌, drop, map}
use Rattle.std.specs.List.{prefix_len}
use Rattle.sql_tokens.specs.Terminals.{terminal_of}
use Rattle.sql_lex.specs.Statements.{is_inner}
use Rattle.sql_lex.proofs.statement_runs.plain_run.Given as goal

abbrev pub invariant-loop-number : goal.invariant-loop-number
invariant-loop-number l =
    prefix_len is_inner (map (terminal_of l.text) l.tokens)
    ≡ l.number + prefix_len is_inner (map (terminal_of l.text) (drop l.number l.tokens))
