use Rattle.std.proofs.Common.{◌≡◌, ◌+◌, drop, map}
use Rattle.sql_tokens.specs.Terminals.{terminal_of}
use Rattle.sql_lex.specs.Statements.{trigger_len}
use Rattle.sql_lex.proofs.statement_runs.trigger_run.Given as goal

abbrev pub invariant-loop-number : goal.invariant-loop-number
invariant-loop-number l =
    trigger_len (map (terminal_of l.text) l.tokens)
    ≡ l.number + trigger_len (drop l.number (map (terminal_of l.text) l.tokens))
