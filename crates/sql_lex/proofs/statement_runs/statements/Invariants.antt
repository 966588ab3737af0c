use Rattle.std.proofs.Common.{◌≡◌, ◌++◌, ◌-◌, ◌≤◌, length, drop, map}
use Rattle.sql_tokens.specs.Terminals.{terminal_of}
use Rattle.sql_lex.specs.Statements.{spans_from, statements_of}
use Rattle.sql_lex.proofs.statement_runs.statements.Given as goal

abbrev pub invariant-loop-start : goal.invariant-loop-start
invariant-loop-start l = record {
  inside : l.start ≤ length l.tokens;
  same :
      l.spans ++ spans_from 0 l.start (drop l.start (map (terminal_of l.text) l.tokens))
      ≡ statements_of l.text l.tokens;
}

abbrev pub decreases-loop-start : goal.decreases-loop-start
decreases-loop-start l = length l.tokens - l.start
