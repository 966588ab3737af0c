use Rattle.std.proofs.Common.{◌≡◌, ◌≤◌, ◌+◌, ◌-◌, map}
use Rattle.sql_tokens.specs.Terminals.{terminal_of}
use Rattle.sql_lex.specs.Rows.{room, any_from, has_row_value, row_steps, start}
use Rattle.sql_lex.proofs.row_values.has_row_value.Given as goal

abbrev pub invariant-loop-base : goal.invariant-loop-base
invariant-loop-base l = record {
  small : l.base ≤ l.most + room;
  same :
      any_from l.base start (row_steps l.text l.tokens)
      ≡ has_row_value (map (terminal_of l.text) l.tokens);
}

abbrev pub decreases-loop-base : goal.decreases-loop-base
decreases-loop-base l = l.most - l.base
