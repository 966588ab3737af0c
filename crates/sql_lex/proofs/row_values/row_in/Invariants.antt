use Rattle.std.proofs.Common.{◌≡◌, ◌≤◌, drop}
use Rattle.sql_lex.specs.Rows.{State, Follows, row_from, row_in, row_steps}
use Rattle.sql_lex.proofs.row_values.row_in.Given as goal

abbrev pub invariant-loop-number : goal.invariant-loop-number
invariant-loop-number l = record {
  same : l.window.base ≡ l.base;
  depth : l.window.depth ≤ l.number;
  follows :
      (s : State) × (Follows l.window s
      × (row_from l.base s (drop l.number (row_steps l.text l.tokens))
      ≡ row_in l.base (row_steps l.text l.tokens)));
}
