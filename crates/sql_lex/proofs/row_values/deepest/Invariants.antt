use Rattle.std.proofs.Common.{◌≡◌, ◌≤◌, max, drop}
use Rattle.sql_lex.specs.Rows.{deepest_of, row_steps}
use Rattle.sql_lex.proofs.row_values.deepest.Given as goal

abbrev pub invariant-loop-number : goal.invariant-loop-number
invariant-loop-number l = record {
  depth : l.depth ≤ l.number;
  most : l.most ≤ l.number;
  within : l.depth ≤ l.most;
  same :
      max l.most (deepest_of l.depth (drop l.number (row_steps l.text l.tokens)))
      ≡ deepest_of 0 (row_steps l.text l.tokens);
}
