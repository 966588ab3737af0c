use Rattle.std.proofs.Common.{◌≡◌, ◌++◌, ◌-◌, ◌≤◌, length, drop}
use Rattle.std.specs.Prelude.{All}
use Rattle.sql_tokens.specs.Tokens.{tokens_from, IsWithin, IsInOrder}
use Rattle.sql_tokens.proofs.cut.lex.Given as goal

abbrev pub invariant-loop-start : goal.invariant-loop-start
invariant-loop-start l = record {
  inside : l.start ≤ length l.text;
  in_order : IsInOrder 0 l.start l.tokens;
  within : All (IsWithin (length l.text)) l.tokens;
  same : l.tokens ++ tokens_from 0 l.start (drop l.start l.text) ≡ tokens_from 0 0 l.text;
}

abbrev pub decreases-loop-start : goal.decreases-loop-start
decreases-loop-start l = length l.text - l.start
