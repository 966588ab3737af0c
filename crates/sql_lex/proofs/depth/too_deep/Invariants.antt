use Rattle.std.proofs.Common.{◌≡◌, ◌≤◌, ◌<◌, nat_lt, length, drop}
use Rattle.sql_lex.specs.Depth.{depth_limit, depth_from, depth_of, depth_steps, total, IsBased}
use Rattle.sql_lex.proofs.depth.too_deep.Given as goal

abbrev pub invariant-loop-number : goal.invariant-loop-number
invariant-loop-number l = record {
  some : 0 < length l.levels;
  small : total l.levels ≤ depth_limit;
  based : IsBased l.levels;
  same :
      nat_lt depth_limit (depth_from l.levels (drop l.number (depth_steps l.text l.tokens)))
      ≡ nat_lt depth_limit (depth_of l.text l.tokens);
}
