use Rattle.std.proofs.Common.{◌≡◌, ℕ, suc, ◌+◌, ◌<◌, length, get_or, cond, leb, ltb, ◌&&◌}
use Rattle.stat_figures.proofs.changes.raise_behind.Given as goal

abbrev pub invariant-loop-k : goal.invariant-loop-k
invariant-loop-k l = record {
  len : length l.counts.items ≡ length l.fn.counts.items;
  raised : (j : ℕ) → j < length l.fn.counts.items
      → get_or l.counts.items j 0
      ≡ get_or l.fn.counts.items j 0 + cond (leb (suc l.place) j && ltb j l.k) 1 0;
}
