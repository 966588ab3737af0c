use Rattle.std.proofs.Common.{length}
use Rattle.nearest_prefixes.specs.Prefixes.{loops_of}
use Rattle.n3_planner.proofs.steps.+push_loops.Given as goal

abbrev pub decreases-push_loops : goal.decreases-push_loops
decreases-push_loops l = length (loops_of l.prefix.now)
