use Rattle.std.proofs.Common.{Bool, cond, subst}
use Rattle.plan_choice.specs.Choice.{chosen_prefix, last_level, written}
use Rattle.nearest_prefixes.specs.Growing.{Shows}
use Rattle.n3_planner.proofs.Nearer.{none_nearer, first_nearer}
use Rattle.n3_planner.proofs.planning.nearer.Goals as goal

pub returns-in-empty : goal.returns-in-empty
returns-in-empty c =
    λ s all shown.
    none_nearer s (last_level s) (written s) c.args.level.kept.now c.args.written.now
    c.in-empty.len_below all shown

pub returns-then-is_lighter : goal.returns-then-is_lighter
returns-then-is_lighter c =
    λ s all shown.
    let first = c.first-item.result in
    subst (λ (b : Bool). Shows s (chosen_prefix s) (cond b c.args.written.now first.now))
    c.if-is_lighter.true
    (first_nearer s (last_level s) (written s) c.args.level.kept.now first c.args.written.now
    c.is_lighter.result c.in-len1-up.len_at_least c.first-item.is c.is_lighter.ensures all shown)

pub returns-else-is_lighter : goal.returns-else-is_lighter
returns-else-is_lighter c =
    λ s all shown.
    let first = c.first-item.result in
    subst (λ (b : Bool). Shows s (chosen_prefix s) (cond b c.args.written.now first.now))
    c.if-is_lighter.false
    (first_nearer s (last_level s) (written s) c.args.level.kept.now first c.args.written.now
    c.is_lighter.result c.in-len1-up.len_at_least c.first-item.is c.is_lighter.ensures all shown)
