use Rattle.std.proofs.Common.{◌≡◌, ◌+◌, ℕ, [], ◌∷◌, List, length, add-one, arith, subst, sym}
use Rattle.sql_bound.specs.Statements.{item_of}
use Rattle.plan_choice.specs.Choice.{levels, next_level}
use Rattle.plan_choice.specs.Prefixes.{Prefix, empty_prefix}
use Rattle.access_paths.specs.Settings.{setting_of}
use Rattle.nearest_prefixes.specs.Growing.{IsLevel}
use Rattle.nearest_prefixes.proofs.ReachedLevels.{levels_more}
use Rattle.nearest_prefixes.proofs.WrittenOrder.{mapped_length}
use Rattle.nearest_prefixes.proofs.level.nearest.Goals as goal

pub loop-preserved : goal.loop-preserved
loop-preserved c =
    let s = setting_of c.args.setting.now in
    let n = c.loop.counter in
    let first = empty_prefix s ∷ [] in
    let next = c.in_ok-level-2.level in
    let kept = levels s n first in
    subst (λ (ps : List Prefix). IsLevel s (n + 1) next ps) (sym (levels_more s n first))
    (subst (λ (m : ℕ). IsLevel s m next (next_level s kept)) (sym (add-one n))
    (c.in_ok-level-2.ensures n kept c.loop.invariant))

pub returns : goal.returns
returns c =
    let s = setting_of c.args.setting.now in
    let far = c.loop-test.false in
    let same = mapped_length item_of c.args.setting.now.bound.now.items.now in
    let some = c.requires.ready.fits.some_item in
    let near = c.loop.auto.counter-end (omega (arith, same, some)) in
    let all : c.loop.counter ≡ length s.bound.items = omega (arith, far, near, same) in
    subst (λ (n : ℕ). IsLevel s n c.loop.level (levels s n (empty_prefix s ∷ []))) all
    c.loop.invariant
