use Rattle.std.specs.Ordering.{nat_cmp, ordering_then}
use Rattle.std.specs.Cmp.Lexicographic.{slice_cmp}
use Rattle.std.proofs.Common.{ap, sym, ◌∙◌}
use Rattle.access_paths.specs.Settings.{setting_of}
use Rattle.nearest_prefixes.specs.Prefixes.{loops_of}
use Rattle.nearest_prefixes.specs.Comparing.{steps_of}
use Rattle.nearest_prefixes.proofs.NearerSeen.{shown_nearer, loops_alike, first_unequal}
use Rattle.nearest_prefixes.proofs.comparing.compare.Goals as goal

pub returns-in-Equal : goal.returns-in-Equal
returns-in-Equal c = λ p q h k e.
    let s = setting_of c.args.setting.now in
    let left = c.args.left.now in
    let right = c.args.right.now in
    c.compare_loops.ensures (loops_alike s p q left right h k e)
    ∙ ap
    (λ o. ordering_then o
    (slice_cmp nat_cmp (steps_of (loops_of left)) (steps_of (loops_of right))))
    (sym c.in-Equal.is ∙ c.compare_figures.ensures)
    ∙ shown_nearer s p q left right h k

pub returns-in_default : goal.returns-in_default
returns-in_default c = λ p q h k e.
    let left = c.args.left.now in
    let right = c.args.right.now in
    let loops = slice_cmp nat_cmp (steps_of (loops_of left)) (steps_of (loops_of right)) in
    first_unequal c.compare_figures.result loops c.in_default.not-Equal
    ∙ ap (λ o. ordering_then o loops) c.compare_figures.ensures
    ∙ shown_nearer (setting_of c.args.setting.now) p q left right h k
