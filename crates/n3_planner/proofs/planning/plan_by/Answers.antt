use Rattle.std.proofs.Common.{◌++◌, ◌∙◌, List, Bool, ap, map}
use Rattle.plan_choice.specs.Choice.{chosen_prefix, directed}
use Rattle.plan_form.specs.Plans.{covers, loop_of}
use Rattle.plan_form.specs.declared.plan.Loop.{Loop}
use Rattle.access_paths.specs.Settings.{setting_of}
use Rattle.nearest_prefixes.specs.Prefixes.{loops_of}
use Rattle.n3_planner.specs.PlannedLoops.{plain_loops, covering_loops}
use Rattle.n3_planner.proofs.ShownPrefixes.{shown_fit, shown_plan, shown_covering}
use Rattle.n3_planner.proofs.planning.plan_by.Goals as goal

pub push_loops-requires-clause-fits : goal.push_loops-requires-clause-fits
push_loops-requires-clause-fits c =
    let s = setting_of c.args.setting.now in
    shown_fit s (chosen_prefix s) c.args.best.now c.requires.best

pub returns-clause-plan : goal.returns-clause-plan
returns-clause-plan c =
    let s = setting_of c.args.setting.now in
    let given = c.is_given-given.result in
    let loops = directed s given (plain_loops (loops_of c.args.best.now)) in
    shown_plan s (chosen_prefix s) c.args.best.now given (map loop_of c.into_bump_slice.result.now)
    c.is_given-given.ensures
    (ap (map loop_of) c.into_bump_slice.ensures
    ∙ c.in_ok-push_loops.ensures.loops
    ∙ ap (λ (ls : List Loop). map loop_of ls ++ loops) c.new-loops.ensures.items) c.requires.best

pub returns-clause-covering : goal.returns-clause-covering
returns-clause-covering c =
    let s = setting_of c.args.setting.now in
    let flags = covering_loops (loops_of c.args.best.now) in
    let covering : List Loop → List Bool = map (λ l. covers l.path.now) in
    shown_covering s (chosen_prefix s) c.args.best.now (covering c.into_bump_slice.result.now)
    (ap covering c.into_bump_slice.ensures
    ∙ c.in_ok-push_loops.ensures.covering
    ∙ ap (λ (ls : List Loop). covering ls ++ flags) c.new-loops.ensures.items) c.requires.best
