use Rattle.std.proofs.Common.{◌≡◌, ◌<◌, ◌∙◌, arith, length, map}
use Rattle.std.proofs.lemmas.Result.{IfOk-weaker, on_ok_weaker}
use Rattle.loop_orders.specs.Walks.{state_of}
use Rattle.plan_form.specs.Plans.{covers, loop_of}
use Rattle.access_paths.specs.Settings.{setting_of}
use Rattle.nearest_prefixes.specs.Prefixes.{loops_of}
use Rattle.n3_planner.specs.PlannedLoops.{LoopFits}
use Rattle.n3_planner.proofs.Chains.{shorter, fits_before, fits_last, state_linked}
use Rattle.n3_planner.proofs.Chains.{directed_linked, covering_linked}
use Rattle.n3_planner.proofs.steps.+push_loops.Goals as goal

pub push_loops-requires : goal.push_loops-requires
push_loops-requires t c =
    let fits = LoopFits (setting_of c.args.setting.now) in
    let prefix = c.args.prefix.now in
    let before = c.in-Some.before in
    let count : length (loops_of prefix) ≡ t = c.decreases in
    let less : length (loops_of before.now) < t =
    omega (arith, count, shorter prefix before c.in-Some.is) in
    (less, (c.requires.ready, fits_before fits prefix before c.in-Some.is c.requires.fits))

pub push_last-requires-in-Some-clause-fits : goal.push_last-requires-in-Some-clause-fits
push_last-requires-in-Some-clause-fits t c =
    fits_last (LoopFits (setting_of c.args.setting.now)) c.args.prefix.now c.requires.fits

pub returns-in_ok-state-in-Some-clause-state : goal.returns-in_ok-state-in-Some-clause-state
returns-in_ok-state-in-Some-clause-state t c =
    IfOk-weaker c.push_last-in-Some.result _ _
    (λ next is. is
    ∙ state_linked (setting_of c.args.setting.now) c.args.prefix.now c.in-Some.before
    (state_of c.in_ok-state-in-Some.state) c.in-Some.is c.in_ok-state-in-Some.ensures.state)
    c.push_last-in-Some.ensures.state

pub returns-in_ok-state-in-Some-clause-loops : goal.returns-in_ok-state-in-Some-clause-loops
returns-in_ok-state-in-Some-clause-loops t c =
    on_ok_weaker c.push_last-in-Some.result
    (directed_linked (setting_of c.args.setting.now) c.args.given c.args.prefix.now
    c.in-Some.before (state_of c.in_ok-state-in-Some.state) (map loop_of c.args.loops.now.items)
    (map loop_of c.push_loops.new.loops.items) (map loop_of c.push_last-in-Some.new.loops.items)
    c.in-Some.is c.in_ok-state-in-Some.ensures.state c.in_ok-state-in-Some.ensures.loops)
    c.push_last-in-Some.ensures.loops

pub returns-in_ok-state-in-Some-clause-covering : goal.returns-in_ok-state-in-Some-clause-covering
returns-in_ok-state-in-Some-clause-covering t c =
    on_ok_weaker c.push_last-in-Some.result
    (covering_linked c.args.prefix.now c.in-Some.before
    (map (λ l. covers l.path.now) c.args.loops.now.items)
    (map (λ l. covers l.path.now) c.push_loops.new.loops.items)
    (map (λ l. covers l.path.now) c.push_last-in-Some.new.loops.items)
    c.in-Some.is c.in_ok-state-in-Some.ensures.covering)
    c.push_last-in-Some.ensures.covering
