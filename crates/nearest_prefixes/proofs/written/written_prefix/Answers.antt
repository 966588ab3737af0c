use Rattle.std.proofs.Common.{refl, arith}
use Rattle.plan_choice.specs.Prefixes.{empty_prefix}
use Rattle.sql_bound.specs.Statements.{item_of}
use Rattle.access_paths.specs.Settings.{setting_of}
use Rattle.nearest_prefixes.proofs.Standings.{own}
use Rattle.nearest_prefixes.proofs.WrittenOrder.{mapped_length, empty_written, next_comes, goes_on}
use Rattle.nearest_prefixes.proofs.WrittenOrder.{starts, ends}
use Rattle.nearest_prefixes.proofs.written.written_prefix.Goals as goal

pub written_step-requires-clause-comes : goal.written_step-requires-clause-comes
written_step-requires-clause-comes c =
    let s = setting_of c.args.setting.now in
    record {
      below = c.requires.ready.fits.some_item;
      prefix = empty_prefix s;
      begins = refl;
      comes = next_comes s 0 (empty_prefix s) (empty_written s);
    }

pub loop-item-init : goal.loop-item-init
loop-item-init c =
    let s = setting_of c.args.setting.now in
    starts s c.in_ok-made.made.now (own c.args.setting.now c.requires.ready)
    c.requires.ready.fits.some_item
    (c.in_ok-made.ensures (empty_prefix s) refl
    (next_comes s 0 (empty_prefix s) (empty_written s)))

pub written_step-requires-in-loop-item-clause-comes : goal.written_step-requires-in-loop-item-clause-comes
written_step-requires-in-loop-item-clause-comes c =
    let s = setting_of c.args.setting.now in
    let below = c.loop-item-test.true in
    let same = mapped_length item_of c.args.setting.now.bound.now.items.now in
    let p = c.loop-item.invariant in
    record {
      below = omega (arith, below, same);
      prefix = p.0;
      begins = p.1;
      comes = next_comes s c.loop-item.item p.0 p.2;
    }

pub loop-item-preserved : goal.loop-item-preserved
loop-item-preserved c =
    let s = setting_of c.args.setting.now in
    let below = c.loop-item-test.true in
    let same = mapped_length item_of c.args.setting.now.bound.now.items.now in
    let p = c.loop-item.invariant in
    goes_on s c.loop-item.item p.0 c.in_ok-made-2.made.now
    (own c.args.setting.now c.requires.ready) p.2 (omega (arith, below, same)) p.3
    (c.in_ok-made-2.ensures p.0 p.1 (next_comes s c.loop-item.item p.0 p.2))

pub returns : goal.returns
returns c =
    let far = c.loop-item-test.false in
    let same = mapped_length item_of c.args.setting.now.bound.now.items.now in
    ends (setting_of c.args.setting.now) c.loop-item.item c.loop-item.made.now
    (omega (arith, far, same)) c.loop-item.invariant
