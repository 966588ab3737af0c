use Rattle.schema_text.proofs.EntryLists.{stops, goes}
use Rattle.schema_text.proofs.entries.read_entries.Goals as goal

pub returns-in-None : goal.returns-in-None
returns-in-None c =
    stops c.args.text.now c.args.autoincrement c.args.parts.now c.loop-place.place _
    c.loop-place.entries _ c.loop-place.invariant c.loop-place-test.true
    c.may_end.result c.may_end.ensures c.in-None.ensures

pub loop-place-preserved : goal.loop-place-preserved
loop-place-preserved c =
    goes c.args.text.now c.args.autoincrement c.args.parts.now c.loop-place.place _
    c.loop-place.entries _ c.loop-place.invariant c.loop-place-test.true
    c.may_end.result c.may_end.ensures c.in-Some.entry c.in-Some.ensures c.push.new.self
    c.in_ok-push-in-Some.ensures.ok
