use Rattle.std.proofs.Common.{sym, ◌∙◌}
use Rattle.schema_text.specs.Entries.{key_column}
use Rattle.schema_text.proofs.Traversal.{stops, goes}
use Rattle.schema_text.proofs.entries.find_entries.Goals as goal

pub returns-in-None : goal.returns-in-None
returns-in-None c =
    stops (key_column c.args.text.now c.args.columns.now) c.args.entries.now
    c.loop-entry.entry-index _ c.loop-entry.found _ c.loop-entry.invariant
    c.loop-entry-test.true
    (sym c.in_ok-column.ensures ∙ c.in-None.is)

pub loop-entry-preserved : goal.loop-entry-preserved
loop-entry-preserved c =
    goes (key_column c.args.text.now c.args.columns.now) c.args.entries.now c.loop-entry.entry-index
    _ c.loop-entry.found _ c.loop-entry.invariant c.loop-entry-test.true c.in-Some.column
    (sym c.in_ok-column.ensures ∙ c.in-Some.is) c.push.new.self c.in_ok-push-in-Some.ensures.ok
