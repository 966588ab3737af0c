use Rattle.std.proofs.Common.{◌≡◌, fold, drop}
use Rattle.schema_read.specs.Dumps.{empty, step_span}
use Rattle.schema_read.proofs.dump.read_statements.Given as goal

abbrev pub invariant-loop-span : goal.invariant-loop-span
invariant-loop-span l =
    fold (step_span l.text l.tokens) l.state (drop l.span-index l.spans)
    ≡ fold (step_span l.text l.tokens) empty l.spans
