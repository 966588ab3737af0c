use Rattle.std.proofs.Common.{◌≡◌, ◌++◌, drop}
use Rattle.schema_model.specs.CreateTexts.{doubled}
use Rattle.schema_model.proofs.print.append_doubled.Given as goal

abbrev pub invariant-loop-byte : goal.invariant-loop-byte
invariant-loop-byte l =
    l.written ++ doubled (drop l.byte-index l.name) ≡ l.initial.written ++ doubled l.name
