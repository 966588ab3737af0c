use Rattle.std.proofs.Common.{take}
use Rattle.candidate_index.specs.Beginnings.{Serves}
use Rattle.candidate_index.specs.Known.{usable}
use Rattle.candidate_index.proofs.beginnings.own_beginnings.Given as goal

abbrev pub invariant-loop-number : goal.invariant-loop-number
invariant-loop-number l = Serves l.own (usable (take l.number l.schema.indexes))
