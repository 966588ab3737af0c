use Rattle.std.proofs.Common.{◌≡◌, ◌++◌, drop}
use Rattle.schema_model.specs.CreateTexts.{further_entries, AreInTable}
use Rattle.schema_model.proofs.print.append_further.Given as goal

abbrev pub invariant-loop-entry : goal.invariant-loop-entry
invariant-loop-entry l = record {
  same : l.written ++ further_entries l.columns (drop l.entry-index l.entries)
      ≡ l.initial.written ++ further_entries l.columns l.entries;
  within : AreInTable l.columns (drop l.entry-index l.entries);
}
