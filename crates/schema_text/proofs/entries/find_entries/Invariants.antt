use Rattle.std.proofs.Common.{◌≡◌, ◌++◌, drop, option_map}
use Rattle.schema_text.specs.Entries.{key_columns}
use Rattle.schema_text.proofs.entries.find_entries.Given as goal

abbrev pub invariant-loop-entry : goal.invariant-loop-entry
invariant-loop-entry l =
    key_columns l.text l.columns l.entries
    ≡ option_map (λ found. l.found ++ found)
    (key_columns l.text l.columns (drop l.entry-index l.entries))
