use Rattle.std.proofs.Common.{◌≡◌, ◌++◌, map, drop, option_map}
use Rattle.schema_text.specs.Entries.{entries_of}
use Rattle.schema_text.proofs.entries.read_entries.Given as goal

abbrev pub invariant-loop-place : goal.invariant-loop-place
invariant-loop-place l =
    entries_of l.text l.autoincrement (map (λ part. part.now) l.parts)
    ≡ option_map (λ es. l.entries ++ es)
    (entries_of l.text l.autoincrement (map (λ part. part.now) (drop l.place l.parts)))
