use Rattle.std.proofs.Common.{◌≡◌, ◌<◌, ℕ, [], length, get_or}
use Rattle.schema_model.specs.PlainSchemas.{plain_schema}
use Rattle.access_paths.proofs.IndexLists.{listed}
use Rattle.access_paths.proofs.indexes.TableIndexes.of.Given as goal

-- each list has those of its table among the indexes so far
abbrev pub invariant-loop-number : goal.invariant-loop-number
invariant-loop-number l = record {
  each : length l.tables.items ≡ length l.schema.tables;
  lists : (t : ℕ) → t < length l.tables.items
      → get_or l.tables.items t [] ≡ listed (plain_schema l.schema).indexes t l.number;
}
