use Rattle.std.proofs.Common.{◌≡◌, ◌<◌, length, drop, []}
use Rattle.schema_read.specs.Autoindexes.{add_keys}
use Rattle.schema_read.proofs.autoindexes.add_autoindexes.Given as goal

abbrev pub invariant-loop-key : goal.invariant-loop-key
invariant-loop-key l = record {
  same :
      add_keys l.number (drop l.key-index l.keys)
      (record { schema = l.schema; shapes = l.shapes; count = l.count })
      ≡ add_keys l.number l.keys (record { schema = l.initial.schema; shapes = []; count = 0 });
  within : l.number < length l.schema.tables;
}
