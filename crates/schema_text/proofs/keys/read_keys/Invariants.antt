use Rattle.std.proofs.Common.{◌≡◌, ◌≤◌, ◌++◌, drop, map, option_map}
use Rattle.schema_text.specs.Keys.{key_constraints_of}
use Rattle.schema_text.proofs.keys.read_keys.Given as goal

abbrev pub invariant-loop-item : goal.invariant-loop-item
invariant-loop-item l = record {
  same : key_constraints_of l.text l.columns 0 (map (λ item. item.now) l.items)
      ≡ option_map (λ rest. l.keys ++ rest)
      (key_constraints_of l.text l.columns l.number
      (map (λ item. item.now) (drop l.item-index l.items)));
  small : l.number ≤ l.item-index;
}
