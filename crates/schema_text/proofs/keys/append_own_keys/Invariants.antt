use Rattle.std.proofs.Common.{◌≡◌, ◌≤◌, ◌++◌, drop}
use Rattle.schema_text.specs.Keys.{own_keys}
use Rattle.schema_text.proofs.keys.append_own_keys.Given as goal

abbrev pub invariant-loop-place : goal.invariant-loop-place
invariant-loop-place l = record {
  same : l.keys ++ own_keys l.text l.number l.level (drop l.place l.rest)
      ≡ l.initial.keys ++ own_keys l.text l.number 0 l.rest;
  small : l.level ≤ l.place;
}
