use Rattle.std.proofs.Common.{◌≡◌, ◌+◌, ◌≤◌, drop, option_map}
use Rattle.schema_text.specs.Groups.{close_place}
use Rattle.schema_text.proofs.groups.close_place.Given as goal

abbrev pub invariant-loop-place : goal.invariant-loop-place
invariant-loop-place l = record {
  same : close_place l.text 0 l.tokens
      ≡ option_map (λ n. n + l.place) (close_place l.text l.level (drop l.place l.tokens));
  small : l.level ≤ l.place;
}
