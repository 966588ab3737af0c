use Rattle.std.proofs.Common.{◌≡◌, ◌≤◌, ◌++◌, map, drop}
use Rattle.schema_text.specs.Groups.{parts_from}
use Rattle.schema_text.proofs.PartLists.{joined, between}
use Rattle.schema_text.proofs.groups.cut_at_commas.Given as goal

abbrev pub invariant-loop-place : goal.invariant-loop-place
invariant-loop-place l = record {
  same : map (λ part. part.now) l.parts.items
      ++ joined (between l.start l.place l.tokens)
      (parts_from l.text l.level (drop l.place l.tokens)) ≡ parts_from l.text 0 l.tokens;
  order : l.start ≤ l.place;
  small : l.level ≤ l.place;
}
