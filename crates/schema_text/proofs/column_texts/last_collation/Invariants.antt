use Rattle.std.proofs.Common.{◌≡◌, ◌≤◌, drop}
use Rattle.schema_text.specs.Heads.{or_else}
use Rattle.schema_text.specs.ColumnTexts.{last_collation}
use Rattle.schema_text.proofs.column_texts.last_collation.Given as goal

abbrev pub invariant-loop-place : goal.invariant-loop-place
invariant-loop-place l = record {
  same : last_collation l.text 0 l.rest
      ≡ or_else (last_collation l.text l.level (drop l.place l.rest)) l.last;
  small : l.level ≤ l.place;
}
