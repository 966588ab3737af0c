use Rattle.std.proofs.Common.{◌≡◌, ◌+◌, ◌≤◌, drop}
use Rattle.schema_text.specs.ColumnTexts.{type_len}
use Rattle.schema_text.proofs.column_texts.type_len.Given as goal

abbrev pub invariant-loop-place : goal.invariant-loop-place
invariant-loop-place l = record {
  same : type_len l.text 0 l.tokens ≡ l.place + type_len l.text l.level (drop l.place l.tokens);
  small : l.level ≤ l.place;
}
