use Rattle.std.proofs.Common.{◌≡◌, ◌≤◌, drop}
use Rattle.schema_text.specs.ColumnTexts.{is_generated}
use Rattle.schema_text.proofs.column_texts.is_generated.Given as goal

abbrev pub invariant-loop-token : goal.invariant-loop-token
invariant-loop-token l = record {
  same : is_generated l.text 0 l.rest ≡ is_generated l.text l.level (drop l.token-index l.rest);
  small : l.level ≤ l.token-index;
}
