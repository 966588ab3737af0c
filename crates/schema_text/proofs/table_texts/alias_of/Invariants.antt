use Rattle.std.proofs.Common.{◌≡◌, drop}
use Rattle.schema_text.specs.TableTexts.{alias_of}
use Rattle.schema_text.proofs.table_texts.alias_of.Given as goal

abbrev pub invariant-loop-key : goal.invariant-loop-key
invariant-loop-key l = alias_of l.flags l.keys ≡ alias_of l.flags (drop l.key-index l.keys)
