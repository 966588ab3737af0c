use Rattle.std.proofs.Common.{◌≡◌, drop, map}
use Rattle.schema_text.specs.TableTexts.{has_any}
use Rattle.schema_text.proofs.table_texts.has_any.Given as goal

abbrev pub invariant-loop-item : goal.invariant-loop-item
invariant-loop-item l =
    has_any l.text (map (λ item. item.now) l.items)
    ≡ has_any l.text (map (λ item. item.now) (drop l.item-index l.items))
