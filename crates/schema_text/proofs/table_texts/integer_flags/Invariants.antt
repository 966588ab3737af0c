use Rattle.std.proofs.Common.{◌≡◌, ◌++◌, drop, map}
use Rattle.schema_text.specs.TableTexts.{integer_flags}
use Rattle.schema_text.proofs.table_texts.integer_flags.Given as goal

abbrev pub invariant-loop-item : goal.invariant-loop-item
invariant-loop-item l =
    l.flags ++ integer_flags l.text (map (λ item. item.now) (drop l.item-index l.items))
    ≡ integer_flags l.text (map (λ item. item.now) l.items)
