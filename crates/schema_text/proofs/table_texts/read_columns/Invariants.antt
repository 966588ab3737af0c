use Rattle.std.proofs.Common.{◌≡◌, drop, map, []}
use Rattle.schema_text.specs.TableTexts.{columns_from}
use Rattle.schema_text.proofs.table_texts.read_columns.Given as goal

abbrev pub invariant-loop-item : goal.invariant-loop-item
invariant-loop-item l =
    columns_from l.text l.columns (map (λ item. item.now) (drop l.item-index l.items))
    ≡ columns_from l.text [] (map (λ item. item.now) l.items)
