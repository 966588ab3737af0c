use Rattle.std.proofs.Common.{◌∙◌, sym, map}
use Rattle.schema_text.proofs.ColumnLaws.{columns_sound}
use Rattle.schema_text.proofs.table_texts.read_items.Goals as goal

pub read_keys-requires-clause-few : goal.read_keys-requires-clause-few
read_keys-requires-clause-few c =
    (columns_sound c.args.text.now (map (λ item. item.now) c.args.items.now) c.in-Some.columns
    (sym c.in_ok-columns.ensures ∙ c.in-Some.is)).0.few

pub finish_table-requires : goal.finish_table-requires
finish_table-requires c =
    (columns_sound c.args.text.now (map (λ item. item.now) c.args.items.now) c.in-Some.columns
    (sym c.in_ok-columns.ensures ∙ c.in-Some.is)).0
