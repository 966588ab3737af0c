use Rattle.std.proofs.Common.{◌∙◌, ap, sym, map}
use Rattle.index_lists.proofs.SortColumns.{sort_columns_are}
use Rattle.index_lists.specs.SortColumns.{sort_column_of}
use Rattle.plan_form.proofs.lists.sort_columns.Goals as goal

pub returns : goal.returns
returns c =
    c.in_ok-list.ensures ∙ ap (map sort_column_of) c.as_slice.ensures
    ∙ sym (sort_columns_are c.args.schema.now c.args.index c.index.result.now c.index.ensures)
