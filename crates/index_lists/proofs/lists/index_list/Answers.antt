use Rattle.std.proofs.Common.{ap, sym, ◌∙◌, map}
use Rattle.sql_meaning.specs.IndexLists.{index_entries}
use Rattle.schema_model.specs.PlainSchemas.{plain_rows}
use Rattle.index_lists.specs.SortColumns.{sort_column_of}
use Rattle.index_lists.proofs.SortColumns.{sort_columns_are}
use Rattle.index_lists.proofs.lists.index_list.Goals as goal

pub returns : goal.returns
returns c =
    let rows = plain_rows c.args.rows.now in
    c.in_ok-sorted.ensures
    ∙ ap (index_entries (map sort_column_of c.as_slice.result.now)) c.in_ok-list.ensures
    ∙ ap (λ cs. index_entries (map sort_column_of cs) rows) c.as_slice.ensures
    ∙ ap (λ ss. index_entries ss rows)
    (sym (sort_columns_are c.args.schema.now c.args.index c.index.result.now c.index.ensures))
