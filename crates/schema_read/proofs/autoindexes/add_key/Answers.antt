use Rattle.std.proofs.Common.{◌≡◌, IfOk, List, ap, sym, ◌∙◌, subst}
use Rattle.schema_model.specs.declared.columns.Column.{Column}
use Rattle.schema_text.specs.declared.entries.KeyColumn.{KeyColumn}
use Rattle.schema_read.specs.Autoindexes.{Autoindexes, is_on_rowid, index_columns}
use Rattle.schema_read.proofs.KeyShapes.{same_key}
use Rattle.schema_read.proofs.autoindexes.add_key.Goals as goal

pub returns-clause-same : goal.returns-clause-same
returns-clause-same c =
    let table = c.table-table.result.now in
    let key = c.args.key.now.columns in
    let a : Autoindexes =
    record { schema = c.args.schema.now; shapes = c.args.shapes.now; count = c.args.count } in
    let other = ap (λ (k : List KeyColumn). is_on_rowid table.alias k) (sym c.as_slice.ensures)
    ∙ sym c.is_on_rowid.ensures ∙ c.if-is_on_rowid.false in
    let columns =
    c.in_ok-columns.ensures
    ∙ ap (λ (cs : List Column). index_columns cs c.as_slice-3.result.now) c.as_slice-2.ensures
    ∙ ap (λ (k : List KeyColumn). index_columns table.columns k) c.as_slice-3.ensures in
    subst (λ (x : Autoindexes). IfOk c.add_shape.result
    (λ more. record {
      schema = c.add_shape.new.schema;
      shapes = c.add_shape.new.shapes;
      count = more;
    } ≡ x))
    (same_key c.args.number key table a c.in_ok-columns.columns c.table-table.ensures other columns)
    c.add_shape.ensures.same
