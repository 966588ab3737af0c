use Rattle.std.proofs.Common.{◌<◌, ◌≤◌, ap, sym, ◌∙◌, List, set, length, subst}
use Rattle.schema_model.specs.Columns.{rowid_column, as_rowid}
use Rattle.schema_model.specs.declared.columns.Column.{Column}
use Rattle.schema_model.proofs.RowidColumns.{set_rowid, past_end}
use Rattle.schema_model.proofs.columns.Columns.make_rowid.Goals as goal

pub returns-then-number-as_slice : goal.returns-then-number-as_slice
returns-then-number-as_slice c =
    let items = c.self.inside.held.items in
    let within = subst (λ (cs : List Column). c.args.number < length cs) c.as_slice.ensures.value
    c.if-number-as_slice.true in
    ap (λ (x : Column). set items c.args.number (rowid_column x)) c.index_mut-column.ensures.value
    ∙ set_rowid items c.args.number _ within
    ∙ ap (λ (cs : List Column). as_rowid cs c.args.number) c.self.view_is

pub returns-else-number-as_slice : goal.returns-else-number-as_slice
returns-else-number-as_slice c =
    let past = subst (λ (cs : List Column). length cs ≤ c.args.number)
    (c.as_slice.ensures.value ∙ c.self.view_is) c.if-number-as_slice.false in
    sym (past_end c.args.self.now c.args.number past)
