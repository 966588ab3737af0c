use Rattle.std.proofs.Common.{◌≡◌, ℕ, List, IfOk, length, filter, ap, sym, subst, ◌∙◌}
use Rattle.std.specs.List.{list_any, range_with_len}
use Rattle.schema_model.specs.Schemas.{columns_of}
use Rattle.sql_bind.specs.Marks.{marked_numbers}
use Rattle.sql_bind.specs.Needs.{names_column}
use Rattle.sql_bind.specs.Parts.{exprs_of_parts}
use Rattle.sql_bind.proofs.MarkLaws.{marked_named}
use Rattle.sql_bind.proofs.needs.named_columns.Goals as goal

pub returns : goal.returns
returns c =
    let named = λ (column : ℕ).
    list_any (names_column c.args.item column) (exprs_of_parts c.args.parts.now) in
    let wide = ap (λ columns. length columns) c.as_slice-width.ensures
    ∙ sym (ap (λ t. length (columns_of t)) c.table.ensures.found) in
    let same = ap marked_numbers c.as_slice.ensures.value
    ∙ marked_named named (length c.as_slice-width.result.now) c.in_ok-marks.marks.items
    c.in_ok-marks.ensures
    ∙ ap (λ width. filter named (range_with_len 0 width)) wide in
    subst (λ (ns : List ℕ). IfOk c.numbers.result (λ list. list.items ≡ ns)) same c.numbers.ensures
