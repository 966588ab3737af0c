use Rattle.std.proofs.Common.{◌≡◌, ◌++◌, OnOk, subst, ap, ◌∙◌, map}
use Rattle.plan_form.specs.Texts.{in_parentheses, index_tests}
use Rattle.plan_form.proofs.IndexColumns.{told_are}
use Rattle.plan_form.proofs.text.append_seek_tests.Goals as goal

pub returns : goal.returns
returns c =
    subst
    (λ names. OnOk c.append_enclosed.result
    (c.append_enclosed.new.text
    ≡ c.args.text.now
    ++ in_parentheses (index_tests names c.args.tests.equals c.args.tests.low c.args.tests.high)))
    (ap (map _) c.as_slice.ensures
    ∙ told_are c.args.schema.now c.args.number c.index-index.result.now c.table-table.result.now
    c.index-index.ensures c.table-table.ensures) c.append_enclosed.ensures
