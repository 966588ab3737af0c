use Rattle.std.proofs.Common.{◌≡◌, ◌++◌, OnOk, ap, sym, ◌∙◌, subst}
use Rattle.sql_meaning.specs.Fitting.{FitsTable}
use Rattle.schema_model.specs.PlainSchemas.{plain_schema}
use Rattle.plan_form.specs.Paths.{path_of}
use Rattle.plan_form.specs.Texts.{as_text, lines_below, shown_item}
use Rattle.plan_form.proofs.SeenPaths.{path_of-Union}
use Rattle.plan_form.proofs.text.append_below.Goals as goal

pub append_branches-requires-clause-fit : goal.append_branches-requires-clause-fit
append_branches-requires-clause-fit c =
    subst (FitsTable (plain_schema c.args.schema.now) c.args.item.now.table)
    (ap path_of c.in-Union.is ∙ path_of-Union c.in-Union.paths) c.requires.fits

pub returns-in-Union : goal.returns-in-Union
returns-in-Union c =
    subst
    (λ p. OnOk c.append_branches.result
    (c.append_branches.new.text
    ≡ c.args.text.now
    ++ as_text
    (lines_below c.args.schema.now (shown_item c.args.schema.now c.args.item.now) p)))
    (sym (ap path_of c.in-Union.is ∙ path_of-Union c.in-Union.paths)) c.append_branches.ensures
