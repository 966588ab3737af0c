use Rattle.std.proofs.Common.{◌≡◌, ap, ◌∙◌, map, subst, sym, List}
use Rattle.sql_meaning.specs.Expressions.{Rowid}
use Rattle.sql_meaning.specs.Statements.{cut, image}
use Rattle.sql_value.specs.View.{plain_value}
use Rattle.schema_model.specs.PlainSchemas.{plain_database, plain_schema}
use Rattle.sql_bound.specs.Statements.{bound_of, needs_of}
use Rattle.sql_eval.specs.Environments.{placed}
use Rattle.sql_eval.specs.declared.environment.Place.{Place}
use Rattle.bound_rows.specs.Places.{AllFit, FitPlaces, assignments, held, lent}
use Rattle.bound_rows.proofs.Reading.{fits_readable, names_readable}
use Rattle.plan_form.specs.Plans.{plan_of}
use Rattle.plan_form.proofs.Answered.{answer_is, cut_map, cut_all}
use Rattle.plan_form.proofs.walks.walk_numbered.Goals as goal

pub ordered-requires-clause-readable : goal.ordered-requires-clause-readable
ordered-requires-clause-readable c =
    fits_readable c.args.schema.now c.args.tables.now (bound_of c.args.plan.now.bound.now)
    (needs_of c.args.plan.now.bound.now) c.requires.fits.statement c.requires.conform

pub ordered-requires-clause-fit : goal.ordered-requires-clause-fit
ordered-requires-clause-fit c =
    let database = plain_database c.args.tables.now in
    subst
    (λ (l : List (List Place)). AllFit database (bound_of c.args.plan.now.bound.now).items l)
    (sym (c.in_ok-lent.ensures ∙ ap held c.as_slice.ensures.value)) c.in_ok-found.ensures.fit

pub images-requires-clause-readable : goal.images-requires-clause-readable
images-requires-clause-readable c =
    fits_readable c.args.schema.now c.args.tables.now (bound_of c.args.plan.now.bound.now)
    (needs_of c.args.plan.now.bound.now) c.requires.fits.statement c.requires.conform

pub images-requires-clause-rowid : goal.images-requires-clause-rowid
images-requires-clause-rowid c =
    names_readable c.args.schema.now c.args.tables.now (bound_of c.args.plan.now.bound.now)
    (needs_of c.args.plan.now.bound.now) (Rowid 0) c.requires.fits.statement c.requires.conform
    c.requires.fits.statement.some_item

pub images-requires-clause-fit : goal.images-requires-clause-fit
images-requires-clause-fit c =
    let database = plain_database c.args.tables.now in
    let bound = bound_of c.args.plan.now.bound.now in
    let params = map plain_value c.args.params.now in
    let rows = lent c.in_ok-rows.rows.items in
    let left : lent c.cut_rows-left.result.now ≡ cut bound params rows =
    ap lent c.cut_rows-left.ensures
    ∙ ap (λ l. lent (cut bound params l)) c.as_slice-2.ensures.value
    ∙ sym (cut_map bound params (λ places. places.now) c.in_ok-rows.rows.items) in
    subst (λ (l : List (List Place)). AllFit database bound.items l) (sym left)
    (cut_all bound params (FitPlaces database bound.items) rows c.in_ok-rows.ensures.fit)

pub returns : goal.returns
returns c =
    let schema = plain_schema c.args.schema.now in
    let database = plain_database c.args.tables.now in
    let plan = plan_of c.args.plan.now in
    let params = map plain_value c.args.params.now in
    let rows = lent c.in_ok-rows.rows.items in
    let left : lent c.cut_rows-left.result.now ≡ cut plan.bound params rows =
    ap lent c.cut_rows-left.ensures
    ∙ ap (λ l. lent (cut plan.bound params l)) c.as_slice-2.ensures.value
    ∙ sym (cut_map plan.bound params (λ places. places.now) c.in_ok-rows.rows.items) in
    let walked : assignments database (lent c.in_ok-lent.lent.items) ≡ _ =
    ap (assignments database) (c.in_ok-lent.ensures ∙ ap held c.as_slice.ensures.value)
    ∙ c.in_ok-found.ensures.found in
    c.in_ok-answer.ensures
    ∙ ap (λ l. map (image plan.bound params) (assignments database l)) left
    ∙ ap (map (image plan.bound params)) (sym (cut_map plan.bound params (placed database) rows))
    ∙ answer_is schema database plan params _ (assignments database rows) walked
    c.in_ok-rows.ensures.list
