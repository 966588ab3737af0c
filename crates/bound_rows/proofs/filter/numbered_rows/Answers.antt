use Rattle.std.proofs.Common.{ap, ◌∙◌, map}
use Rattle.sql_meaning.specs.Expressions.{Rowid}
use Rattle.sql_meaning.specs.Statements.{image}
use Rattle.sql_meaning.specs.Offers.{IsPlannable}
use Rattle.sql_value.specs.View.{plain_value}
use Rattle.schema_model.specs.PlainSchemas.{plain_database, plain_schema}
use Rattle.sql_bound.specs.Statements.{bound_of, needs_of}
use Rattle.sql_bound.proofs.Plannable.{fitting_are_plannable}
use Rattle.bound_rows.specs.Places.{assignments, held, lent}
use Rattle.bound_rows.proofs.ItemSteps.{images_are}
use Rattle.bound_rows.proofs.Reading.{fits_readable, names_readable, tables_there}
use Rattle.bound_rows.proofs.filter.numbered_rows.Goals as goal

pub all_rows-requires-clause-readable : goal.all_rows-requires-clause-readable
all_rows-requires-clause-readable c =
    let schema = c.args.schema.now in
    let tables = c.args.tables.now in
    let bound = bound_of c.args.bound.now in
    let needs = needs_of c.args.bound.now in
    fits_readable schema tables bound needs c.requires.fits c.requires.conform

pub all_rows-requires-clause-tables : goal.all_rows-requires-clause-tables
all_rows-requires-clause-tables c =
    let schema = c.args.schema.now in
    let tables = c.args.tables.now in
    let bound = bound_of c.args.bound.now in
    let needs = needs_of c.args.bound.now in
    tables_there schema tables bound needs c.requires.fits c.requires.conform

pub images-requires-clause-readable : goal.images-requires-clause-readable
images-requires-clause-readable c =
    let schema = c.args.schema.now in
    let tables = c.args.tables.now in
    let bound = bound_of c.args.bound.now in
    let needs = needs_of c.args.bound.now in
    fits_readable schema tables bound needs c.requires.fits c.requires.conform

pub images-requires-clause-rowid : goal.images-requires-clause-rowid
images-requires-clause-rowid c =
    let schema = c.args.schema.now in
    let tables = c.args.tables.now in
    let bound = bound_of c.args.bound.now in
    let needs = needs_of c.args.bound.now in
    names_readable schema tables bound needs (Rowid 0) c.requires.fits c.requires.conform
    c.requires.fits.some_item

pub returns : goal.returns
returns c =
    let schema = c.args.schema.now in
    let tables = c.args.tables.now in
    let bound = bound_of c.args.bound.now in
    let needs = needs_of c.args.bound.now in
    let database = plain_database tables in
    let params = map plain_value c.args.params.now in
    let plannable : IsPlannable (plain_schema schema) bound =
    fitting_are_plannable (plain_schema schema) bound needs c.requires.fits in
    c.in_ok-answer.ensures
    ∙ ap (λ l. map (image bound params) (assignments database l))
    (ap lent c.as_slice-2.ensures.value ∙ c.in_ok-rows.ensures ∙ ap held c.as_slice.ensures.value)
    ∙ ap (map (image bound params)) (c.in_ok-found.ensures.found plannable.owners)
    ∙ images_are database bound params plannable.some plannable.named
