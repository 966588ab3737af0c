use Rattle.schema_model.specs.PlainSchemas.{plain_database}
use Rattle.bound_rows.proofs.Testing.{few_at, numbers_within, rows_numbered, rows_counted}
use Rattle.bound_rows.proofs.filter.all_numbers.Goals as goal

pub numbers_below-requires : goal.numbers_below-requires
numbers_below-requires c =
    few_at c.args.source.now.tables.now c.args.table c.table_rows.result.now c.requires.few
    c.requires.table c.table_rows.ensures

pub returns-clause-within : goal.returns-clause-within
returns-clause-within c =
    numbers_within _ _ _ c.in_ok-numbers.ensures
    (rows_counted (plain_database c.args.source.now.tables.now) c.args.table
    c.table_rows.result.now c.table_rows.ensures)

pub returns-clause-rows : goal.returns-clause-rows
returns-clause-rows c =
    rows_numbered (plain_database c.args.source.now.tables.now) c.args.table _ _
    c.in_ok-numbers.ensures
    (rows_counted (plain_database c.args.source.now.tables.now) c.args.table
    c.table_rows.result.now c.table_rows.ensures)
