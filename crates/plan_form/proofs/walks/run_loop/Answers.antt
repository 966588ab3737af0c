use Rattle.std.proofs.Common.{◌≡◌, [], List, ap, ◌∙◌, sym, subst, map, Some}
use Rattle.std.specs.List.{AllByRecursion, flat_map}
use Rattle.std.specs.Prelude.{slice_index_or}
use Rattle.sql_meaning.specs.Paths.{Path}
use Rattle.sql_meaning.specs.Rows.{Row}
use Rattle.sql_meaning.specs.Schemas.{RisingRows}
use Rattle.sql_meaning.specs.Statements.{is_left, table_of}
use Rattle.sql_value.specs.View.{plain_value}
use Rattle.schema_model.specs.PlainSchemas.{plain_database, plain_rows, plain_schema}
use Rattle.sql_bound.specs.Statements.{bound_of}
use Rattle.bound_rows.specs.Levels.{with_rows, level_rows}
use Rattle.bound_rows.specs.Places.{assignments, held}
use Rattle.bound_rows.specs.Readable.{lent_exprs}
use Rattle.bound_rows.specs.Tested.{level_table}
use Rattle.bound_rows.proofs.Testing.{few_at}
use Rattle.plan_form.specs.LoopRows.{walked_rows}
use Rattle.plan_form.specs.Plans.{loop_of}
use Rattle.plan_form.specs.Seeks.{HasIndex, walked_paths}
use Rattle.plan_form.specs.SortedLists.{AreListsOf, AreSearchable}
use Rattle.plan_form.specs.declared.lists.SortedList.{SortedList}
use Rattle.plan_form.proofs.walks.run_loop.Goals.{After-as_slice, After-table_rows-table}
use Rattle.plan_form.proofs.walks.run_loop.Goals as goal

-- the rows are those of the level's table
table_is : (c : After-table_rows-table)
    → plain_rows c.table_rows-table.result.now
    ≡ slice_index_or (plain_database c.args.source.now.tables.now) (level_table c.args.level.now) []
table_is c =
    c.table_rows-table.ensures
    ∙ ap (λ o. slice_index_or (plain_database c.args.source.now.tables.now) (table_of o) [])
    (sym c.level_item.ensures)

lists_are : (c : After-as_slice)
    → AreListsOf (plain_schema c.args.schema.now) (plain_rows c.table_rows-table.result.now)
    (walked_paths (loop_of c.args.each.now).path) c.as_slice.result.now
lists_are c =
    subst
    (λ (ls : List SortedList). AreListsOf (plain_schema c.args.schema.now)
    (plain_rows c.table_rows-table.result.now) (walked_paths (loop_of c.args.each.now).path) ls)
    (sym c.as_slice.ensures.value)
    (subst
    (λ (ps : List Path). AreListsOf (plain_schema c.args.schema.now)
    (plain_rows c.table_rows-table.result.now) ps c.in_ok-lists.lists.items)
    c.walked_paths.ensures c.in_ok-lists.ensures.lists)

pub lists_of-requires-clause-indexes : goal.lists_of-requires-clause-indexes
lists_of-requires-clause-indexes c =
    subst (λ (ps : List Path). AllByRecursion (HasIndex (plain_schema c.args.schema.now)) ps)
    (sym c.walked_paths.ensures) c.requires.indexes

pub lists_of-requires-clause-rising : goal.lists_of-requires-clause-rising
lists_of-requires-clause-rising c =
    subst (λ (rows : List Row). RisingRows rows) (sym (table_is (goal.at.lists_of-requires-clause-rising c).After-table_rows-table))
    (c.requires.conform.sound.rising (level_table c.args.level.now))

pub with_loop_rows-requires-clause-table : goal.with_loop_rows-requires-clause-table
with_loop_rows-requires-clause-table c =
    table_is (goal.at.with_loop_rows-requires-clause-table c).After-table_rows-table

pub with_loop_rows-requires-clause-along : goal.with_loop_rows-requires-clause-along
with_loop_rows-requires-clause-along c =
    record { schema = plain_schema c.args.schema.now; are = lists_are (goal.at.with_loop_rows-requires-clause-along c).After-as_slice }

pub with_loop_rows-requires-clause-searchable : goal.with_loop_rows-requires-clause-searchable
with_loop_rows-requires-clause-searchable c =
    subst
    (λ (ls : List SortedList). AreSearchable (walked_paths (loop_of c.args.each.now).path) ls)
    (sym c.as_slice.ensures.value)
    (subst (λ (ps : List Path). AreSearchable ps c.in_ok-lists.lists.items)
    c.walked_paths.ensures c.in_ok-lists.ensures.searchable)

pub with_loop_rows-requires-clause-rising : goal.with_loop_rows-requires-clause-rising
with_loop_rows-requires-clause-rising c =
    subst (λ (rows : List Row). RisingRows rows) (sym (table_is (goal.at.with_loop_rows-requires-clause-rising c).After-table_rows-table))
    (c.requires.conform.sound.rising (level_table c.args.level.now))

pub with_loop_rows-requires-clause-few : goal.with_loop_rows-requires-clause-few
with_loop_rows-requires-clause-few c =
    few_at c.args.source.now.tables.now (level_table c.args.level.now) c.table_rows-table.result.now
    c.requires.few c.requires.table
    (table_is (goal.at.with_loop_rows-requires-clause-few c).After-table_rows-table)

pub returns-clause-found : goal.returns-clause-found
returns-clause-found c =
    let level = c.args.level.now in
    let params = map plain_value c.args.source.now.params.now in
    c.in_ok-found.ensures.found (plain_schema c.args.schema.now)
    (lists_are (goal.at.returns-clause-found c).After-as_slice)
    ∙ ap
    (λ rows. flat_map
    (λ env. with_rows params (lent_exprs level.common.items) level.item
    (level_rows (is_left (bound_of level.bound.now) level.item) params
    (lent_exprs level.owned.items) level.item
    (map Some
    (walked_rows (plain_schema c.args.schema.now) params (loop_of c.args.each.now) rows env))
    env) env)
    (assignments (plain_database c.args.source.now.tables.now) (held c.args.outer.now)))
    (table_is (goal.at.returns-clause-found c).After-table_rows-table)
