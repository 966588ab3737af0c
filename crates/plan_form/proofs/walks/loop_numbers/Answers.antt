use Rattle.std.proofs.Common.{◌≡◌, ap, ◌∙◌, sym, subst, map, List, Some}
use Rattle.std.specs.List.{AllByRecursion}
use Rattle.sql_meaning.specs.Rows as plain
use Rattle.sql_value.specs.View.{plain_value}
use Rattle.schema_model.specs.PlainSchemas.{plain_database, plain_rows}
use Rattle.sql_eval.specs.Environments.{placed}
use Rattle.index_lists.specs.Lent.{lent_rows}
use Rattle.plan_form.specs.LoopRows.{IsRowIn, walked_rows}
use Rattle.plan_form.specs.Plans.{loop_of}
use Rattle.plan_form.proofs.Members.{walked_members}
use Rattle.plan_form.proofs.walks.loop_numbers.Goals as goal

pub row_numbers-requires-clause-members : goal.row_numbers-requires-clause-members
row_numbers-requires-clause-members c =
    let table = plain_rows c.args.table.now in
    let along = c.requires.along in
    let env = placed (plain_database c.args.source.now.tables.now) c.args.places.now in
    let params = map plain_value c.args.source.now.params.now in
    let seen : lent_rows c.as_slice.result.now
    ≡ walked_rows along.schema params (loop_of c.args.each.now) table env =
    ap lent_rows c.as_slice.ensures.value ∙ c.in_ok-rows.ensures along.schema table along.are in
    subst (λ (l : List plain.Row). AllByRecursion (IsRowIn table) l) (sym seen)
    (walked_members along.schema params (loop_of c.args.each.now) table env)

pub returns-clause-rows : goal.returns-clause-rows
returns-clause-rows c = λ schema are.
    c.in_ok-numbers.ensures.rows
    ∙ ap (map Some)
    (ap lent_rows c.as_slice.ensures.value
    ∙ c.in_ok-rows.ensures schema (plain_rows c.args.table.now) are)
