use Rattle.std.proofs.Common.{◌≡◌, ◌≤◌, ◌+◌, ◌++◌, refl, ap, sym, ◌∙◌, length, arith, drop, append_assoc}
use Rattle.std.proofs.lemmas.List.{length-map}
use Rattle.sql_meaning.proofs.Links.{all_at}
use Rattle.sql_meaning.specs.Paths.{form_of, form_walk, path_list}
use Rattle.schema_model.specs.PlainSchemas.{plain_database}
use Rattle.sql_eval.specs.Environments.{assignment_of, params_of}
use Rattle.index_lists.specs.Lent.{lent_rows}
use Rattle.plan_form.specs.LoopRows.{branch_rows}
use Rattle.plan_form.specs.Paths.{path_of}
use Rattle.plan_form.specs.Seeks.{FormGives, keys_form, lent_paths}
use Rattle.plan_form.proofs.Forms.{seek_is}
use Rattle.plan_form.proofs.ListsOfPaths.{list_is, searchable_at, as_many, all_dropped}
use Rattle.list_laws.proofs.Turns.{dropped_get}
use Rattle.plan_form.proofs.path_rows.rows_of_paths.Goals as goal

pub list_at-requires : goal.list_at-requires
list_at-requires c =
    let many : length c.args.lists.now ≡ length (lent_paths c.args.paths.now) =
    as_many (lent_paths c.args.paths.now) c.args.lists.now c.requires.searchable in
    let e : length (lent_paths c.args.paths.now) ≡ length c.args.paths.now =
    length-map c.args.paths.now _ in
    omega (arith, many, e)

pub seek_along-requires-clause-gives : goal.seek_along-requires-clause-gives
seek_along-requires-clause-gives c =
    all_at
    (λ path. FormGives (plain_database c.args.env.now.tables.now) c.args.env.now.places.now
    (keys_form path)) (lent_paths c.args.paths.now) c.loop-number.number
    (path_of c.path_at.result.now) c.requires.gives c.path_at.ensures

pub seek_along-requires-clause-searchable : goal.seek_along-requires-clause-searchable
seek_along-requires-clause-searchable c =
    searchable_at (lent_paths c.args.paths.now) c.args.lists.now c.loop-number.number
    (path_of c.path_at.result.now) c.list_at.result.now c.requires.searchable c.path_at.ensures
    c.list_at.ensures

pub loop-number-preserved : goal.loop-number-preserved
loop-number-preserved c = λ schema rows along.
    let env = assignment_of c.args.env.now in
    let params = params_of c.args.env.now in
    let paths = lent_paths c.args.paths.now in
    let n = c.loop-number.number in
    let path = path_of c.path_at.result.now in
    let is = list_is schema rows paths c.args.lists.now n path c.list_at.result.now along
    c.path_at.ensures c.list_at.ensures in
    let before = lent_rows c.loop-number.found.items in
    let later = branch_rows schema params (drop (n + 1) paths) rows env in
    let piece : lent_rows c.as_slice.result.now
    ≡ form_walk (form_of schema path) params env (path_list schema path rows) =
    ap lent_rows c.as_slice.ensures.value ∙ c.in_ok-rows.ensures
    ∙ seek_is schema path params env _ (lent_rows c.list_at.result.now.rows.items) is.columns
    ∙ ap (form_walk (form_of schema path) params env) is.rows_are in
    ap (λ l. l ++ later) (c.in_ok-append_rows.ensures ∙ ap (λ l. before ++ l) piece)
    ∙ append_assoc before _ later
    ∙ ap (λ ps. before ++ branch_rows schema params ps rows env)
    (sym (dropped_get paths n path c.path_at.ensures))
    ∙ c.loop-number.invariant schema rows along

pub returns : goal.returns
returns c = λ schema rows along.
    let env = assignment_of c.args.env.now in
    let params = params_of c.args.env.now in
    let paths = lent_paths c.args.paths.now in
    let n = c.loop-number.number in
    let past : length paths ≤ n =
    let e : length paths ≡ length c.args.paths.now = length-map c.args.paths.now _ in
    omega (arith, e) in
    all_dropped (λ ps. branch_rows schema params ps rows env) paths n
    (lent_rows c.loop-number.found.items) past refl
    ∙ c.loop-number.invariant schema rows along
