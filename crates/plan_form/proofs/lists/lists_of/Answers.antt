use Rattle.std.proofs.Common.{◌≡◌, ◌≤◌, length, arith, subst, List}
use Rattle.std.proofs.lemmas.List.{length-map}
use Rattle.sql_meaning.proofs.Links.{all_at}
use Rattle.sql_meaning.specs.Paths.{Path}
use Rattle.schema_model.specs.PlainSchemas.{plain_rows, plain_schema}
use Rattle.plan_form.specs.Paths.{path_of}
use Rattle.plan_form.specs.Seeks.{HasIndex, lent_paths}
use Rattle.plan_form.specs.SortedLists.{AreListsOf, AreSearchable}
use Rattle.plan_form.proofs.ListsOfPaths.{lists_more, searchable_more, all_taken}
use Rattle.plan_form.proofs.lists.lists_of.Goals as goal

pub list_of-requires : goal.list_of-requires
list_of-requires c =
    all_at (HasIndex (plain_schema c.args.schema.now)) (lent_paths c.args.paths.now)
    c.loop-number.number (path_of c.path_at.result.now) c.requires.indexes c.path_at.ensures

pub loop-number-preserved : goal.loop-number-preserved
loop-number-preserved c = record {
  lists = lists_more (plain_schema c.args.schema.now) (plain_rows c.args.rows.now)
      (lent_paths c.args.paths.now) c.loop-number.number (path_of c.path_at.result.now)
      c.loop-number.lists.items c.push.new.self.items c.in_ok-list.list c.path_at.ensures
      c.in_ok-push.ensures.items c.in_ok-list.ensures.list c.loop-number.invariant.lists;
  searchable = searchable_more (plain_schema c.args.schema.now) (plain_rows c.args.rows.now)
      (lent_paths c.args.paths.now) c.loop-number.number (path_of c.path_at.result.now)
      c.loop-number.lists.items c.push.new.self.items c.in_ok-list.list c.path_at.ensures
      c.in_ok-push.ensures.items c.requires.rising c.in_ok-list.ensures.list
      c.in_ok-list.ensures.few c.loop-number.invariant.searchable;
}

pub returns-clause-lists : goal.returns-clause-lists
returns-clause-lists c =
    let paths = lent_paths c.args.paths.now in
    let past : length paths ≤ c.loop-number.number =
    let e : length paths ≡ length c.args.paths.now = length-map c.args.paths.now _ in
    omega (arith, e) in
    subst (λ (l : List Path). AreListsOf (plain_schema c.args.schema.now) (plain_rows c.args.rows.now) l c.loop-number.lists.items)
    (all_taken paths c.loop-number.number past) c.loop-number.invariant.lists

pub returns-clause-searchable : goal.returns-clause-searchable
returns-clause-searchable c =
    let paths = lent_paths c.args.paths.now in
    let past : length paths ≤ c.loop-number.number =
    let e : length paths ≡ length c.args.paths.now = length-map c.args.paths.now _ in
    omega (arith, e) in
    subst (λ (l : List Path). AreSearchable l c.loop-number.lists.items)
    (all_taken paths c.loop-number.number past) c.loop-number.invariant.searchable
