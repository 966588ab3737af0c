use Rattle.std.proofs.Common.{◌<◌, ◌∷◌, [], ◌++◌, ap, ◌∙◌, subst, refl, length, map, List, ℕ}
use Rattle.std.proofs.Common.{true, false}
use Rattle.sql_meaning.specs.Letters.{folded_bytes}
use Rattle.sql_meaning.specs.Schemas as plain
use Rattle.plan_choice.specs.Candidates.{candidate_limit}
use Rattle.plan_choice.specs.CandidateNames.{candidate_name}
use Rattle.schema_model.specs.PlainSchemas.{plain_index_column}
use Rattle.schema_model.specs.declared.indexes.Index.{Index}
use Rattle.schema_model.specs.declared.indexes.IndexColumn.{IndexColumn}
use Rattle.candidate_index.specs.Beginnings.{Serves}
use Rattle.candidate_index.specs.Naming.{naming, taken_with}
use Rattle.candidate_index.specs.declared.search.Search.{Search}
use Rattle.candidate_index.proofs.Additions.{finds_more}
use Rattle.candidate_index.proofs.search.Search.try_list.Goals as goal

pub returns-clause-finds : goal.returns-clause-finds
returns-clause-finds c =
    let schema = c.args.schema.now in
    let old : Search = c.args.self.now in
    let new : Search =
    record { found = c.push.new.self; names = c.add.new.self; beginnings = c.add-2.new.self } in
    let index : Index = record {
      name = c.in_ok-name.name;
      table = c.args.table;
      columns = c.args.columns;
      unique = false;
      usable = true;
    } in
    let of : List IndexColumn → plain.Index =
    λ cs. record { table = c.args.table; columns = map plain_index_column cs } in
    let count = c.if-count-ge-CANDIDATE_LIMIT.false in
    let few : length old.found < candidate_limit =
    subst (λ (x : List Index). length x < candidate_limit) c.as_slice-count.ensures count in
    finds_more schema old new index c.requires.finds c.in_ok-push.ensures.ok
    (c.in_ok-add.ensures.ok
    ∙ ap (λ (x : List ℕ). old.names ++ folded_bytes x ∷ []) c.as_slice-3.ensures)
    (λ all h.
    subst (λ (x : List IndexColumn). Serves new.beginnings (all ++ of x ∷ [])) c.as_slice-4.ensures
    (c.in_ok-add-2.ensures all h))
    (c.in_ok-name.ensures.exact
    ∙ ap (λ (x : List IndexColumn). candidate_name (naming schema) (taken_with schema old.names)
    (of x)) c.as_slice-2.ensures)
    (record {
      unique = refl;
      usable = refl;
      table = c.requires.table;
      columns = c.requires.columns;
    })
    few
