use Rattle.std.proofs.Common.{◌≡◌, ◌++◌, ◌==◌, ◌≤◌, OnOk, List, [], map, take, ap, sym, ◌∙◌}
use Rattle.std.proofs.Common.{append_assoc, subst, slice_index_or}
use Rattle.std.specs.Prelude.{codes}
use Rattle.std.proofs.lemmas.List.{length-map, take-map}
use Rattle.plan_form.specs.Texts.{joined, joined_at, equal_tests, bound_tests, index_tests}
use Rattle.plan_form.specs.Texts.{told_column}
use Rattle.schema_model.specs.declared.indexes.IndexColumn.{IndexColumn}
use Rattle.plan_form.proofs.JoinedTests.{tests_are}
use Rattle.plan_form.proofs.text.append_enclosed.Goals as goal

pub returns : goal.returns
returns c =
    let told = λ (columns : List IndexColumn). map (λ k. told_column c.args.table.now k.column) columns
    in
    let names = told c.args.columns.now in
    let equals = c.args.tests.equals in
    let start = c.args.text.now ++ codes " (" in
    let next = joined_at (equals == 0)
    (bound_tests (slice_index_or names equals []) c.args.tests.low c.args.tests.high) in
    let all = joined (index_tests names equals c.args.tests.low c.args.tests.high) in
    subst
    (λ t. OnOk c.append-2.result (c.append-2.new.self ≡ t))
    (ap (λ t. t ++ codes ")")
    (c.in_ok-append_next_tests.ensures
    ∙ ap (λ t. t ++ next)
    (c.in_ok-append_equal_tests.ensures
    ∙ ap (λ t. t ++ joined (equal_tests (told (take equals c.args.columns.now))))
    c.in_ok-append.ensures.ok
    ∙ ap (λ ns. start ++ joined (equal_tests ns)) (sym (take-map _ equals c.args.columns.now)))
    ∙ append_assoc start (joined (equal_tests (take equals names))) next
    ∙ ap (λ t. start ++ t)
    (tests_are names equals c.args.tests.low c.args.tests.high
    (subst (λ n. equals ≤ n) (sym (length-map c.args.columns.now _)) c.requires.equals)))
    ∙ append_assoc start all (codes ")")
    ∙ append_assoc c.args.text.now (codes " (") (all ++ codes ")"))
    c.append-2.ensures.ok
