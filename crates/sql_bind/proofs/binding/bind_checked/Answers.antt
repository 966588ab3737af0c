use Rattle.std.proofs.Common.{◌≡◌, IfOk, map, flat_map, [], subst, ap, ◌∙◌}
use Rattle.sql_tree.specs.Statements.{statement_tree}
use Rattle.sql_names.specs.Scopes.{Scope}
use Rattle.sql_names.specs.Faults.{Answers}
use Rattle.sql_bind.specs.Clauses.{sources_of}
use Rattle.sql_bind.specs.Sources.{table_checks, name_checks, named_item, scope_from}
use Rattle.sql_bind.specs.Views.{named_of}
use Rattle.sql_bind.specs.Binding.{later_checks}
use Rattle.sql_bind.specs.Parts.{aliases_of, whole, whole_in, whole_statement}
use Rattle.sql_bind.proofs.Turns.{exits}
use Rattle.sql_bind.proofs.Steps.{Fails, Passes}
use Rattle.sql_bind.proofs.FromSteps.{fails_tables, fails_names, answers_later, known_names}
use Rattle.sql_bind.proofs.FromSteps.{known_aliases, has_room}
use Rattle.sql_bind.proofs.binding.bind_checked.Goals as goal

pub returns-in_err-list-clause-answer : goal.returns-in_err-list-clause-answer
returns-in_err-list-clause-answer c =
    let schema = c.args.schema.now in
    let tree = statement_tree c.args.stmt.now in
    let fault = c.in_err-list.field-0.0 in
    let room = has_room c.sources_of-sources.result.now _ c.if-sources-gt-MOST_ITEMS.false
    c.sources_of-sources.ensures in
    exits _ c.from_residual.result fault _ _ c.from_residual.ensures.1
    (fails_tables schema tree room fault
    (subst (Fails fault) (ap (flat_map (table_checks schema)) c.sources_of-sources.ensures)
    c.in_err-list.ensures.answer))

pub bind_in-requires-clause-few : goal.bind_in-requires-clause-few
bind_in-requires-clause-few c =
    has_room c.sources_of-sources.result.now _ c.if-sources-gt-MOST_ITEMS.false
    c.sources_of-sources.ensures

pub scope_of-requires-clause-there : goal.scope_of-requires-clause-there
scope_of-requires-clause-there c = rw c.as_slice.ensures.value c.in_ok-list.ensures.there

pub returns-in_err-scope-clause-answer : goal.returns-in_err-scope-clause-answer
returns-in_err-scope-clause-answer c =
    let schema = c.args.schema.now in
    let tree = statement_tree c.args.stmt.now in
    let fault = c.in_err-scope.field-0.0 in
    let room = has_room c.sources_of-sources.result.now _ c.if-sources-gt-MOST_ITEMS.false
    c.sources_of-sources.ensures in
    let passed = subst Passes (ap (flat_map (table_checks schema)) c.sources_of-sources.ensures)
    c.in_ok-list.ensures.answer.0 in
    let items = ap (map named_of) c.as_slice.ensures.value ∙ c.in_ok-list.ensures.answer.1
    ∙ ap (map (named_item schema)) c.sources_of-sources.ensures in
    exits _ c.from_residual-in_err-scope.result fault _ _ c.from_residual-in_err-scope.ensures.1
    (fails_names schema tree room fault passed
    (subst (Fails fault)
    (ap (name_checks []) (ap (map (λ n. n.name)) items ∙ known_names schema (sources_of tree)))
    c.in_err-scope.ensures))

pub returns-clause-answer : goal.returns-clause-answer
returns-clause-answer c =
    let schema = c.args.schema.now in
    let tree = statement_tree c.args.stmt.now in
    let room = has_room c.sources_of-sources.result.now _ c.if-sources-gt-MOST_ITEMS.false
    c.sources_of-sources.ensures in
    let passed = subst Passes (ap (flat_map (table_checks schema)) c.sources_of-sources.ensures)
    c.in_ok-list.ensures.answer.0 in
    let items = ap (map named_of) c.as_slice.ensures.value ∙ c.in_ok-list.ensures.answer.1
    ∙ ap (map (named_item schema)) c.sources_of-sources.ensures in
    let names = subst Passes
    (ap (name_checks []) (ap (map (λ n. n.name)) items ∙ known_names schema (sources_of tree)))
    c.in_ok-scope.ensures.0 in
    answers_later schema tree room whole c.bind_in.result (whole_statement schema tree) passed names
    (subst
    (λ (scope : Scope).
    Answers whole c.bind_in.result (later_checks scope tree) (whole_in scope tree))
    (c.in_ok-scope.ensures.1 ∙ ap (scope_from schema) items) c.bind_in.ensures.answer)

pub returns-clause-aliases : goal.returns-clause-aliases
returns-clause-aliases c =
    let schema = c.args.schema.now in
    let sources = sources_of (statement_tree c.args.stmt.now) in
    let items = ap (map named_of) c.as_slice-2.ensures.value ∙ c.in_ok-list.ensures.answer.1
    ∙ ap (map (named_item schema)) c.sources_of-sources.ensures in
    subst (λ aliases. IfOk c.bind_in.result (λ b. aliases_of b ≡ aliases))
    (ap (map (λ n. n.alias)) items ∙ known_aliases schema sources) c.bind_in.ensures.aliases
