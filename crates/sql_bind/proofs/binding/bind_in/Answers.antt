use Rattle.std.proofs.Common.{None, map, flat_map, ap, ap₂, ◌∙◌}
use Rattle.sql_tree.specs.Statements.{statement_tree}
use Rattle.sql_bound.specs.Statements.{sort_key_of}
use Rattle.sql_names.specs.declared.faults.BindFault.TheVariants.{TooManyTerms}
use Rattle.sql_bind.specs.Results.{entry_checks}
use Rattle.sql_bind.specs.Conditions.{ons_checks, condition_checks, set_checks}
use Rattle.sql_bind.specs.Keys.{key_checks, sort_key}
use Rattle.sql_bind.specs.Views.{named_of}
use Rattle.sql_bind.specs.declared.parts.Parts.{Parts}
use Rattle.sql_bind.proofs.Turns.{exits}
use Rattle.sql_bind.proofs.Steps.{passes_as, fails_as, fails_results, fails_ons}
use Rattle.sql_bind.proofs.Steps.{fails_sets, fails_filter, fails_keys, fails_count, count_fails}
use Rattle.sql_bind.proofs.Steps.{all_pass, count_passes, results_are, terms_are, same_whole}
use Rattle.sql_bind.proofs.binding.bind_in.Goals as goal

pub returns-in_err-results-clause-answer : goal.returns-in_err-results-clause-answer
returns-in_err-results-clause-answer c =
    let scope = c.args.scope.now in
    let fault = c.in_err-results.field-0.0 in
    exits _ c.from_residual.result fault _ _ c.from_residual.ensures.1
    (fails_results scope (statement_tree c.args.stmt.now) fault
    (fails_as (flat_map (entry_checks scope)) c.entries_of.ensures fault c.in_err-results.ensures))

pub returns-in_err-terms-clause-answer : goal.returns-in_err-terms-clause-answer
returns-in_err-terms-clause-answer c =
    let scope = c.args.scope.now in
    let fault = c.in_err-terms.field-0.0 in
    let p1 = passes_as (flat_map (entry_checks scope)) c.entries_of.ensures
    c.in_ok-results.ensures.0 in
    exits _ c.from_residual-in_err-terms.result fault _ _ c.from_residual-in_err-terms.ensures.1
    (fails_ons scope (statement_tree c.args.stmt.now) fault p1
    (fails_as (ons_checks scope) c.sources_of.ensures fault c.in_err-terms.ensures))

pub returns-in_err-check_sets-clause-answer : goal.returns-in_err-check_sets-clause-answer
returns-in_err-check_sets-clause-answer c =
    let scope = c.args.scope.now in
    let fault = c.in_err-check_sets.field-0.0 in
    let p1 = passes_as (flat_map (entry_checks scope)) c.entries_of.ensures
    c.in_ok-results.ensures.0 in
    let p2 = passes_as (ons_checks scope) c.sources_of.ensures c.in_ok-terms.ensures.0 in
    exits _ c.from_residual-in_err-check_sets.result fault _ _
    c.from_residual-in_err-check_sets.ensures.1
    (fails_sets scope (statement_tree c.args.stmt.now) fault p1 p2
    (fails_as (flat_map (set_checks scope)) c.sets_of.ensures fault c.in_err-check_sets.ensures))

pub returns-in_err-bind_condition-clause-answer : goal.returns-in_err-bind_condition-clause-answer
returns-in_err-bind_condition-clause-answer c =
    let scope = c.args.scope.now in
    let fault = c.in_err-bind_condition.field-0.0 in
    let p1 = passes_as (flat_map (entry_checks scope)) c.entries_of.ensures
    c.in_ok-results.ensures.0 in
    let p2 = passes_as (ons_checks scope) c.sources_of.ensures c.in_ok-terms.ensures.0 in
    let p3 = passes_as (flat_map (set_checks scope)) c.sets_of.ensures
    c.in_ok-check_sets.ensures.0 in
    exits _ c.from_residual-in_err-bind_condition.result fault _ _
    c.from_residual-in_err-bind_condition.ensures.1
    (fails_filter scope (statement_tree c.args.stmt.now) fault p1 p2 p3
    (fails_as (condition_checks scope None) c.filter_of.ensures fault
    c.in_err-bind_condition.ensures))

pub returns-in_err-keys-clause-answer : goal.returns-in_err-keys-clause-answer
returns-in_err-keys-clause-answer c =
    let scope = c.args.scope.now in
    let tree = statement_tree c.args.stmt.now in
    let fault = c.in_err-keys.field-0.0 in
    let p1 = passes_as (flat_map (entry_checks scope)) c.entries_of.ensures
    c.in_ok-results.ensures.0 in
    let p2 = passes_as (ons_checks scope) c.sources_of.ensures c.in_ok-terms.ensures.0 in
    let p3 = passes_as (flat_map (set_checks scope)) c.sets_of.ensures
    c.in_ok-check_sets.ensures.0 in
    let p4 = passes_as (condition_checks scope None) c.filter_of.ensures
    c.in_ok-bind_condition.ensures.0 in
    let results = results_are scope tree c.as_slice.ensures.value c.in_ok-results.ensures.1
    c.entries_of.ensures in
    let keys = ap₂ (λ rs ks. flat_map (key_checks scope rs) ks) results c.order_keys_of.ensures in
    exits _ c.from_residual-in_err-keys.result fault _ _ c.from_residual-in_err-keys.ensures.1
    (fails_keys scope tree fault p1 p2 p3 p4
    (fails_as (λ checks. checks) keys fault c.in_err-keys.ensures))

pub returns-then-as_slice-gt-MOST_CONJUNCTS-clause-answer :
    goal.returns-then-as_slice-gt-MOST_CONJUNCTS-clause-answer
returns-then-as_slice-gt-MOST_CONJUNCTS-clause-answer c =
    let scope = c.args.scope.now in
    let tree = statement_tree c.args.stmt.now in
    let terms = terms_are scope tree c.as_slice-2.ensures.value c.in_ok-bind_condition.ensures.1
    c.in_ok-terms.ensures.1 c.sources_of.ensures c.filter_of.ensures in
    let results = results_are scope tree c.as_slice.ensures.value c.in_ok-results.ensures.1
    c.entries_of.ensures in
    let keys = ap₂ (λ rs ks. flat_map (key_checks scope rs) ks) results c.order_keys_of.ensures in
    fails_count scope tree TooManyTerms
    (passes_as (flat_map (entry_checks scope)) c.entries_of.ensures c.in_ok-results.ensures.0)
    (passes_as (ons_checks scope) c.sources_of.ensures c.in_ok-terms.ensures.0)
    (passes_as (flat_map (set_checks scope)) c.sets_of.ensures c.in_ok-check_sets.ensures.0)
    (passes_as (condition_checks scope None) c.filter_of.ensures
    c.in_ok-bind_condition.ensures.0)
    (passes_as (λ checks. checks) keys c.in_ok-keys.ensures.0)
    (count_fails scope tree c.as_slice-2.result.now terms c.if-as_slice-gt-MOST_CONJUNCTS.true)

pub returns-clause-answer : goal.returns-clause-answer
returns-clause-answer c =
    let scope = c.args.scope.now in
    let tree = statement_tree c.args.stmt.now in
    let results = results_are scope tree c.as_slice.ensures.value c.in_ok-results.ensures.1
    c.entries_of.ensures in
    let held = results_are scope tree c.as_slice-3.ensures.value c.in_ok-results.ensures.1
    c.entries_of.ensures in
    let counted = terms_are scope tree c.as_slice-2.ensures.value c.in_ok-bind_condition.ensures.1
    c.in_ok-terms.ensures.1 c.sources_of.ensures c.filter_of.ensures in
    let terms = terms_are scope tree c.as_slice-4.ensures.value c.in_ok-bind_condition.ensures.1
    c.in_ok-terms.ensures.1 c.sources_of.ensures c.filter_of.ensures in
    let keys = ap₂ (λ rs ks. flat_map (key_checks scope rs) ks) results c.order_keys_of.ensures in
    let sorted = ap (map sort_key_of) c.as_slice-5.ensures.value ∙ c.in_ok-keys.ensures.1
    ∙ ap₂ (λ rs ks. map (sort_key scope rs) ks) results c.order_keys_of.ensures in
    let parts : Parts = record {
      results = c.as_slice-3.result;
      terms = c.as_slice-4.result;
      keys = c.as_slice-5.result;
    } in (
      all_pass scope tree
          (passes_as (flat_map (entry_checks scope)) c.entries_of.ensures
          c.in_ok-results.ensures.0)
          (passes_as (ons_checks scope) c.sources_of.ensures c.in_ok-terms.ensures.0)
          (passes_as (flat_map (set_checks scope)) c.sets_of.ensures c.in_ok-check_sets.ensures.0)
          (passes_as (condition_checks scope None) c.filter_of.ensures
          c.in_ok-bind_condition.ensures.0)
          (passes_as (λ checks. checks) keys c.in_ok-keys.ensures.0)
          (count_passes scope tree c.as_slice-2.result.now counted
          c.if-as_slice-gt-MOST_CONJUNCTS.false),
      same_whole scope tree c.in_ok-place_bound.field-0 (map named_of c.args.list.now) parts
          c.requires.items held terms sorted c.in_ok-place_bound.ensures.bound
          c.in_ok-place_bound.ensures.needs,
    )
