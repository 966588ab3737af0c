-- What a statement means in a schema, and the checks that it has to pass, in their order. Each is
-- stated apart: the meaning is total, and stands where no check fails.
use Rattle.std.specs.Prelude.{ℕ, Option, None, List, [], ◌∷◌, ◌++◌, map, flat_map}
use Rattle.sql_meaning.specs.Statements.{Bound, Conjunct}
use Rattle.sql_tree.specs.Statements.{StatementTree}
use Rattle.schema_model.specs.Schemas.{Schema}
use Rattle.sql_names.specs.declared.faults.BindFault.{BindFault}
use Rattle.sql_names.specs.Faults.{first_failing}
use Rattle.sql_names.specs.Scopes.{Scope}
use Rattle.sql_bind.specs.Clauses.{sources_of, entries_of, sets_of, filter_of, order_keys_of}
use Rattle.sql_bind.specs.Clauses.{limit_of, offset_of, changes_rows}
use Rattle.sql_bind.specs.Sources.{from_checks, scope_of}
use Rattle.sql_bind.specs.Results.{ResultColumn, entry_checks, result_columns}
use Rattle.sql_bind.specs.Conditions.{conditions, ons_checks, condition_checks, conjuncts_in}
use Rattle.sql_bind.specs.Conditions.{set_checks}
use Rattle.sql_bind.specs.Conditions.{count_of_terms_check}
use Rattle.sql_bind.specs.Keys.{key_checks, sort_key}
use Rattle.sql_bind.specs.Needs.{needs_in}

abbrev pub results_in : Scope → StatementTree → List ResultColumn
results_in scope tree = result_columns scope (entries_of tree)

abbrev pub terms_in : Scope → StatementTree → List Conjunct
terms_in scope tree = conjuncts_in scope (conditions (sources_of tree) (filter_of tree))

-- behind FROM: the result list, ON, SET, WHERE, ORDER BY, and last the number of terms
abbrev pub later_checks : Scope → StatementTree → List (Option BindFault)
later_checks scope tree =
    flat_map (entry_checks scope) (entries_of tree)
    ++ (ons_checks scope (sources_of tree)
    ++ (flat_map (set_checks scope) (sets_of tree)
    ++ (condition_checks scope None (filter_of tree)
    ++ (flat_map (key_checks scope (results_in scope tree)) (order_keys_of tree)
    ++ count_of_terms_check (terms_in scope tree) ∷ []))))

abbrev pub checks : Schema → StatementTree → List (Option BindFault)
checks schema tree =
    from_checks schema (sources_of tree) ++ later_checks (scope_of schema (sources_of tree)) tree

-- the first check that a statement fails
abbrev pub first_failure : Schema → StatementTree → Option BindFault
first_failure schema tree = first_failing (checks schema tree)

abbrev pub bound_in : Scope → StatementTree → Bound
bound_in scope tree = record {
  items = scope.items;
  rowids = changes_rows tree;
  results = map (λ r. r.expr) (results_in scope tree);
  conjuncts = terms_in scope tree;
  keys = map (sort_key scope (results_in scope tree)) (order_keys_of tree);
  limit = limit_of tree;
  offset = offset_of tree;
}

-- the bound statement, where no check fails
abbrev pub bound_statement : Schema → StatementTree → Bound
bound_statement schema tree = bound_in (scope_of schema (sources_of tree)) tree

-- what it needs of each item
abbrev pub needs_statement : Schema → StatementTree → List (List ℕ)
needs_statement schema tree =
    needs_in (scope_of schema (sources_of tree)) (bound_statement schema tree)
