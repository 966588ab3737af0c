-- A statement that passes its checks fits the schema.
use Rattle.std.proofs.Common.{◌≡◌, ◌<◌, ◌≤◌, ℕ, Bool, true, false, None, Some}
use Rattle.std.proofs.Common.{List, [], ◌∷◌, map, length, not, refl, sym, subst}
use Rattle.std.proofs.Common.{◌∙◌, arith, true≢false}
use Rattle.std.specs.List.{AllByRecursion, slice_get, range_with_len, list_any}
use Rattle.std.proofs.lemmas.List.{length-map}
use Rattle.std.proofs.lemmas.List.FromFn.{length-map-range_with_len, get_or-map-range_with_len}
use Rattle.std.proofs.lemmas.Option.{slice_get_within, get_or_from_slice_get}
use Rattle.sql_meaning.specs.Expressions.{BExpr}
use Rattle.sql_meaning.specs.Statements.{left_item, is_left}
use Rattle.sql_tree.specs.Statements.{SourceTree, StatementTree, Select, Update, Delete}
use Rattle.schema_model.specs.PlainSchemas.{plain_schema, plain_table}
use Rattle.schema_model.specs.Schemas.{Schema}
use Rattle.sql_bound.specs.Fits.{Fits, IsSound, StaysLeft, width, most_conjuncts}
use Rattle.sql_names.specs.Faults.{first_failing}
use Rattle.sql_names.specs.Scopes.{Scope, IsScope}
use Rattle.sql_meaning.specs.OrderState.{is_alias}
use Rattle.sql_bind.specs.Clauses.{sources_of, entries_of, filter_of, order_keys_of, changes_rows}
use Rattle.sql_bind.specs.Sources.{scope_of, named_item, from_checks, begins_left}
use Rattle.sql_bind.specs.Results.{width_at, alias_at}
use Rattle.sql_bind.specs.Conditions.{ons_terms, terms_of, count_of_terms_check}
use Rattle.sql_bind.specs.Keys.{sort_key, key_expr}
use Rattle.sql_bind.specs.Needs.{needed_of, exprs_in, columns_kept, columns_named, names_column}
use Rattle.sql_bind.specs.Binding.{later_checks, results_in, terms_in, bound_in}
use Rattle.sql_bind.specs.Binding.{bound_statement, needs_statement, first_failure}
use Rattle.list_laws.proofs.Lists.{all_always, all_append, all_filter, all_map, all_mapped}
use Rattle.sql_bind.proofs.Alls.{all_below}
use Rattle.sql_names.proofs.Checks.{passed_both}
use Rattle.sql_bind.proofs.Passed.{passed_one, few, counted, from_is_scope}
use Rattle.sql_bind.proofs.SoundParts.{wide, results_sound, key_sound}
use Rattle.sql_bind.proofs.Owners.{Kept, ons_kept, filter_kept}
use Rattle.sql_bind.proofs.Terms.{terms_together}
use Rattle.sql_bind.proofs.Steps.{of_results, of_ons, of_sets, of_filter, of_keys, of_count}

first_is_not_left : (schema : Schema) (sources : List SourceTree) → begins_left sources ≡ false
    → left_item (slice_get (map (λ n. n.item) (map (named_item schema) sources)) 0) ≡ false
first_is_not_left schema [] h = refl
first_is_not_left schema (source ∷ sources) h = h

one_source : (tree : StatementTree) → changes_rows tree ≡ true → length (sources_of tree) ≡ 1
one_source (Select s) h = absurd (true≢false (sym h))
one_source (Update u) h = refl
one_source (Delete d) h = refl

module _ (scope : Scope) (ok : IsScope scope) where
  kept_within : (item : ℕ) → AllByRecursion (λ column. column < width_at scope item)
      (columns_kept scope item)
  kept_within item =
      all_filter (λ column. column < width_at scope item)
      (λ column. not (is_alias (alias_at scope item) column))
      (range_with_len 0 (width_at scope item))
      (all_below (λ column. column < width_at scope item) (width_at scope item) (λ k h. h))

  named_within : (exprs : List BExpr) (item : ℕ)
      → AllByRecursion (λ column. column < width_at scope item) (columns_named scope exprs item)
  named_within exprs item =
      all_filter (λ column. column < width_at scope item)
      (λ column. list_any (names_column item column) exprs)
      (range_with_len 0 (width_at scope item))
      (all_below (λ column. column < width_at scope item) (width_at scope item) (λ k h. h))

  needed_within : (rowids : Bool) (exprs : List BExpr) (item : ℕ)
      → AllByRecursion (λ column. column < width_at scope item) (needed_of scope rowids exprs item)
  needed_within true exprs item = kept_within item
  needed_within false exprs item = named_within exprs item

  needed_at : (rowids : Bool) (exprs : List BExpr) (item : ℕ) (columns : List ℕ)
      → slice_get (map (needed_of scope rowids exprs) (range_with_len 0 (length scope.items))) item
      ≡ Some columns
      → AllByRecursion (λ column. column < width (plain_schema scope.schema) scope.items item)
      columns
  needed_at rowids exprs item columns is =
      let needs = map (needed_of scope rowids exprs) (range_with_len 0 (length scope.items)) in
      let below : item < length scope.items =
      subst (λ (n : ℕ). item < n)
      (length-map-range_with_len (needed_of scope rowids exprs) 0 (length scope.items))
      (slice_get_within needs item columns is) in
      let same : columns ≡ needed_of scope rowids exprs item =
      sym (get_or_from_slice_get needs item columns [] is)
      ∙ get_or-map-range_with_len (needed_of scope rowids exprs) 0 (length scope.items) item item []
      below (omega arith) in
      all_map (λ column. column < width_at scope item)
      (λ column. column < width (plain_schema scope.schema) scope.items item) columns
      (λ column h. wide scope.schema column (slice_get scope.items item) h)
      (rw same (needed_within rowids exprs item))

  keys_all_sound : (tree : StatementTree)
      → AllByRecursion (λ k. IsSound (plain_schema scope.schema) scope.items k.expr)
      (bound_in scope tree).keys
  keys_all_sound tree =
      all_mapped (λ k. IsSound (plain_schema scope.schema) scope.items k.expr)
      (sort_key scope (results_in scope tree)) (order_keys_of tree)
      (all_always
      (λ key.
      IsSound (plain_schema scope.schema) scope.items
      (key_expr scope (results_in scope tree) key.expr)) (order_keys_of tree)
      (λ key.
      key_sound scope ok (results_in scope tree) (results_sound scope ok (entries_of tree))
      key.expr))

few_terms : (scope : Scope) (tree : StatementTree) → first_failing (of_count scope tree) ≡ None
    → length (terms_in scope tree) ≤ most_conjuncts
few_terms scope tree h =
    few most_conjuncts (length (terms_in scope tree)) _
    (passed_one (count_of_terms_check (terms_in scope tree)) [] h).0

-- the plain schema has as many tables
all_tables : (schema : Schema) (sources : List SourceTree) → IsScope (scope_of schema sources)
    → AllByRecursion (λ i. i.table < length (plain_schema schema).tables)
    (scope_of schema sources).items
all_tables schema sources ok =
    all_map (λ i. i.table < length schema.tables)
    (λ i. i.table < length (plain_schema schema).tables) (scope_of schema sources).items
    (λ i h. rw (length-map schema.tables plain_table) h) ok.tables

pub statement_fits : (schema : Schema) (tree : StatementTree) → 0 < length (sources_of tree)
    → begins_left (sources_of tree) ≡ false → first_failure schema tree ≡ None
    → Fits (plain_schema schema) (bound_statement schema tree) (needs_statement schema tree)
statement_fits schema tree some first passed =
    let sources = sources_of tree in
    let scope = scope_of schema sources in
    let both = passed_both (from_checks schema sources) (later_checks scope tree) passed in
    let ok = from_is_scope schema sources both.0 in
    let exprs = exprs_in (bound_statement schema tree) in
    let a = passed_both (of_results scope tree) _ both.1 in
    let b = passed_both (of_ons scope tree) _ a.1 in
    let d = passed_both (of_sets scope tree) _ b.1 in
    let e = passed_both (of_filter scope tree) _ d.1 in
    let f = passed_both (of_keys scope tree) (of_count scope tree) e.1 in
    let terms : AllByRecursion (Kept scope) (terms_in scope tree) =
    rw (terms_together scope sources (filter_of tree))
    (all_append (Kept scope) (ons_terms scope sources) (terms_of scope None (filter_of tree))
    (ons_kept schema sources ok b.0) (filter_kept scope (filter_of tree) ok e.0)) in
    record {
      some_item = rw (counted schema sources) some;
      few_items = ok.few;
      few_conjuncts = few_terms scope tree f.1;
      one_changed = λ changed. counted schema sources ∙ one_source tree changed;
      tables = all_tables schema sources ok;
      results = all_mapped (IsSound (plain_schema schema) scope.items) (λ r. r.expr)
          (results_in scope tree) (results_sound scope ok (entries_of tree));
      conjuncts = all_map (Kept scope) (λ c. IsSound (plain_schema schema) scope.items c.expr)
          (terms_in scope tree) (λ c h. h.sound) terms;
      keys = keys_all_sound scope ok tree;
      needs_each = length-map-range_with_len (needed_of scope (changes_rows tree) exprs) 0
          (length scope.items);
      needed = needed_at scope ok (changes_rows tree) exprs;
      first = first_is_not_left schema sources first;
      owners = all_map (Kept scope)
          (λ c. (owner : ℕ) → c.owner ≡ Some owner
          → is_left (bound_statement schema tree) owner ≡ true)
          (terms_in scope tree) (λ c h. h.left) terms;
      owned = all_map (Kept scope) StaysLeft (terms_in scope tree) (λ c h. h.stays) terms;
    }
