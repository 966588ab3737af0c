-- The checks behind FROM, clause by clause, as the parts of a statement are bound.
use Rattle.std.proofs.Common.{◌≡◌, ◌<◌, Option, None, Some, List, [], ◌∷◌, ◌++◌, map, flat_map}
use Rattle.std.proofs.Common.{ℕ, ◌≤◌, Bool, true, false, nat_lt, if◌then◌else◌, length}
use Rattle.std.proofs.Common.{refl, sym, ap, ap₂, subst, ◌∙◌, arith}
use Rattle.std.proofs.lemmas.List.{length-map}
use Rattle.sql_meaning.specs.Statements.{Conjunct as Term}
use Rattle.sql_tree.specs.Trees.{Tree}
use Rattle.sql_tree.specs.Statements.{StatementTree, SourceTree, ItemTree}
use Rattle.sql_bound.specs.Statements.{conjunct_of, sort_key_of, bound_of, needs_of}
use Rattle.sql_bound.specs.declared.statement.Bound.{Bound as Declared}
use Rattle.sql_bound.specs.declared.statement.Conjunct.{Conjunct}
use Rattle.sql_names.specs.declared.faults.BindFault.{BindFault}
use Rattle.sql_names.specs.declared.faults.BindFault.TheVariants.{Memory, TooManyTerms}
use Rattle.sql_names.specs.Faults.{first_failing}
use Rattle.sql_names.specs.Scopes.{Scope}
use Rattle.sql_names.proofs.Checks.{fails_through, fails_after, both_pass}
use Rattle.sql_bind.specs.Clauses.{sources_of, entries_of, sets_of, filter_of, order_keys_of}
use Rattle.sql_bind.specs.Sources.{NamedItem}
use Rattle.sql_bind.specs.Results.{entry_checks, results_of}
use Rattle.sql_bind.specs.Conditions.{ons_checks, ons_terms, terms_of, condition_checks}
use Rattle.sql_bind.specs.Conditions.{set_checks, count_of_terms_check}
use Rattle.sql_bind.specs.Keys.{key_checks, sort_key}
use Rattle.sql_bind.specs.Needs.{needs_in}
use Rattle.sql_bind.specs.Binding.{later_checks, results_in, terms_in, bound_in}
use Rattle.sql_bind.specs.Views.{results_seen}
use Rattle.sql_bind.specs.Parts.{bound_from, whole, whole_in}
use Rattle.sql_bind.specs.declared.parts.Parts.{Parts}
use Rattle.sql_bind.specs.declared.results.ResultColumn.{ResultColumn as Result}
use Rattle.sql_bind.proofs.Terms.{terms_together}

abbrev pub Fails : BindFault → List (Option BindFault) → Type 0
Fails fault checks = (fault ≡ Memory → ⊥) → first_failing checks ≡ Some fault

abbrev pub Passes : List (Option BindFault) → Type 0
Passes checks = first_failing checks ≡ None

-- what is said of the checks of a clause is said of them where the clause is called otherwise
pub passes_as : {X : Type 0} (checks : X → List (Option BindFault)) {x y : X} → x ≡ y
    → Passes (checks x) → Passes (checks y)
passes_as checks same h = subst (λ x. Passes (checks x)) same h

pub fails_as : {X : Type 0} (checks : X → List (Option BindFault)) {x y : X} → x ≡ y
    → (fault : BindFault) → Fails fault (checks x) → Fails fault (checks y)
fails_as checks same fault h = subst (λ x. Fails fault (checks x)) same h

over : (n : ℕ) (b : Bool) → nat_lt 256 n ≡ b → 256 < n
    → first_failing ((if b then Some TooManyTerms else None) ∷ []) ≡ Some TooManyTerms
over n true is h = refl
over n false is h = absurd (grind arith)

within : (n : ℕ) (b : Bool) → nat_lt 256 n ≡ b → n ≤ 256
    → first_failing ((if b then Some TooManyTerms else None) ∷ []) ≡ None
within n true is h = absurd (grind arith)
within n false is h = refl

module _ (scope : Scope) (tree : StatementTree) where
  abbrev pub of_results : List (Option BindFault)
  of_results = flat_map (entry_checks scope) (entries_of tree)

  abbrev pub of_ons : List (Option BindFault)
  of_ons = ons_checks scope (sources_of tree)

  abbrev pub of_sets : List (Option BindFault)
  of_sets = flat_map (set_checks scope) (sets_of tree)

  abbrev pub of_filter : List (Option BindFault)
  of_filter = condition_checks scope None (filter_of tree)

  abbrev pub of_keys : List (Option BindFault)
  of_keys = flat_map (key_checks scope (results_in scope tree)) (order_keys_of tree)

  abbrev pub of_count : List (Option BindFault)
  of_count = count_of_terms_check (terms_in scope tree) ∷ []

  pub fails_results : (fault : BindFault) → Fails fault of_results
      → Fails fault (later_checks scope tree)
  fails_results fault h =
      fails_through fault of_results (of_ons ++ (of_sets ++ (of_filter ++ (of_keys ++ of_count)))) h

  pub fails_ons : (fault : BindFault) → Passes of_results → Fails fault of_ons
      → Fails fault (later_checks scope tree)
  fails_ons fault p1 h =
      fails_after fault of_results _ p1
      (fails_through fault of_ons (of_sets ++ (of_filter ++ (of_keys ++ of_count))) h)

  pub fails_sets : (fault : BindFault) → Passes of_results → Passes of_ons → Fails fault of_sets
      → Fails fault (later_checks scope tree)
  fails_sets fault p1 p2 h =
      fails_after fault of_results _ p1
      (fails_after fault of_ons _ p2
      (fails_through fault of_sets (of_filter ++ (of_keys ++ of_count)) h))

  pub fails_filter : (fault : BindFault) → Passes of_results → Passes of_ons → Passes of_sets
      → Fails fault of_filter → Fails fault (later_checks scope tree)
  fails_filter fault p1 p2 p3 h =
      fails_after fault of_results _ p1
      (fails_after fault of_ons _ p2
      (fails_after fault of_sets _ p3 (fails_through fault of_filter (of_keys ++ of_count) h)))

  pub fails_keys : (fault : BindFault) → Passes of_results → Passes of_ons → Passes of_sets
      → Passes of_filter → Fails fault of_keys → Fails fault (later_checks scope tree)
  fails_keys fault p1 p2 p3 p4 h =
      fails_after fault of_results _ p1
      (fails_after fault of_ons _ p2
      (fails_after fault of_sets _ p3
      (fails_after fault of_filter _ p4 (fails_through fault of_keys of_count h))))

  pub fails_count : (fault : BindFault) → Passes of_results → Passes of_ons → Passes of_sets
      → Passes of_filter → Passes of_keys → Fails fault of_count
      → Fails fault (later_checks scope tree)
  fails_count fault p1 p2 p3 p4 p5 h =
      fails_after fault of_results _ p1
      (fails_after fault of_ons _ p2
      (fails_after fault of_sets _ p3
      (fails_after fault of_filter _ p4 (fails_after fault of_keys of_count p5 h))))

  pub all_pass : Passes of_results → Passes of_ons → Passes of_sets → Passes of_filter
      → Passes of_keys → Passes of_count → Passes (later_checks scope tree)
  all_pass p1 p2 p3 p4 p5 p6 =
      both_pass of_results _ p1
      (both_pass of_ons _ p2
      (both_pass of_sets _ p3 (both_pass of_filter _ p4 (both_pass of_keys of_count p5 p6))))

  -- the parts as they are bound are those of the statement
  pub results_are : {held seen : List Result} {entries : List ItemTree} → seen ≡ held
      → results_seen held ≡ flat_map (results_of scope) entries → entries ≡ entries_of tree
      → results_seen seen ≡ results_in scope tree
  results_are same made entries =
      ap results_seen same ∙ made ∙ ap (flat_map (results_of scope)) entries

  pub terms_are : {held seen : List Conjunct} {before : List Term} {sources : List SourceTree}
      {filter : Option Tree} → seen ≡ held
      → map conjunct_of held ≡ before ++ terms_of scope None filter
      → before ≡ ons_terms scope sources → sources ≡ sources_of tree → filter ≡ filter_of tree
      → map conjunct_of seen ≡ terms_in scope tree
  terms_are same made before sources filter =
      ap (map conjunct_of) same ∙ made
      ∙ ap₂ (λ xs ys. xs ++ ys) (before ∙ ap (ons_terms scope) sources)
      (ap (terms_of scope None) filter)
      ∙ sym (terms_together scope (sources_of tree) (filter_of tree))

  counted : (terms : List Conjunct) → map conjunct_of terms ≡ terms_in scope tree
      → length terms ≡ length (terms_in scope tree)
  counted terms is = sym (length-map terms conjunct_of) ∙ ap (λ ts. length ts) is

  pub count_fails : (terms : List Conjunct) → map conjunct_of terms ≡ terms_in scope tree
      → 256 < length terms → Fails TooManyTerms of_count
  count_fails terms is h other =
      over (length (terms_in scope tree)) (nat_lt 256 (length (terms_in scope tree))) refl
      (rw (counted terms is) at h)

  pub count_passes : (terms : List Conjunct) → map conjunct_of terms ≡ terms_in scope tree
      → length terms ≤ 256 → Passes of_count
  count_passes terms is h =
      within (length (terms_in scope tree)) (nat_lt 256 (length (terms_in scope tree))) refl
      (rw (counted terms is) at h)

  same_bound : (list : List NamedItem) (parts : Parts) → scope.items ≡ map (λ n. n.item) list
      → results_seen parts.results.now ≡ results_in scope tree
      → map conjunct_of parts.terms.now ≡ terms_in scope tree
      → map sort_key_of parts.keys.now
      ≡ map (sort_key scope (results_in scope tree)) (order_keys_of tree)
      → bound_from list tree parts ≡ bound_in scope tree
  same_bound list parts items results terms keys = rw (sym items, results, terms, keys) refl

  pub same_whole : (b : Declared) (list : List NamedItem) (parts : Parts)
      → scope.items ≡ map (λ n. n.item) list
      → results_seen parts.results.now ≡ results_in scope tree
      → map conjunct_of parts.terms.now ≡ terms_in scope tree
      → map sort_key_of parts.keys.now
      ≡ map (sort_key scope (results_in scope tree)) (order_keys_of tree)
      → bound_of b ≡ bound_from list tree parts
      → needs_of b ≡ needs_in scope (bound_from list tree parts) → whole b ≡ whole_in scope tree
  same_whole b list parts items results terms keys bound needs =
      let same = same_bound list parts items results terms keys in
      ap₂ (λ x y. (x, y)) (bound ∙ same) (needs ∙ ap (needs_in scope) same)
