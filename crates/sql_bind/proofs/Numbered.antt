-- A turn of the loop over FROM, whose tables are numbered.
use Rattle.std.proofs.Common.{◌≡◌, ◌<◌, ◌+◌, ℕ, Option, Some, None, List, ◌++◌, length}
use Rattle.std.proofs.Common.{map, flat_map, get_or, drop, sym, ap, subst, ◌∙◌}
use Rattle.std.proofs.lemmas.List.{at_drop_more, append_assoc}
use Rattle.sql_tree.specs.Statements.{source_tree}
use Rattle.sql_tree.specs.declared.statement.Source.{Source}
use Rattle.sql_names.specs.declared.faults.BindFault.{BindFault}
use Rattle.sql_names.specs.declared.faults.BindFault.TheVariants.{Memory}
use Rattle.sql_names.specs.Faults.{first_failing}
use Rattle.sql_names.proofs.Checks.{passed_first, failed_first}
use Rattle.sql_meaning.specs.Statements.{Conjunct}
use Rattle.sql_names.specs.Scopes.{Scope}
use Rattle.sql_bind.specs.Conditions.{NumberedSource, numbered_from, owner_if, condition_checks}
use Rattle.sql_bind.specs.Conditions.{on_checks, terms_of, on_terms}

-- what is left of FROM from a table on
abbrev pub sources_left : List Source → ℕ → List NumberedSource
sources_left xs i = numbered_from i (map source_tree (drop i xs))

module _ (xs : List Source) (i : ℕ) (d : Source) (below : i < length xs) where
  abbrev pub here : NumberedSource
  here = record { item = i; source = source_tree (get_or xs i d) }

  cut : {R : Type 0} (f : NumberedSource → List R)
      → flat_map f (sources_left xs i) ≡ f here ++ flat_map f (sources_left xs (i + 1))
  cut f = at_drop_more (λ ys. flat_map f (numbered_from i (map source_tree ys))) xs i d below

  pub source_passes : (checks : NumberedSource → List (Option BindFault))
      (whole : Option BindFault)
      → first_failing (flat_map checks (sources_left xs i)) ≡ whole
      → first_failing (checks here) ≡ None
      → first_failing (flat_map checks (sources_left xs (i + 1))) ≡ whole
  source_passes checks whole before h =
      sym (passed_first (checks here) (flat_map checks (sources_left xs (i + 1))) h)
      ∙ sym (ap first_failing (cut checks)) ∙ before

  pub source_fails : (checks : NumberedSource → List (Option BindFault))
      (whole : Option BindFault)
      → first_failing (flat_map checks (sources_left xs i)) ≡ whole
      → (fault : BindFault) → ((fault ≡ Memory → ⊥) → first_failing (checks here) ≡ Some fault)
      → (fault ≡ Memory → ⊥) → whole ≡ Some fault
  source_fails checks whole before fault h other =
      sym before ∙ ap first_failing (cut checks)
      ∙ failed_first fault (checks here) (flat_map checks (sources_left xs (i + 1))) (h other)

  pub source_made : {R : Type 0} (meant : NumberedSource → List R) (old whole new : List R)
      → old ++ flat_map meant (sources_left xs i) ≡ whole → new ≡ old ++ meant here
      → new ++ flat_map meant (sources_left xs (i + 1)) ≡ whole
  source_made meant old whole new before is =
      rw is
      (append_assoc old (meant here) (flat_map meant (sources_left xs (i + 1)))
      ∙ ap (λ ys. old ++ ys) (sym (cut meant))
      ∙ before)

  -- the ON condition of this table, by whatever stands for its owner
  module _ (scope : Scope) (owner : Option ℕ) (is : owner ≡ owner_if (get_or xs i d).left i)
    where
      pub on_passes : (whole : Option BindFault)
          → first_failing (flat_map (on_checks scope) (sources_left xs i)) ≡ whole
          → first_failing (condition_checks scope owner here.source.on) ≡ None
          → first_failing (flat_map (on_checks scope) (sources_left xs (i + 1))) ≡ whole
      on_passes whole before h =
          source_passes (on_checks scope) whole before
          (subst (λ (o : Option ℕ).
          first_failing (condition_checks scope o here.source.on) ≡ None) is h)

      pub on_fails : (whole : Option BindFault)
          → first_failing (flat_map (on_checks scope) (sources_left xs i)) ≡ whole
          → (fault : BindFault)
          → ((fault ≡ Memory → ⊥)
          → first_failing (condition_checks scope owner here.source.on) ≡ Some fault)
          → (fault ≡ Memory → ⊥) → whole ≡ Some fault
      on_fails whole before fault h =
          source_fails (on_checks scope) whole before fault
          (subst (λ (o : Option ℕ). (fault ≡ Memory → ⊥)
          → first_failing (condition_checks scope o here.source.on) ≡ Some fault) is h)

      pub on_made : (old whole new : List Conjunct)
          → old ++ flat_map (on_terms scope) (sources_left xs i) ≡ whole
          → new ≡ old ++ terms_of scope owner here.source.on
          → new ++ flat_map (on_terms scope) (sources_left xs (i + 1)) ≡ whole
      on_made old whole new before made =
          source_made (on_terms scope) old whole new before
          (subst (λ (o : Option ℕ). new ≡ old ++ terms_of scope o here.source.on) is made)
