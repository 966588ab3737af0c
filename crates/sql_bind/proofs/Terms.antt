-- The terms of ON and WHERE, a condition after another.
use Rattle.std.proofs.Common.{◌≡◌, ℕ, Option, None, Some, option_map, option_to_list}
use Rattle.std.proofs.Common.{List, [], ◌∷◌, ◌++◌, map}
use Rattle.std.proofs.Common.{flat_map, refl, ap, sym, ◌∙◌}
use Rattle.std.specs.List.{cons_option}
use Rattle.std.proofs.lemmas.List.{append_assoc, append-nil}
use Rattle.sql_meaning.specs.Expressions.{flat}
use Rattle.sql_tree.specs.Trees.{Tree}
use Rattle.sql_tree.specs.Statements.{SourceTree}
use Rattle.sql_names.specs.Scopes.{Scope}
use Rattle.sql_names.specs.Binding.{bound}
use Rattle.sql_bind.specs.Conditions.{Condition, NumberedSource, numbered_from, owner_of}
use Rattle.sql_bind.specs.Conditions.{condition_of, conjuncts_in, conditions, on_conditions}
use Rattle.sql_bind.specs.Conditions.{on_terms, ons_terms, terms_of, with_owner}

with_front : (scope : Scope) (owner : Option ℕ) (on : Option Tree) (rest more : List Condition)
    → conjuncts_in scope (cons_option (option_map (condition_of owner) on) rest ++ more)
    ≡ terms_of scope owner on ++ conjuncts_in scope (rest ++ more)
with_front scope owner None rest more = refl
with_front scope owner (Some tree) rest more = refl

alone : (scope : Scope) (filter : Option Tree)
    → conjuncts_in scope (option_to_list (option_map (condition_of None) filter))
    ≡ terms_of scope None filter
alone scope None = refl
alone scope (Some tree) = append-nil (map (with_owner None) (flat (bound scope tree)))

together : (scope : Scope) (sources : List NumberedSource) (filter : Option Tree)
    → conjuncts_in scope
    (on_conditions sources ++ option_to_list (option_map (condition_of None) filter))
    ≡ flat_map (on_terms scope) sources ++ terms_of scope None filter
together scope [] filter = alone scope filter
together scope (s ∷ sources) filter =
    with_front scope (owner_of s) s.source.on (on_conditions sources)
    (option_to_list (option_map (condition_of None) filter))
    ∙ ap (λ terms. on_terms scope s ++ terms) (together scope sources filter)
    ∙ sym
    (append_assoc (on_terms scope s) (flat_map (on_terms scope) sources)
    (terms_of scope None filter))

pub terms_together : (scope : Scope) (sources : List SourceTree) (filter : Option Tree)
    → conjuncts_in scope (conditions sources filter)
    ≡ ons_terms scope sources ++ terms_of scope None filter
terms_together scope sources filter = together scope (numbered_from 0 sources) filter
