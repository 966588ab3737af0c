-- The conditions of a statement, and what SET names.
use Rattle.std.specs.Prelude.{ℕ, ◌+◌, nat_lt, Bool, if◌then◌else◌}
use Rattle.std.specs.Prelude.{Option, Some, None, option_map, option_to_list}
use Rattle.std.specs.Prelude.{List, [], ◌∷◌, ◌++◌, map, length, filter_map, flat_map}
use Rattle.sql_meaning.specs.Letters.{folded_bytes}
use Rattle.sql_meaning.specs.Expressions.{BExpr, flat}
use Rattle.sql_meaning.specs.Statements.{Conjunct}
use Rattle.sql_meaning.specs.Conjuncts.{conjuncts_of}
use Rattle.sql_tree.specs.Trees.{Tree}
use Rattle.sql_tree.specs.Statements.{SourceTree, SetTree}
use Rattle.sql_bound.specs.Fits.{most_conjuncts}
use Rattle.sql_names.specs.declared.faults.BindFault.{BindFault}
use Rattle.sql_names.specs.declared.faults.BindFault.TheVariants as fault
use Rattle.sql_names.specs.Scopes.{Scope, table_at}
use Rattle.sql_names.specs.Names.{named_in}
use Rattle.sql_names.specs.Binding.{bound, expr_checks}

-- a table of FROM with the number of its item
pub record NumberedSource : Type 0 where
  pub item : ℕ
  pub source : SourceTree

abbrev pub numbered_from : ℕ → List SourceTree → List NumberedSource
numbered_from item [] = []
numbered_from item (source ∷ sources) =
    record { item = item; source = source } ∷ numbered_from (item + 1) sources

-- the item of a LEFT JOIN owns its ON condition
abbrev pub owner_if : Bool → ℕ → Option ℕ
owner_if left item = if left then Some item else None

abbrev pub owner_of : NumberedSource → Option ℕ
owner_of s = owner_if s.source.left s.item

-- a condition, and the item that owns it, if one does
pub record Condition : Type 0 where
  pub tree : Tree
  pub owner : Option ℕ

abbrev pub condition_of : Option ℕ → Tree → Condition
condition_of owner tree = record { tree = tree; owner = owner }

-- the ON conditions, in FROM order
abbrev pub on_conditions : List NumberedSource → List Condition
on_conditions sources =
    filter_map (λ s. option_map (condition_of (owner_of s)) s.source.on) sources

-- ON, and then WHERE
abbrev pub conditions : List SourceTree → Option Tree → List Condition
conditions sources filter =
    on_conditions (numbered_from 0 sources)
    ++ option_to_list (option_map (condition_of None) filter)

abbrev pub condition_checks : Scope → Option ℕ → Option Tree → List (Option BindFault)
condition_checks scope owner None = []
condition_checks scope owner (Some tree) = expr_checks scope owner tree

abbrev pub on_checks : Scope → NumberedSource → List (Option BindFault)
on_checks scope s = condition_checks scope (owner_of s) s.source.on

abbrev pub ons_checks : Scope → List SourceTree → List (Option BindFault)
ons_checks scope sources = flat_map (on_checks scope) (numbered_from 0 sources)

abbrev pub with_owner : Option ℕ → BExpr → Conjunct
with_owner owner e = record { expr = e; owner = owner }

-- numbered from 0: AND lists flattened, a BETWEEN as its two comparisons; each with the owner of
-- its condition
abbrev pub conjuncts_in : Scope → List Condition → List Conjunct
conjuncts_in scope list =
    conjuncts_of (map (λ c. with_owner c.owner (bound scope c.tree)) list)

-- the conjuncts of one condition
abbrev pub terms_of : Scope → Option ℕ → Option Tree → List Conjunct
terms_of scope owner None = []
terms_of scope owner (Some tree) = map (with_owner owner) (flat (bound scope tree))

abbrev pub on_terms : Scope → NumberedSource → List Conjunct
on_terms scope s = terms_of scope (owner_of s) s.source.on

abbrev pub ons_terms : Scope → List SourceTree → List Conjunct
ons_terms scope sources = flat_map (on_terms scope) (numbered_from 0 sources)

abbrev pub count_of_terms_check : List Conjunct → Option BindFault
count_of_terms_check conjuncts =
    if nat_lt most_conjuncts (length conjuncts) then Some fault.TooManyTerms else None

-- SET sets a column or the rowid of the one table
abbrev pub target_fault : List ℕ → Option BExpr → Option BindFault
target_fault name (Some e) = None
target_fault name None = Some (fault.NoSuchColumn name)

abbrev pub target_check : Scope → List ℕ → Option BindFault
target_check scope name = target_fault name (named_in 0 (table_at scope 0) (folded_bytes name))

abbrev pub set_checks : Scope → SetTree → List (Option BindFault)
set_checks scope set = target_check scope set.column ∷ expr_checks scope None set.value
