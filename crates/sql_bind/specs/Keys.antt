-- ORDER BY: a key is the position of a result, the alias of a result, or an expression
-- (lang_select, "The ORDER BY clause").
use Rattle.std.specs.Prelude.{ℕ, pos, ◌-◌, ◌==◌, if◌then◌else◌, Bool, false, Option, Some, None}
use Rattle.std.specs.Prelude.{List, [], ◌∷◌, find, slice_get, option_map, unwrap_or}
use Rattle.sql_meaning.specs.Letters.{folded_bytes}
use Rattle.sql_meaning.specs.Expressions.{BExpr}
use Rattle.sql_meaning.specs.Expressions as plain
use Rattle.sql_meaning.specs.Statements.{SortKey}
use Rattle.sql_meaning.specs.Values as value
use Rattle.sql_tree.specs.Trees.{Tree, Lit, Name, Collate}
use Rattle.sql_tree.specs.Statements.{KeyTree}
use Rattle.schema_model.specs.Names.{is_name}
use Rattle.schema_model.specs.PlainSchemas.{plain_schema}
use Rattle.sql_names.specs.declared.faults.BindFault.{BindFault}
use Rattle.sql_names.specs.declared.faults.BindFault.TheVariants as fault
use Rattle.sql_names.specs.Scopes.{Scope}
use Rattle.sql_names.specs.Collating.{collation_of, collation_or, collation_check}
use Rattle.sql_names.specs.Binding.{bound, expr_checks}
use Rattle.sql_bind.specs.Results.{ResultColumn}

-- how a key is written; parentheses leave no trace in a tree
pub data KeyForm : Type 0 where
  Position : (n : ℕ) → KeyForm
  Bare : (name : List ℕ) → KeyForm
  BareUnder : (name collation : List ℕ) → KeyForm
  Other : KeyForm

abbrev pub key_form : Tree → KeyForm
key_form (Lit (value.Int (pos n))) = Position n
key_form (Name None name) = Bare name
key_form (Collate (Name None name) collation) = BareUnder name collation
key_form tree = Other

abbrev pub is_called : List ℕ → Option (List ℕ) → Bool
is_called name None = false
is_called name (Some alias) = is_name name (folded_bytes alias)

-- the expression of the first result of the alias
abbrev pub aliased : List ResultColumn → List ℕ → Option BExpr
aliased results name =
    option_map (λ r. r.expr) (find (λ r. is_called (folded_bytes name) r.alias) results)

-- the expression of the result at a position, which counts from 1
abbrev pub result_at : List ResultColumn → ℕ → Option BExpr
result_at results n =
    if n == 0 then None else option_map (λ r. r.expr) (slice_get results (n - 1))

-- what is meant by a name or a name under COLLATE: a result where one has it for an alias
abbrev pub under : List ℕ → BExpr → BExpr
under collation e = plain.Collate e (collation_or collation)

abbrev pub meant_by : Scope → List ResultColumn → Tree → KeyForm → BExpr
meant_by scope results tree (Position n) = unwrap_or (result_at results n) (plain.Lit value.Null)
meant_by scope results tree (Bare name) = unwrap_or (aliased results name) (bound scope tree)
meant_by scope results tree (BareUnder name collation) =
    unwrap_or (option_map (under collation) (aliased results name)) (bound scope tree)
meant_by scope results tree Other = bound scope tree

abbrev pub position_check : Option BExpr → Option BindFault
position_check None = Some fault.BadPosition
position_check (Some e) = None

-- a result of the alias needs no check of its own
abbrev pub unless_aliased : Option BExpr → List (Option BindFault) → List (Option BindFault)
    → List (Option BindFault)
unless_aliased (Some e) aliased otherwise = aliased
unless_aliased None aliased otherwise = otherwise

abbrev pub checks_by : Scope → List ResultColumn → Tree → KeyForm → List (Option BindFault)
checks_by scope results tree (Position n) = position_check (result_at results n) ∷ []
checks_by scope results tree (Bare name) =
    unless_aliased (aliased results name) [] (expr_checks scope None tree)
checks_by scope results tree (BareUnder name collation) =
    unless_aliased (aliased results name) (collation_check collation ∷ [])
    (expr_checks scope None tree)
checks_by scope results tree Other = expr_checks scope None tree

abbrev pub key_expr : Scope → List ResultColumn → Tree → BExpr
key_expr scope results tree = meant_by scope results tree (key_form tree)

abbrev pub key_checks : Scope → List ResultColumn → KeyTree → List (Option BindFault)
key_checks scope results key = checks_by scope results key.expr (key_form key.expr)

abbrev pub sort_key : Scope → List ResultColumn → KeyTree → SortKey
sort_key scope results key = record {
  expr = key_expr scope results key.expr;
  collation =
      collation_of (plain_schema scope.schema) scope.items (key_expr scope results key.expr);
  falling = key.desc;
}
