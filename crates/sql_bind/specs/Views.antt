-- What is made on the way to a bound statement, as plain data.
use Rattle.std.specs.Prelude.{◌≡◌, ℕ, Option, option_map, List, map, find}
use Rattle.std.specs.Global.{Vec}
use Rattle.std.specs.Borrow.{Bor}
use Rattle.std.specs.Map.{lookup}
use Rattle.schema_model.specs.Names.{is_name}
use Rattle.sql_meaning.specs.Expressions as plain
use Rattle.sql_bound.specs.Statements.{item_of}
use Rattle.sql_bound.specs.Expressions.{expr_of}
use Rattle.sql_bound.specs.declared.expression.BExpr.{BExpr}
use Rattle.sql_bind.specs.Sources as plain_sources
use Rattle.sql_bind.specs.Results as plain_results
use Rattle.sql_bind.specs.Keys as meant
use Rattle.sql_bind.specs.declared.sources.NamedItem.{NamedItem}
use Rattle.sql_bind.specs.declared.results.ResultColumn.{ResultColumn}
use Rattle.sql_bind.specs.declared.keys.KeyForm.{KeyForm}
use Rattle.sql_bind.specs.declared.keys.KeyForm.TheVariants as form

abbrev pub named_of : NamedItem → plain_sources.NamedItem
named_of n = record {
  name = n.name.now;
  alias = option_map (λ bytes. bytes.now) n.item.alias;
  item = item_of n.item;
}

abbrev pub result_of : ResultColumn → plain_results.ResultColumn
result_of c = record {
  expr = expr_of c.expr.now;
  alias = option_map (λ bytes. bytes.now) c.alias;
}

abbrev pub results_seen : List ResultColumn → List plain_results.ResultColumn
results_seen columns = map result_of columns

abbrev pub form_of : KeyForm → meant.KeyForm
form_of (form.Position n) = meant.Position n
form_of (form.Bare name) = meant.Bare name.now
form_of (form.BareUnder name collation) = meant.BareUnder name.now collation.now
form_of form.Other = meant.Other

-- what is noted under a name
abbrev pub exprs_under : List (Vec ℕ × Bor BExpr) → List ℕ → Option plain.BExpr
exprs_under entries name =
    option_map (λ e. expr_of e.now) (lookup (λ key. is_name name key.items) entries)

-- under each alias the first result that has it is noted
abbrev pub HasAliases : List (Vec ℕ × Bor BExpr) → List plain_results.ResultColumn → Type 0
HasAliases entries results =
    (name : List ℕ)
    → exprs_under entries name
    ≡ option_map (λ r. r.expr) (find (λ r. meant.is_called name r.alias) results)
