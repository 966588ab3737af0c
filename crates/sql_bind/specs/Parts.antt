-- The bound parts of a statement, and the statement that they make.
use Rattle.std.specs.Prelude.{ℕ, Option, option_map, List, map, ◌++◌}
use Rattle.sql_meaning.specs.Expressions.{BExpr}
use Rattle.sql_meaning.specs.Statements.{Bound}
use Rattle.sql_tree.specs.Statements.{StatementTree}
use Rattle.sql_bound.specs.Statements.{conjunct_of, sort_key_of, bound_of, needs_of}
use Rattle.sql_bound.specs.declared.statement.Bound.{Bound as Declared}
use Rattle.schema_model.specs.Schemas.{Schema}
use Rattle.sql_names.specs.Scopes.{Scope}
use Rattle.sql_bind.specs.Clauses.{changes_rows, limit_of, offset_of}
use Rattle.sql_bind.specs.Sources.{NamedItem}
use Rattle.sql_bind.specs.Needs.{needs_in}
use Rattle.sql_bind.specs.Binding.{bound_in, bound_statement, needs_statement}
use Rattle.sql_bind.specs.Views.{results_seen}
use Rattle.sql_bind.specs.declared.parts.Parts.{Parts}

abbrev pub exprs_of_parts : Parts → List BExpr
exprs_of_parts parts =
    map (λ r. r.expr) (results_seen parts.results.now)
    ++ (map (λ t. t.expr) (map conjunct_of parts.terms.now)
    ++ map (λ k. k.expr) (map sort_key_of parts.keys.now))

abbrev pub bound_from : List NamedItem → StatementTree → Parts → Bound
bound_from list tree parts = record {
  items = map (λ n. n.item) list;
  rowids = changes_rows tree;
  results = map (λ r. r.expr) (results_seen parts.results.now);
  conjuncts = map conjunct_of parts.terms.now;
  keys = map sort_key_of parts.keys.now;
  limit = limit_of tree;
  offset = offset_of tree;
}

-- of each item its alias
abbrev pub aliases_of : Declared → List (Option (List ℕ))
aliases_of b = map (λ item. option_map (λ alias. alias.now) item.alias) b.items.now

-- a bound statement, with its needs
abbrev pub whole : Declared → Bound × List (List ℕ)
whole b = (bound_of b, needs_of b)

abbrev pub whole_in : Scope → StatementTree → Bound × List (List ℕ)
whole_in scope tree = (bound_in scope tree, needs_in scope (bound_in scope tree))

abbrev pub whole_statement : Schema → StatementTree → Bound × List (List ℕ)
whole_statement schema tree = (bound_statement schema tree, needs_statement schema tree)
