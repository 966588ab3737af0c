-- What a bound statement is seen as: plain data, with values in place of references.
use Rattle.std.specs.Prelude.{ℕ, option_map, List, map}
use Rattle.sql_tree.specs.declared.statement.Cut.{Cut}
use Rattle.sql_tree.specs.declared.statement.Cut.TheVariants as cut
use Rattle.sql_value.specs.View.{plain_affinity, plain_collation}
use Rattle.sql_meaning.specs.Items as plain_items
use Rattle.sql_meaning.specs.Paths as plain_paths
use Rattle.sql_meaning.specs.Statements as plain
use Rattle.sql_bound.specs.Expressions.{expr_of}
use Rattle.sql_bound.specs.declared.statement.BItem.{BItem}
use Rattle.sql_bound.specs.declared.statement.Conjunct.{Conjunct}
use Rattle.sql_bound.specs.declared.statement.BKey.{BKey}
use Rattle.sql_bound.specs.declared.statement.Bound.{Bound}
use Rattle.sql_bound.specs.declared.key.KeyExpr.{KeyExpr}
use Rattle.sql_bound.specs.declared.key.Keys.{Keys}

abbrev pub item_of : BItem → plain_items.Item
item_of i = record { table = i.table; cross = i.cross; left = i.left }

abbrev pub conjunct_of : Conjunct → plain.Conjunct
conjunct_of c = record { expr = expr_of c.expr.now; owner = c.owner }

abbrev pub sort_key_of : BKey → plain.SortKey
sort_key_of k = record {
  expr = expr_of k.expr.now;
  collation = plain_collation k.coll;
  falling = k.desc;
}

abbrev pub cut_of : Cut → plain.Cut
cut_of (cut.Count n) = plain.Count n
cut_of (cut.Param number) = plain.Given number

-- contracts speak of a statement through this view alone
abbrev pub bound_of : Bound → plain.Bound
bound_of b = record {
  items = map item_of b.items.now;
  rowids = b.rowids;
  results = map (λ e. expr_of e.now) b.results.now;
  conjuncts = map conjunct_of b.conjuncts.now;
  keys = map sort_key_of b.keys.now;
  limit = option_map cut_of b.limit;
  offset = option_map cut_of b.offset;
}

-- for each item the columns that the statement needs of it
abbrev pub needs_of : Bound → List (List ℕ)
needs_of b = map (λ columns. columns.now) b.needs.now

abbrev pub key_expr_of : KeyExpr → plain_paths.KeyExpr
key_expr_of k = record { expr = expr_of k.expr.now; conversion = option_map plain_affinity k.conv }

abbrev pub key_exprs_of : Keys → List plain_paths.KeyExpr
key_exprs_of list = map key_expr_of list.keys.now
