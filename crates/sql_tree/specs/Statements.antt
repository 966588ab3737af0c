-- What a statement is seen as: trees for its expressions, bytes for its names, lists for its
-- slices.
use Rattle.std.specs.Prelude.{ℕ, Bool, Option, option_map, List, map}
use Rattle.std.specs.Borrow.{Bor}
use Rattle.sql_tree.specs.Trees.{Tree, tree_of}
use Rattle.sql_tree.specs.declared.expression.Expr.{Expr}
use Rattle.sql_tree.specs.declared.statement.Source.{Source}
use Rattle.sql_tree.specs.declared.statement.Item.{Item}
use Rattle.sql_tree.specs.declared.statement.Item.TheVariants as item
use Rattle.sql_tree.specs.declared.statement.Key.{Key}
use Rattle.sql_tree.specs.declared.statement.Cut.{Cut}
use Rattle.sql_tree.specs.declared.statement.Select.{Select as BorrowedSelect}
use Rattle.sql_tree.specs.declared.statement.Update.{Update as BorrowedUpdate}
use Rattle.sql_tree.specs.declared.statement.Delete.{Delete as BorrowedDelete}
use Rattle.sql_tree.specs.declared.statement.Stmt.{Stmt}
use Rattle.sql_tree.specs.declared.statement.Stmt.TheVariants as stmt

pub record SourceTree : Type 0 where
  pub table : List ℕ
  pub alias : Option (List ℕ)
  pub cross : Bool
  pub left : Bool
  pub on : Option Tree

pub data ItemTree : Type 0 where
  Star : ItemTree
  TableStar : List ℕ → ItemTree
  Value : Tree → Option (List ℕ) → ItemTree

pub record KeyTree : Type 0 where
  pub expr : Tree
  pub desc : Bool

-- a column that is set, and its new value
pub record SetTree : Type 0 where
  pub column : List ℕ
  pub value : Tree

pub record SelectTree : Type 0 where
  pub items : List ItemTree
  pub sources : List SourceTree
  pub filter : Option Tree
  pub keys : List KeyTree
  pub limit : Option Cut
  pub offset : Option Cut

pub record UpdateTree : Type 0 where
  pub source : SourceTree
  pub sets : List SetTree
  pub filter : Option Tree

pub record DeleteTree : Type 0 where
  pub source : SourceTree
  pub filter : Option Tree

pub data StatementTree : Type 0 where
  Select : SelectTree → StatementTree
  Update : UpdateTree → StatementTree
  Delete : DeleteTree → StatementTree

abbrev pub source_tree : Source → SourceTree
source_tree s = record {
  table = s.table.now;
  alias = option_map (λ bytes. bytes.now) s.alias;
  cross = s.cross;
  left = s.left;
  on = option_map (λ expr. tree_of expr.now) s.on;
}

abbrev pub item_tree : Item → ItemTree
item_tree item.Star = Star
item_tree (item.TableStar table) = TableStar table.now
item_tree (item.Value expr alias) = Value (tree_of expr.now) (option_map (λ bytes. bytes.now) alias)

abbrev pub key_tree : Key → KeyTree
key_tree k = record { expr = tree_of k.expr.now; desc = k.desc }

abbrev pub select_tree : BorrowedSelect → SelectTree
select_tree s = record {
  items = map item_tree s.items.now;
  sources = map source_tree s.sources.now;
  filter = option_map (λ expr. tree_of expr.now) s.filter;
  keys = map key_tree s.keys.now;
  limit = s.limit;
  offset = s.offset;
}

abbrev pub set_tree : Bor (List ℕ) × Bor Expr → SetTree
set_tree set = record { column = set.0.now; value = tree_of set.1.now }

abbrev pub update_tree : BorrowedUpdate → UpdateTree
update_tree u = record {
  source = source_tree u.source;
  sets = map set_tree u.sets.now;
  filter = option_map (λ expr. tree_of expr.now) u.filter;
}

abbrev pub delete_tree : BorrowedDelete → DeleteTree
delete_tree d = record {
  source = source_tree d.source;
  filter = option_map (λ expr. tree_of expr.now) d.filter;
}

abbrev pub statement_tree : Stmt → StatementTree
statement_tree (stmt.Select s) = Select (select_tree s)
statement_tree (stmt.Update u) = Update (update_tree u)
statement_tree (stmt.Delete d) = Delete (delete_tree d)
