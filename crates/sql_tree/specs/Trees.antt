-- The tree that an expression is seen as: values in place of references, and lists in place of
-- slices.
use Rattle.std.specs.Prelude.{ℕ, Bool, Option, option_map, List, [], ◌∷◌, map}
use Rattle.sql_tree.specs.declared.expression.Op.{Op}
use Rattle.sql_tree.specs.declared.expression.Lit.{Lit as Constant}
use Rattle.sql_tree.specs.declared.expression.Lit.TheVariants as lit
use Rattle.sql_tree.specs.declared.expression.Expr.{Expr}
use Rattle.sql_tree.specs.declared.expression.Expr.TheOpen as node
use Rattle.sql_tree.specs.declared.expression.Expr.TheOpen.{Expr-F, Exprs-F}
use Rattle.sql_tree.specs.declared.expression.Expr.TheFolds.{fold-Expr}
use Rattle.sql_meaning.specs.Values.{Value}
use Rattle.sql_meaning.specs.Values as value

mutual
  pub data Tree : Type 0 where
    Lit : Value → Tree
    Param : ℕ → Tree
    Name : Option (List ℕ) → List ℕ → Tree
    Plus : Tree → Tree
    Collate : Tree → List ℕ → Tree
    Cmp : Op → Tree → Tree → Tree
    Between : Bool → Tree → Tree → Tree → Tree
    Like : (negated : Bool) (left pattern : Tree) → Tree
    OneOf : Bool → Tree → Trees → Tree
    IsNull : Bool → Tree → Tree
    Not : Tree → Tree
    All : Trees → Tree
    Any : Trees → Tree

  pub data Trees : Type 0 where
    end : Trees
    more : Tree → Trees → Trees

abbrev pub trees : List Tree → Trees
trees [] = end
trees (x ∷ xs) = more x (trees xs)

-- the value that a constant stands for
abbrev pub literal_value : Constant → Value
literal_value lit.Null = value.Null
literal_value (lit.Int n) = value.Int n
literal_value (lit.Dec units) = value.Dec units
literal_value (lit.Text bytes) = value.Text bytes.now
literal_value (lit.Blob bytes) = value.Blob bytes.now

-- one layer of an expression, its parts already seen as trees
abbrev pub node_step : Expr-F Tree Trees → Tree
node_step (node.Lit constant) = Lit (literal_value constant)
node_step (node.Param number) = Param number
node_step (node.Name table column) = Name (option_map (λ bytes. bytes.now) table) column.now
node_step (node.Plus x) = Plus x.now
node_step (node.Collate x collation) = Collate x.now collation.now
node_step (node.Cmp op x y) = Cmp op x.now y.now
node_step (node.Between negated x low high) = Between negated x.now low.now high.now
node_step (node.Like negated left pattern) = Like negated left.now pattern.now
node_step (node.OneOf negated x entries) = OneOf negated x.now entries
node_step (node.IsNull negated x) = IsNull negated x.now
node_step (node.Not x) = Not x.now
node_step (node.All members) = All members
node_step (node.Any members) = Any members

abbrev pub list_step : Exprs-F Tree Trees → Trees
list_step exprs = trees (map (λ member. member.now) exprs.members.now)

abbrev pub tree_of : Expr → Tree
tree_of = fold-Expr Tree Trees node_step list_step
