-- Forms made of parts are the same where their parts are.
use Rattle.std.proofs.Common.{◌≡◌, Bool, List, map, ap, ap₂, ◌∙◌}
use Rattle.sql_meaning.specs.Expressions.{BExpr, BExprs, Op}
use Rattle.sql_bound.specs.Expressions.{exprs, expr_of}
use Rattle.sql_bound.specs.declared.expression.BExpr.{BExpr as Declared}
use Rattle.sql_names.specs.Scopes.{Scope}
use Rattle.sql_names.specs.Binding.{compared, between, one_of}

pub compared_same : (scope : Scope) (op : Op) (made l r x y : BExpr) → made ≡ compared scope op l r
    → l ≡ x → r ≡ y → made ≡ compared scope op x y
compared_same scope op made l r x y is left right = is ∙ ap₂ (compared scope op) left right

pub between_same : (scope : Scope) (negated : Bool) (made m l h x y z : BExpr)
    → made ≡ between scope negated m l h → m ≡ x → l ≡ y → h ≡ z
    → made ≡ between scope negated x y z
between_same scope negated made m l h x y z is middle low high =
    is
    ∙ ap (λ e. between scope negated e l h) middle
    ∙ ap₂ (between scope negated x) low high

pub one_of_same : (scope : Scope) (negated : Bool) (made l x : BExpr) (given es : List Declared)
    (xs : BExprs) → made ≡ one_of scope negated l (exprs (map expr_of given)) → given ≡ es → l ≡ x
    → exprs (map expr_of es) ≡ xs → made ≡ one_of scope negated x xs
one_of_same scope negated made l x given es xs is same left entries =
    is
    ∙ ap (λ ms. one_of scope negated l (exprs (map expr_of ms))) same
    ∙ ap₂ (one_of scope negated) left entries
