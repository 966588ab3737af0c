-- The items of a scope in turn, and the columns of a name among them.
use Rattle.std.proofs.Common.{◌≡◌, ◌<◌, ℕ, suc, ◌+◌, ◌-◌, Option, None, Some, option_map, List, ◌∷◌}
use Rattle.std.proofs.Common.{◌++◌, false, refl, ap, sym, ◌∙◌, arith}
use Rattle.std.specs.List.{filter_map}
use Rattle.std.specs.Option.{option_to_list, is_some}
use Rattle.sql_meaning.specs.Statements.{numbers_from}
use Rattle.sql_meaning.specs.Expressions.{BExpr}
use Rattle.sql_bound.specs.Expressions.{expr_of}
use Rattle.sql_bound.specs.declared.expression.BExpr.{BExpr as Declared}

from_first : (i n : ℕ) → i < n → numbers_from i (n - i) ≡ i ∷ numbers_from (i + 1) (n - (i + 1))
from_first i n h =
    let rest : n - i ≡ suc (n - (i + 1)) = omega arith in
    rw rest refl

-- an item without such a column is passed
pub passed_item : (f : ℕ → Option BExpr) (whole : List BExpr) (i n count : ℕ)
    (found now : Option Declared) (column : Option Declared) → i < count → count ≡ n
    → option_map expr_of column ≡ f i → column ≡ None → now ≡ found
    → option_to_list (option_map expr_of found) ++ filter_map f (numbers_from i (n - i)) ≡ whole
    → option_to_list (option_map expr_of now)
    ++ filter_map f (numbers_from (i + 1) (n - (i + 1))) ≡ whole
passed_item f whole i n count found now column h k given none kept is =
    let turn : filter_map f (numbers_from i (n - i))
    ≡ filter_map f (numbers_from (i + 1) (n - (i + 1))) =
    rw (from_first i n (omega (arith, h, k)), sym given, none) refl in
    rw kept (ap (λ xs. option_to_list (option_map expr_of found) ++ xs) (sym turn) ∙ is)

-- the first item that has one
pub first_item : (f : ℕ → Option BExpr) (whole : List BExpr) (i n count : ℕ)
    (found now : Option Declared) (column : Option Declared) (e : Declared) → i < count → count ≡ n
    → option_map expr_of column ≡ f i → column ≡ Some e → is_some found ≡ false → now ≡ Some e
    → option_to_list (option_map expr_of found) ++ filter_map f (numbers_from i (n - i)) ≡ whole
    → option_to_list (option_map expr_of now)
    ++ filter_map f (numbers_from (i + 1) (n - (i + 1))) ≡ whole
first_item f whole i n count (Some d) now column e h k given some none set is = absurd (cc)
first_item f whole i n count None now column e h k given some none set is =
    let turn : filter_map f (numbers_from i (n - i))
    ≡ expr_of e ∷ filter_map f (numbers_from (i + 1) (n - (i + 1))) =
    rw (from_first i n (omega (arith, h, k)), sym given, some) refl in
    rw set (sym turn ∙ is)
