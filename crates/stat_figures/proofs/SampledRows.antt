-- How many rows a sample has.
use Rattle.std.proofs.Common.{◌≡◌, ℕ, suc, ◌+◌, ◌*◌, ◌/◌, ◌≤◌, Bool, true, false, cond, refl, arith}
use Rattle.std.proofs.Common.{ap, ◌∙◌, List, [], ◌∷◌, length, ltb, sym, ◌<◌}
use Rattle.std.proofs.lemmas.Bool.Decides.{nat_tests}
use Rattle.sql_meaning.specs.Rows.{Row}
use Rattle.plan_choice.specs.Figures.{sampled, sampled_from, table_figure}
use Rattle.plan_choice.specs.Logarithms.{log_est}

count_case : {X : Type 0} (b : Bool) (x : X) (xs : List X) (p q n m : ℕ) → p ≤ 100
    → ltb (q / 100) (m / 100) ≡ b → m ≡ q + p → length xs + m / 100 ≡ n
    → length (cond b (x ∷ xs) xs) + q / 100 ≡ n
count_case true x xs p q n m few h e k = grind (arith, nat_tests)
count_case false x xs p q n m few h e k = grind (arith, nat_tests)

-- how many are taken
sampled_from_count : (percent number : ℕ) (xs : List Row) → percent ≤ 100
    → length (sampled_from percent number xs) + number * percent / 100
    ≡ (number + length xs) * percent / 100
sampled_from_count percent number [] few = omega arith
sampled_from_count percent number (x ∷ xs) few =
    count_case _ x (sampled_from percent (suc number) xs) percent
    (number * percent) _ ((number + 1) * percent) few refl (omega arith)
    (again number percent (length (sampled_from percent (suc number) xs))
    ∙ sampled_from_count percent (suc number) xs few
    ∙ ap (λ n. n * percent / 100) (omega arith))
  where
    again : (k p n : ℕ) → n + (k + 1) * p / 100 ≡ n + suc k * p / 100
    again k p n = ap (λ s. n + s * p / 100) (omega arith)

pub sampled_count : (percent : ℕ) (xs : List Row) → percent ≤ 100
    → length xs * percent / 100 ≡ length (sampled percent xs)
sampled_count percent xs few = let all = sampled_from_count percent 0 xs few in omega arith

some_case : (rows : List Row) → 0 < length rows → table_figure rows ≡ log_est (length rows)
some_case [] h = absurd (omega arith)
some_case (row ∷ rows) h = refl

pub figure_of_some : (rows : List Row) (count : ℕ) → count ≡ length rows → 0 < count
    → log_est count ≡ table_figure rows
figure_of_some rows count e some =
    ap log_est e ∙ sym (some_case rows (omega (arith, e, some)))
