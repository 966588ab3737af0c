-- Numbers that rise, and parameters by theirs.
use Rattle.std.proofs.Common.{◌≡◌, ◌≢◌, ℕ, zero, suc, ◌+◌, ◌-◌, List, [], ◌∷◌, ◌++◌, refl, ap}
use Rattle.std.proofs.Common.{◌∙◌, arith, get_or}
use Rattle.sql_meaning.specs.Values.{Value, Null}
use Rattle.sql_meaning.specs.Evaluation.{param_value}
use Rattle.sql_meaning.specs.Statements.{numbers_from}

numbers_more : (start n : ℕ) → numbers_from start (suc n) ≡ numbers_from start n ++ (start + n) ∷ []
numbers_more start zero = let e : start + 0 ≡ start = omega arith in rw e refl
numbers_more start (suc n) =
    let e : (start + 1) + n ≡ start + suc n = omega arith in
    ap (λ l. start ∷ l) (numbers_more (start + 1) n ∙ rw e refl)

pub numbers_end : (n : ℕ) → numbers_from 0 (n + 1) ≡ numbers_from 0 n ++ n ∷ []
numbers_end n =
    let e : n + 1 ≡ suc n = omega arith in
    let z : 0 + n ≡ n = omega arith in
    rw e (numbers_more 0 n ∙ ap (λ m. numbers_from 0 n ++ m ∷ []) z)

pub param_above : (params : List Value) (number : ℕ) → number ≢ 0
    → get_or params (number - 1) Null ≡ param_value params number
param_above params zero h = absurd (h refl)
param_above params (suc n) h =
    let e : suc n - 1 ≡ n = omega arith in ap (λ m. get_or params m Null) e
