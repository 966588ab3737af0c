-- Numbers one further.
use Rattle.std.proofs.Common.{◌≡◌, ◌<◌, ◌≤◌, ℕ, suc, ◌+◌, ◌-◌, [], ◌∷◌, ap, arith}
use Rattle.sql_meaning.specs.Statements.{numbers_from}

pub numbers_next : (i n : ℕ) → i < n
    → numbers_from i (n - i) ≡ i ∷ numbers_from (i + 1) (n - (i + 1))
numbers_next i n l =
    let one_less : n - i ≡ suc (n - (i + 1)) = omega (arith, l) in ap (numbers_from i) one_less

pub numbers_past : (i n : ℕ) → n ≤ i → numbers_from i (n - i) ≡ []
numbers_past i n l = let none : n - i ≡ 0 = omega (arith, l) in ap (numbers_from i) none
