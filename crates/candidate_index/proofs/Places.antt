-- Where the first member stands that passes a test.
use Rattle.std.proofs.Common.{◌≡◌, ◌⊎◌, inl, inr, ℕ, zero, suc, ◌+◌, ◌≤◌, ◌<◌, nat_lt, eqb, Bool}
use Rattle.std.proofs.Common.{true, false, cond, not, ◌||◌, List, [], ◌∷◌, ◌++◌, length, position}
use Rattle.std.proofs.Common.{Option, None, Some, get_or, refl, ap, ◌∙◌, arith, if◌then◌else◌}
use Rattle.std.specs.List.{AllByRecursion, list_any, position_or_len}
use Rattle.std.proofs.lemmas.List.Sums.{prefix_len-le-length}

any_step : (b r : Bool) (n len : ℕ) → r ≡ nat_lt n len
    → (b || r) ≡ nat_lt (cond (not b) (1 + n) 0) (suc len)
any_step true r n len h = grind arith
any_step false r n len h = let next : 1 + n ≡ suc n = omega arith in rw next (h ∙ same n len)
  where
    same : (n m : ℕ) → nat_lt n m ≡ nat_lt (suc n) (suc m)
    same n m = grind arith

any_place : {X : Type 0} (p : X → Bool) (xs : List X)
    → list_any p xs ≡ nat_lt (position_or_len p xs) (length xs)
any_place p [] = refl
any_place p (x ∷ xs) =
    any_step (p x) (list_any p xs) (position_or_len p xs) (length xs) (any_place p xs)

not_below : (n len : ℕ) → nat_lt n len ≡ false → n ≤ len → n ≡ len
not_below n len e h = grind arith

-- a member that is put where it isn't there stands last
pub record IsThere {X : Type 0} (p : X → Bool) (xs : List X) (x : X) : Type 0 where
  pub place : position p xs ≡ Some (position_or_len p xs)
  pub same : (if list_any p xs then xs else xs ++ x ∷ []) ≡ xs

pub record IsNew {X : Type 0} (p : X → Bool) (xs : List X) (x : X) : Type 0 where
  pub place : position p xs ≡ None
  pub last : position_or_len p xs ≡ length xs
  pub more : (if list_any p xs then xs else xs ++ x ∷ []) ≡ xs ++ x ∷ []

pub there_or_new : {X : Type 0} (p : X → Bool) (xs : List X) (x : X)
    → IsThere p xs x ⊎ IsNew p xs x
there_or_new {X} p xs x = by (nat_lt (position_or_len p xs) (length xs)) refl
  where
    by : (b : Bool) → nat_lt (position_or_len p xs) (length xs) ≡ b → IsThere p xs x ⊎ IsNew p xs x
    by true e = inl (record {
      place = ap (λ (b : Bool). cond b (Some (position_or_len p xs)) None) e;
      same = ap (λ (b : Bool). if b then xs else xs ++ x ∷ []) (any_place p xs ∙ e);
    })
    by false e = inr (record {
      place = ap (λ (b : Bool). cond b (Some (position_or_len p xs)) None) e;
      last = not_below _ _ e (prefix_len-le-length (λ y. not (p y)) xs);
      more = ap (λ (b : Bool). if b then xs else xs ++ x ∷ []) (any_place p xs ∙ e);
    })

pub all_at : {X : Type 0} (P : X → Type 0) (xs : List X) (i : ℕ) (d : X) → AllByRecursion P xs
    → i < length xs → P (get_or xs i d)
all_at P [] i d h l = absurd (omega arith)
all_at P (x ∷ xs) zero d h l = h.0
all_at P (x ∷ xs) (suc i) d h l = all_at P xs i d h.1 (omega arith)
