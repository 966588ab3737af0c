-- The lightest of a list, member by member.
use Rattle.std.proofs.Common.{◌≡◌, ◌++◌, ℕ, Bool, true, false, List, [], ◌∷◌, Option, Some}
use Rattle.std.proofs.Common.{None, refl, ap, ◌∙◌, sym, cond, nat_lt, arith, map, option_map}
use Rattle.std.proofs.lemmas.Bool.{ltb-true, ltb-false}
use Rattle.plan_choice.specs.Offers.{lightest, lighter, option_list}
use Rattle.access_paths.specs.Branches.{lighter_of}

module _ {X : Type 0} (weight : X → ℕ) where
  three : (x y z : X) (b c d : Bool) → nat_lt (weight y) (weight x) ≡ b
      → nat_lt (weight z) (weight y) ≡ c → nat_lt (weight z) (weight x) ≡ d
      → lighter weight x (cond c (Some z) (Some y))
      ≡ lighter_of weight (cond b (Some y) (Some x)) (Some z)
  three x y z true true true p q r = rw (q, r) refl
  three x y z true true false p q r =
      absurd
      (omega (
        arith,
        ltb-true (weight y) (weight x) p,
        ltb-true (weight z) (weight y) q,
        ltb-false (weight z) (weight x) r,
      ))
  three x y z true false d p q r = rw (p, q) refl
  three x y z false true d p q r = refl
  three x y z false false false p q r = rw (p, r) refl
  three x y z false false true p q r =
      absurd
      (omega (
        arith,
        ltb-false (weight y) (weight x) p,
        ltb-false (weight z) (weight y) q,
        ltb-true (weight z) (weight x) r,
      ))

  grouped : (x : X) (o p : Option X)
      → lighter weight x (lighter_of weight o p) ≡ lighter_of weight (lighter weight x o) p
  grouped x None p = refl
  grouped x (Some y) None = kept (nat_lt (weight y) (weight x))
    where
      kept : (b : Bool) → cond b (Some y) (Some x)
          ≡ lighter_of weight (cond b (Some y) (Some x)) None
      kept true = refl
      kept false = refl
  grouped x (Some y) (Some z) =
      three x y z (nat_lt (weight y) (weight x)) (nat_lt (weight z) (weight y))
      (nat_lt (weight z) (weight x)) refl refl refl

  pub lighter_joined : (o p q : Option X)
      → lighter_of weight (lighter_of weight o p) q ≡ lighter_of weight o (lighter_of weight p q)
  lighter_joined None p q = refl
  lighter_joined (Some x) p q = sym (grouped x p q)

  pub lightest_behind : (o : Option X) (xs : List X)
      → lightest weight (option_list o ++ xs) ≡ lighter_of weight o (lightest weight xs)
  lightest_behind None xs = refl
  lightest_behind (Some x) xs = refl

  pub nothing_behind : (o : Option X) → lighter_of weight o None ≡ o
  nothing_behind None = refl
  nothing_behind (Some x) = refl

-- by what the members are seen as
lighter-map : {X Y : Type 0} (weight : Y → ℕ) (f : X → Y) (x : X) (o : Option X)
    → option_map f (lighter (λ z. weight (f z)) x o) ≡ lighter weight (f x) (option_map f o)
lighter-map weight f x None = refl
lighter-map {X} {Y} weight f x (Some y) = seen (nat_lt (weight (f y)) (weight (f x)))
  where
    seen : (b : Bool) → option_map f (cond b (Some y) (Some x)) ≡ cond b (Some (f y)) (Some (f x))
    seen true = refl
    seen false = refl

pub lightest-map : {X Y : Type 0} (weight : Y → ℕ) (f : X → Y) (xs : List X)
    → option_map f (lightest (λ z. weight (f z)) xs) ≡ lightest weight (map f xs)
lightest-map weight f [] = refl
lightest-map weight f (x ∷ xs) =
    lighter-map weight f x (lightest (λ z. weight (f z)) xs)
    ∙ ap (lighter weight (f x)) (lightest-map weight f xs)
