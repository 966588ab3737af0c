-- The items of a mask are those whose bits are set.
use Rattle.std.proofs.Common.{◌≡◌, ◌≢◌, ◌<◌, ◌≤◌, ◌^◌, ◌==◌, ◌&&◌, ℕ, zero, suc, Bool, true}
use Rattle.std.proofs.Common.{false, cond, List, [], ◌∷◌, refl, ap, ◌∙◌, sym, arith, nat_lt}
use Rattle.std.specs.Int.{bit_at}
use Rattle.std.proofs.lemmas.Bool.{eqb-true, eq-eqb, le-ltb, lt-ltb}
use Rattle.std.proofs.lemmas.Bool.Decides.{nat_tests}
use Rattle.std.proofs.lemmas.Nat.Bits.{bit_at-zero, bit_at-lt, same_from_bits}
use Rattle.list_laws.proofs.Bools.{alike}
use Rattle.sql_meaning.specs.Statements.{has_number, is_empty}
use Rattle.sql_bound.specs.Naming.{IsPlaced, has_item}
use Rattle.sql_bound.proofs.Bits.{beyond}
use Rattle.access_paths.specs.Placed.{items_below, items_in}

-- a bit that isn't set, and one that is
pub unset : (mask item : ℕ) → has_item mask item ≡ false → bit_at mask item ≡ 0
unset mask item h =
    let small : bit_at mask item < 2 = bit_at-lt mask item in
    let other : bit_at mask item ≢ 1 = λ e. (let t = eq-eqb (bit_at mask item) 1 e in cc) in
    omega (arith, small, other)

pub set : (mask item : ℕ) → has_item mask item ≡ true → bit_at mask item ≡ 1
set mask item h = eqb-true (bit_at mask item) 1 h

-- with the item n or without it
one_more : (k n : ℕ) (there : Bool) (rest : List ℕ) (mask : ℕ) → has_item mask n ≡ there
    → has_number k rest ≡ (nat_lt k n && has_item mask k) → (same : Bool) → (k == n) ≡ same
    → has_number k (cond there (n ∷ rest) rest) ≡ (nat_lt k (suc n) && has_item mask k)
one_more k n true rest mask is h true e =
    let one : k ≡ n = eqb-true k n e in
    let within : nat_lt k (suc n) ≡ true = lt-ltb k (suc n) (omega arith) in
    rw (e, within, one, is) refl
one_more k n true rest mask is h false e =
    let other : k ≢ n = λ q. (let t = eq-eqb k n q in cc) in
    let same : nat_lt k (suc n) ≡ nat_lt k n = grind (arith, nat_tests) in
    rw (e, same) h
one_more k n false rest mask is h true e =
    let one : k ≡ n = eqb-true k n e in
    let beyond : nat_lt k n ≡ false = le-ltb k n (omega arith) in
    let none : has_item mask k ≡ false = rw one is in
    rw (h, none) (and_none (nat_lt k n) (nat_lt k (suc n)))
  where
    and_none : (a b : Bool) → (a && false) ≡ (b && false)
    and_none true true = refl
    and_none true false = refl
    and_none false true = refl
    and_none false false = refl
one_more k n false rest mask is h false e =
    let other : k ≢ n = λ q. (let t = eq-eqb k n q in cc) in
    let same : nat_lt k (suc n) ≡ nat_lt k n = grind (arith, nat_tests) in
    rw same h

has_below : (mask k n : ℕ)
    → has_number k (items_below mask n) ≡ (nat_lt k n && has_item mask k)
has_below mask k zero = rw (le-ltb k 0 (omega arith)) refl
has_below mask k (suc n) =
    one_more k n (has_item mask n) (items_below mask n) mask refl (has_below mask k n) (k == n) refl

within : (mask k bits : ℕ) → mask < 2 ^ bits → (below : Bool) → nat_lt k bits ≡ below
    → (below && has_item mask k) ≡ has_item mask k
within mask k bits small true e = refl
within mask k bits small false e =
    let far : bits ≤ k = grind (arith, nat_tests) in
    sym (le-ltb k bits far) ∙ beyond mask bits k small far

none_below : (n : ℕ) → items_below 0 n ≡ []
none_below zero = refl
none_below (suc n) = rw (bit_at-zero n) (none_below n)

empty_is : (xs : List ℕ) → is_empty xs ≡ true → xs ≡ []
empty_is [] e = refl
empty_is (x ∷ xs) e = absurd (cc)

has_each : (mask k : ℕ) → mask < 2 ^ 64 → has_number k (items_below mask 64) ≡ has_item mask k
has_each mask k small =
    has_below mask k 64 ∙ within mask k 64 small (nat_lt k 64) refl

none_set : (mask : ℕ) → mask < 2 ^ 64 → items_below mask 64 ≡ [] → mask ≡ 0
none_set mask small e =
    same_from_bits mask 0
    (λ i. unset mask i (sym (has_each mask i small) ∙ ap (has_number i) e) ∙ sym (bit_at-zero i))

pub items_are_placed : (mask : ℕ) → mask < 2 ^ 64 → IsPlaced mask (items_in mask)
unfolding items_in
items_are_placed mask small = record {
  each = λ item. has_each mask item small;
  none =
      alike (is_empty (items_below mask 64)) (mask == 0)
      (λ e. eq-eqb mask 0 (none_set mask small (empty_is (items_below mask 64) e)))
      (λ e. rw (eqb-true mask 0 e) (ap is_empty (none_below 64)));
}
