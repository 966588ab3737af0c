-- Items as bits.
use Rattle.std.proofs.Common.{◌≡◌, ◌≢◌, ◌<◌, ◌≤◌, ◌^◌, ◌==◌, ◌||◌, ℕ, Bool, true, false, List, []}
use Rattle.std.proofs.Common.{◌∷◌, max, bit_or, refl, ap, ◌∙◌, sym, arith, ◌*◌, ◌%◌, nat_lt}
use Rattle.std.specs.Int.{bit_at}
use Rattle.std.proofs.lemmas.Bool.{eqb-true, eq-eqb, ne_eqb, le-ltb}
use Rattle.std.proofs.lemmas.Nat.{le_or_r, one_shl, pow_pos}
use Rattle.std.proofs.lemmas.Nat.Bits.{bit_at-zero, bit_at-lt, bit_at_or, bit_at-pow_same}
use Rattle.std.proofs.lemmas.Nat.Bits.{bit_at-pow_other, bit_at_above}
use Rattle.sql_bound.specs.Naming.{IsPlaced, has_item}

pub no_item : IsPlaced 0 []
no_item = record { each = λ item. rw (bit_at-zero item) refl; none = refl }

-- a number of so many bits has no item beyond them
pub beyond : (mask bits item : ℕ) → mask < 2 ^ bits → bits ≤ item
    → nat_lt item bits ≡ has_item mask item
beyond mask bits item small far =
    rw (le-ltb item bits far, bit_at_above mask bits item small far) refl

added_bit : (mask item k : ℕ) (same : Bool) → (k == item) ≡ same
    → (same || has_item mask k) ≡ has_item (bit_or mask (2 ^ item)) k
added_bit mask item k true is =
    let one : k ≡ item = eqb-true k item is in
    let small : bit_at mask item < 2 = bit_at-lt mask item in
    let both : max (bit_at mask item) 1 ≡ 1 = omega (arith, small) in
    rw (one, bit_at_or mask (2 ^ item) item, bit_at-pow_same item, both) refl
added_bit mask item k false is =
    let other : k ≢ item = λ e. (let yes : (k == item) ≡ true = eq-eqb k item e in cc) in
    let left : max (bit_at mask k) 0 ≡ bit_at mask k = omega arith in
    rw (bit_at_or mask (2 ^ item) k, bit_at-pow_other item k other, left) refl

not_zero : (n : ℕ) → 0 < n → false ≡ (n == 0)
not_zero n h = let some : n ≢ 0 = omega (arith, h) in sym (ne_eqb n 0 some)

one_more : (mask item : ℕ) (items : List ℕ) → IsPlaced mask items
    → IsPlaced (bit_or mask (2 ^ item)) (item ∷ items)
one_more mask item items p = record {
  each = λ k. (ap (λ b. (k == item) || b) (p.each k) ∙ added_bit mask item k (k == item) refl);
  none = not_zero (bit_or mask (2 ^ item)) (omega (arith, le_or_r mask (2 ^ item), pow_pos item));
}

-- a bit that is moved within a width stays
pub one_moved : (mask item bits : ℕ) (items : List ℕ) → item < bits → IsPlaced mask items
    → IsPlaced (bit_or mask ((1 * 2 ^ item) % 2 ^ bits)) (item ∷ items)
one_moved mask item bits items h p = rw (one_shl item bits h) (one_more mask item items p)
