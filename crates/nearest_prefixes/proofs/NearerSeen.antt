-- What is seen of prefixes says which one is nearer, and which are alike.
use Rattle.std.specs.Int.{bit_at}
use Rattle.std.specs.Ordering.{nat_cmp, int_cmp, ordering_then}
use Rattle.std.specs.Cmp.Lexicographic.{slice_cmp}
use Rattle.std.specs.List.{flat_map}
use Rattle.std.specs.declared.cmp.Ordering.{Ordering}
use Rattle.std.specs.declared.cmp.Ordering.TheVariants.{Less, Equal, Greater}
use Rattle.std.proofs.Common.{◌≡◌, ◌≢◌, ◌<◌, ℕ, Bool, true, false, ◌==◌, ◌&&◌, List, [], ◌∷◌}
use Rattle.std.proofs.Common.{length, map, refl, sym, ap, ap₂, ◌∙◌, pos, arith}
use Rattle.std.proofs.lemmas.Bool.{eqb-true, eq-eqb, eqb-false, ne_eqb}
use Rattle.std.proofs.lemmas.List.{length-map}
use Rattle.std.proofs.lemmas.Nat.Bits.{bit_at-lt, same_from_bits}
use Rattle.list_laws.proofs.Bools.{alike as both_ways}
use Rattle.sql_meaning.specs.OrderState.{state_number}
use Rattle.sql_bound.specs.Naming.{IsPlaced, has_item}
use Rattle.loop_orders.specs.Walks.{state_of}
use Rattle.plan_choice.specs.Settings.{Setting}
use Rattle.plan_choice.specs.Prefixes as meant
use Rattle.plan_choice.specs.Choice.{nearer}
use Rattle.nearest_prefixes.specs.declared.prefix.Prefix.{Prefix, out-Prefix}
use Rattle.nearest_prefixes.specs.Prefixes.{SeenPrefix, told_loop, told_prefix}
use Rattle.nearest_prefixes.specs.Prefixes.{seen_prefix, loops_of}
use Rattle.nearest_prefixes.specs.Growing.{Shows}
use Rattle.nearest_prefixes.specs.Entering.{same_items, alike}
use Rattle.nearest_prefixes.specs.Comparing.{step_of, steps_of, seen_cmp}
use Rattle.nearest_prefixes.proofs.SameItems.{same_to, same_from}
use Rattle.nearest_prefixes.proofs.Comparisons.{then_assoc, flat_map_mapped, cmp_natural}

then_rest : (a b c d e : Ordering)
    → ordering_then (ordering_then (ordering_then (ordering_then a b) c) d) e
    ≡ ordering_then a (ordering_then b (ordering_then c (ordering_then d e)))
then_rest Less b c d e = refl
then_rest Greater b c d e = refl
then_rest Equal Less c d e = refl
then_rest Equal Greater c d e = refl
then_rest Equal Equal c d e = then_assoc c d e

steps_told : (ts : List meant.OfferedLoop)
    → steps_of (map told_loop ts) ≡ flat_map (λ t. t.item ∷ t.number ∷ []) ts
steps_told ts = flat_map_mapped step_of told_loop ts

pub told_nearer : (s : Setting) (p q : meant.Prefix)
    → seen_cmp s (told_prefix p) (told_prefix q) ≡ nearer s p q
told_nearer s p q =
    then_rest (int_cmp (pos (meant.weight p)) (pos (meant.weight q)))
    (int_cmp (pos p.cost) (pos q.cost)) (int_cmp (pos p.rows) (pos q.rows))
    (nat_cmp (state_number s.bound.keys p.state) (state_number s.bound.keys q.state))
    (slice_cmp nat_cmp (steps_of (map told_loop p.loops)) (steps_of (map told_loop q.loops)))
    ∙ rw (
      cmp_natural (meant.weight p) (meant.weight q),
      cmp_natural p.cost q.cost,
      cmp_natural p.rows q.rows,
      steps_told p.loops,
      steps_told q.loops,
    ) refl

pub shown_nearer : (s : Setting) (p q : meant.Prefix) (x y : Prefix) → Shows s p x → Shows s q y
    → seen_cmp s (seen_prefix x) (seen_prefix y) ≡ nearer s p q
shown_nearer s p q x y h k =
    ap (λ (a : SeenPrefix). seen_cmp s a (seen_prefix y)) h.seen
    ∙ ap (λ (b : SeenPrefix). seen_cmp s (told_prefix p) b) k.seen ∙ told_nearer s p q

pub shown_loops : (s : Setting) (p : meant.Prefix) (x : Prefix) → Shows s p x
    → length (loops_of x) ≡ length p.loops
shown_loops s p x h =
    ap (λ (a : SeenPrefix). length a.loops) h.seen ∙ length-map p.loops told_loop

-- prefixes of one length have as many loops to be compared
pub loops_alike : (s : Setting) (p q : meant.Prefix) (x y : Prefix) → Shows s p x → Shows s q y
    → length p.loops ≡ length q.loops → length (loops_of x) ≡ length (loops_of y)
loops_alike s p q x y h k e = shown_loops s p x h ∙ e ∙ sym (shown_loops s q y k)

-- what tells two apart already
pub first_unequal : (o rest : Ordering) → o ≢ Equal → o ≡ ordering_then o rest
first_unequal Less rest n = refl
first_unequal Equal rest n = absurd (n refl)
first_unequal Greater rest n = refl

bit_case : (a b : ℕ) (c d : Bool) → (a == 1) ≡ c → (b == 1) ≡ d → c ≡ d → a < 2 → b < 2 → a ≡ b
bit_case a b true true e f g l m = eqb-true a 1 e ∙ sym (eqb-true b 1 f)
bit_case a b false false e f g l m =
    let no = eqb-false a 1 e in
    let neither = eqb-false b 1 f in omega (arith, no, neither, l, m)
bit_case a b true false e f g l m = absurd (cc)
bit_case a b false true e f g l m = absurd (cc)

-- masks are equal where they have the same items
pub masks_alike : (a b : ℕ) (is js : List ℕ) → IsPlaced a is → IsPlaced b js
    → (a == b) ≡ same_items is js
masks_alike a b is js h k =
    both_ways (a == b) (same_items is js)
    (λ e.
    same_to is js
    (λ i. h.each i ∙ ap (λ (m : ℕ). has_item m i) (eqb-true a b e) ∙ sym (k.each i)))
    (λ e.
    eq-eqb a b
    (same_from_bits a b
    (λ i.
    bit_case (bit_at a i) (bit_at b i) (has_item a i) (has_item b i) refl refl
    (sym (h.each i) ∙ same_from is js e i ∙ k.each i) (bit_at-lt a i) (bit_at-lt b i))))

-- with the same items, what is left to compare is how far they give the order
pub rivals_shown : (s : Setting) (p q : meant.Prefix) (x y : Prefix) → Shows s p x → Shows s q y
    → (n m : ℕ) → (out-Prefix x).placed ≡ (out-Prefix y).placed
    → n ≡ state_number s.bound.keys (state_of (out-Prefix x).order)
    → m ≡ state_number s.bound.keys (state_of (out-Prefix y).order)
    → (n == m) ≡ alike s p q
rivals_shown s p q x y h k n m e f g =
    let masks = masks_alike _ _ (meant.placed_in p) (meant.placed_in q) h.placed k.placed in
    let left = f ∙ ap (λ (a : SeenPrefix). state_number s.bound.keys a.state) h.seen in
    let right = g ∙ ap (λ (a : SeenPrefix). state_number s.bound.keys a.state) k.seen in
    let numbers = state_number s.bound.keys p.state == state_number s.bound.keys q.state in
    ap₂ (λ i j. i == j) left right
    ∙ ap (λ b. b && numbers) (sym (eq-eqb _ _ e) ∙ masks)

pub no_rivals : (s : Setting) (p q : meant.Prefix) (x y : Prefix) → Shows s p x → Shows s q y
    → (out-Prefix x).placed ≢ (out-Prefix y).placed
    → ((out-Prefix x).placed == (out-Prefix y).placed) ≡ alike s p q
no_rivals s p q x y h k n =
    let masks = masks_alike _ _ (meant.placed_in p) (meant.placed_in q) h.placed k.placed in
    let numbers = state_number s.bound.keys p.state == state_number s.bound.keys q.state in
    let no = ne_eqb (out-Prefix x).placed (out-Prefix y).placed n in
    no ∙ ap (λ b. b && numbers) (sym no ∙ masks)
