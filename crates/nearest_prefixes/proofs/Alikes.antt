-- Prefixes that are alike: an equivalence, which is that of rivals among prefixes of one length.
use Rattle.std.specs.Cmp.{IsEquivalence}
use Rattle.std.specs.List.{AllByRecursion}
use Rattle.std.proofs.Common.{◌≡◌, ◌≢◌, ℕ, ◌+◌, Bool, true, false, ◌||◌, ◌&&◌, ◌==◌}
use Rattle.std.proofs.Common.{List, [], ◌∷◌, length, refl, sym, ap, ◌∙◌, arith}
use Rattle.std.proofs.lemmas.Bool.{eq-eqb}
use Rattle.std.proofs.lemmas.Cmp.{and_equiv, on_equiv, nat_eq_equiv}
use Rattle.list_laws.specs.Nest.{Distinct}
use Rattle.list_laws.proofs.Bools.{alike as both_ways, and_left, both_true, or_turn, or_assoc}
use Rattle.sql_meaning.specs.OrderState.{state_number}
use Rattle.sql_meaning.specs.Statements.{Bound, has_number, all_in}
use Rattle.plan_choice.specs.Settings.{Setting}
use Rattle.plan_choice.specs.Prefixes.{OfferedLoop, Prefix, items_of, placed_from, placed_in}
use Rattle.plan_choice.specs.Prefixes.{may_come}
use Rattle.plan_choice.specs.Choice.{rivals}
use Rattle.plan_choice.proofs.PlacedItems.{inside, unplaced}
use Rattle.nearest_prefixes.specs.Entering.{same_items, alike}
use Rattle.nearest_prefixes.proofs.SameItems.{all_in_from, same_items_equiv, fills}

pub alike_equiv : (s : Setting) → IsEquivalence (alike s)
alike_equiv s =
    and_equiv (on_equiv placed_in same_items_equiv)
    (on_equiv (λ (p : Prefix). state_number s.bound.keys p.state) nat_eq_equiv)

or_none : (b : Bool) → (b || false) ≡ b
or_none true = refl
or_none false = refl

placed_has : (ts : List OfferedLoop) (placed : List ℕ) (a : ℕ)
    → has_number a (placed_from ts placed) ≡ (has_number a (items_of ts) || has_number a placed)
placed_has [] placed a = refl
placed_has (t ∷ ts) placed a =
    placed_has ts (t.item ∷ placed) a
    ∙ or_turn (has_number a (items_of ts)) (a == t.item) (has_number a placed)
    ∙ or_assoc (a == t.item) (has_number a (items_of ts)) (has_number a placed)

pub in_placed : (p : Prefix) (a : ℕ) → has_number a (placed_in p) ≡ has_number a (items_of p.loops)
in_placed p a = placed_has p.loops [] a ∙ or_none (has_number a (items_of p.loops))

placed_count : (ts : List OfferedLoop) (placed : List ℕ)
    → length (placed_from ts placed) ≡ length ts + length placed
placed_count [] placed = omega arith
placed_count (t ∷ ts) placed =
    let more = placed_count ts (t.item ∷ placed) in omega (arith, more)

pub placed_length : (p : Prefix) → length (placed_in p) ≡ length p.loops
placed_length p = let all = placed_count p.loops [] in omega (arith, all)

apart_case : (a n : ℕ) (ns : List ℕ) → (a == n || has_number a ns) ≡ false → n ≢ a
apart_case a n ns h e =
    let yes : (a == n) ≡ true = eq-eqb a n (sym e) in
    let no : true ≡ false = ap (λ b. b || has_number a ns) (sym yes) ∙ h in cc

later_case : (b c : Bool) → (b || c) ≡ false → c ≡ false
later_case true c h = absurd (cc)
later_case false c h = h

pub absent : (a : ℕ) (ns : List ℕ) → has_number a ns ≡ false → AllByRecursion (λ n. n ≢ a) ns
absent a [] h = tt
absent a (n ∷ ns) h = (apart_case a n ns h, absent a ns (later_case (a == n) _ h))

-- an item that may come isn't placed
pub distinct_more : (bound : Bound) (placed : List ℕ) (i : ℕ) → may_come bound placed i ≡ true
    → Distinct placed → Distinct (i ∷ placed)
distinct_more bound placed i come d = (absent i placed (unplaced bound placed i come), d)

items_case : (p q : Prefix) → Distinct (placed_in p) → length p.loops ≡ length q.loops
    → all_in (items_of p.loops) (items_of q.loops) ≡ same_items (placed_in p) (placed_in q)
items_case p q d e =
    both_ways (all_in (items_of p.loops) (items_of q.loops))
    (same_items (placed_in p) (placed_in q))
    (λ h.
    let within : (a : ℕ) → has_number a (placed_in p) ≡ true → has_number a (placed_in q) ≡ true =
    (λ a k.
    in_placed q a
    ∙ inside (items_of p.loops) (items_of q.loops) a h (sym (in_placed p a) ∙ k)) in
    let size = placed_length p ∙ e ∙ sym (placed_length q) in
    both_true (all_in (placed_in p) (placed_in q)) _
    (all_in_from (placed_in p) (placed_in q) within)
    (all_in_from (placed_in q) (placed_in p) (fills (placed_in p) (placed_in q) d within size)))
    (λ h.
    all_in_from (items_of p.loops) (items_of q.loops)
    (λ a k.
    sym (in_placed q a)
    ∙ inside (placed_in p) (placed_in q) a (and_left (all_in (placed_in p) (placed_in q)) _ h)
    (in_placed p a ∙ k)))

-- prefixes of one length, which place no item twice, are rivals where they are alike
pub rivals_alike : (s : Setting) (p q : Prefix) → Distinct (placed_in p)
    → length p.loops ≡ length q.loops → alike s p q ≡ rivals s p q
rivals_alike s p q d e =
    ap (λ b. b && state_number s.bound.keys p.state == state_number s.bound.keys q.state)
    (sym (items_case p q d e))
