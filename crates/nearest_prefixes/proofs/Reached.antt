-- What is true of each prefix that the search reaches.
use Rattle.std.specs.List.{AllByRecursion}
use Rattle.std.proofs.Common.{◌≡◌, ◌<◌, ◌≤◌, ℕ, zero, suc, ◌+◌, true, List, [], ◌∷◌, ◌++◌}
use Rattle.std.proofs.Common.{Some, length, map, slice_get, refl, sym, ap, ◌∙◌, subst, arith}
use Rattle.list_laws.proofs.Lists.{all_map, all_flat_map, all_from_at, all_take}
use Rattle.list_laws.proofs.Lists.{all_mapped, all_always}
use Rattle.list_laws.proofs.FirstComings.{all_keep}
use Rattle.list_laws.proofs.SortedViews.{all_sort}
use Rattle.plan_choice.specs.Settings.{Setting}
use Rattle.plan_choice.specs.FigureLaws.{AreSmall}
use Rattle.plan_choice.specs.Offers.{Offer, offers}
use Rattle.plan_choice.specs.Prefixes.{OfferedLoop, Prefix, placed_in, extended}
use Rattle.plan_choice.specs.Prefixes.{may_come, next_items, numbered_from, offered_loops}
use Rattle.plan_choice.specs.Prefixes.{extensions}
use Rattle.plan_choice.specs.Choice.{neighbor_count, nearer, rivals, next_level, levels}
use Rattle.plan_choice.proofs.Orderings.{Rising}
use Rattle.plan_choice.proofs.OfferedLoops.{IsOfferedLoop}
use Rattle.plan_choice.proofs.SoundPrefixes.{IsOwn, IsPrefix, empty_is, offered_loops_are}
use Rattle.plan_choice.proofs.SoundLevels.{next_are, next_of, by_taking}
use Rattle.plan_choice.proofs.SmallCosts.{CostWithin, IsCheap, extended_small, offered_loops_small}
use Rattle.nearest_prefixes.specs.Growing.{Follows, IsReached}

-- what is true of all is true of the one at a place
all_at : {X : Type 0} (P : X → Type 0) (xs : List X) (k : ℕ) (x : X) → AllByRecursion P xs
    → slice_get xs k ≡ Some x → P x
all_at P [] k x h e = absurd (cc)
all_at P (y ∷ ys) zero x h e = let is : y ≡ x = cc in subst P is h.0
all_at P (y ∷ ys) (suc k) x h e = all_at P ys k x h.1 e

-- a loop stands at its number
numbered_at : (item start : ℕ) (os : List Offer) (k : ℕ) (t : OfferedLoop)
    → slice_get (numbered_from item start os) k ≡ Some t
    → (t.item ≡ item) × (t.number ≡ start + k)
numbered_at item start [] k t e = absurd (cc)
numbered_at item start (o ∷ os) zero t e =
    let is : record { item = item; number = start; offer = o } ≡ t = cc in
    subst (λ (u : OfferedLoop). (u.item ≡ item) × (u.number ≡ start + 0)) is (refl, omega arith)
numbered_at item start (o ∷ os) (suc k) t e =
    let rest = numbered_at item (start + 1) os k t e in
    let number = rest.1 in
    (rest.0, omega (arith, number))

-- each loop of an item that may come next follows
pub all_follow : (s : Setting) (p : Prefix) (item : ℕ)
    → may_come s.bound (placed_in p) item ≡ true → item < length s.bound.items
    → AllByRecursion (λ t. (t.item ≡ item) × Follows s p t) (offered_loops s (placed_in p) item)
all_follow s p item come below =
    all_from_at _ (offered_loops s (placed_in p) item)
    (λ k t e.
    let at = numbered_at item 0 (offers s (placed_in p) item) k t e in
    let number : t.number ≡ 0 + k = at.1 in
    let is : k ≡ t.number = omega (arith, number) in (
      at.0,
      record {
        comes = ap (may_come s.bound (placed_in p)) at.0 ∙ come;
        item = subst (λ (i : ℕ). i < length s.bound.items) (sym at.0) below;
        offered =
            ap (λ i. slice_get (offered_loops s (placed_in p) i) t.number) at.0
            ∙ ap (slice_get (offered_loops s (placed_in p) item)) (sym is) ∙ e;
      },
    ))

pub follows_offered : (s : Setting) (p : Prefix) (t : OfferedLoop) → IsOwn s → Follows s p t
    → IsOfferedLoop s (placed_in p) t
follows_offered s p t o f =
    (all_at _ (offered_loops s (placed_in p) t.item) t.number t
    (offered_loops_are s (placed_in p) t.item (next_of s (placed_in p) t.item o f.comes f.item))
    f.offered).1

pub follows_cheap : (s : Setting) (p : Prefix) (t : OfferedLoop) → IsOwn s → AreSmall s.figures
    → Follows s p t → CostWithin t.offer.cost
follows_cheap s p t o small f =
    all_at _ (offered_loops s (placed_in p) t.item) t.number t
    (offered_loops_small s (placed_in p) t.item small
    (next_of s (placed_in p) t.item o f.comes f.item))
    f.offered

pub reached_is : (s : Setting) (count : ℕ) (p : Prefix) → IsOwn s → IsReached s count p
    → IsPrefix s count p
reached_is s zero p o e = subst (IsPrefix s 0) (sym e) (empty_is s)
reached_is s (suc count) p o (q, t, r, f, e) =
    subst (IsPrefix s (suc count)) (sym e)
    (by_taking s count q t.item (reached_is s count q o r) f.comes f.item t refl
    (follows_offered s q t o f))

pub reached_cheap : (s : Setting) (count : ℕ) (p : Prefix) → IsOwn s → AreSmall s.figures
    → IsReached s count p → IsCheap count p
reached_cheap s zero p o small e =
    subst (IsCheap 0) (sym e) (record { rows = omega arith; cost = omega arith })
reached_cheap s (suc count) p o small (q, t, r, f, e) =
    subst (IsCheap (suc count)) (sym e)
    (extended_small s count q t (reached_cheap s count q o small r)
    (follows_cheap s q t o small f))

pub length_more : {X : Type 0} (xs : List X) (x : X) → length (xs ++ x ∷ []) ≡ suc (length xs)
length_more [] x = refl
length_more (y ∷ ys) x = ap suc (length_more ys x)

pub reached_size : (s : Setting) (count : ℕ) (p : Prefix) → IsReached s count p
    → length p.loops ≡ count
reached_size s zero p e = ap (λ (q : Prefix). length q.loops) e
reached_size s (suc count) p (q, t, r, f, e) =
    ap (λ (x : Prefix). length x.loops) e ∙ length_more q.loops t
    ∙ ap suc (reached_size s count q r)

-- of n numbers at most n rise
few_rising : (k n : ℕ) (xs : List ℕ) → Rising xs → AllByRecursion (λ y. k ≤ y) xs
    → AllByRecursion (λ y. y < k + n) xs → length xs ≤ n
few_rising k n [] r a b = omega arith
few_rising k zero (x ∷ xs) r a b = let low = a.0 in let high = b.0 in absurd (omega (arith, low, high))
few_rising k (suc n) (x ∷ xs) r a b =
    let low = a.0 in
    let rest = few_rising (k + 1) n xs r.1
    (all_map _ _ xs (λ y l. omega (arith, l, low)) r.0)
    (all_map _ _ xs (λ y l. omega (arith, l)) b.1) in
    omega (arith, rest)

-- where a loop may come next, some item has none
pub room : (s : Setting) (count : ℕ) (p : Prefix) (t : OfferedLoop) → IsOwn s
    → IsReached s count p → Follows s p t → count < length s.bound.items
room s count p t o r f =
    let order = (reached_is s (suc count) (extended s p t) o (p, t, r, f, refl)).order in
    let few = few_rising 0 (length s.bound.items) order.order order.rises
    (all_always _ order.order (λ y. omega arith))
    (all_map _ _ order.order (λ y l. omega (arith, l)) order.below) in
    let size = order.size in
    omega (arith, few, size)

pub extensions_reached : (s : Setting) (count : ℕ) (p : Prefix) → IsReached s count p
    → AllByRecursion (IsReached s (suc count)) (extensions s p)
extensions_reached s count p r =
    all_flat_map (IsReached s (suc count))
    (λ i. map (extended s p) (offered_loops s (placed_in p) i)) (next_items s.bound (placed_in p))
    (all_map _ _ (next_items s.bound (placed_in p))
    (λ i n. all_mapped (IsReached s (suc count)) (extended s p) (offered_loops s (placed_in p) i)
    (all_map _ _ (offered_loops s (placed_in p) i) (λ t f. (p, t, r, f.1, refl))
    (all_follow s p i n.0 n.1)))
    (next_are s.bound (placed_in p)))

pub next_level_reached : (s : Setting) (count : ℕ) (kept : List Prefix)
    → AllByRecursion (IsReached s count) kept
    → AllByRecursion (IsReached s (suc count)) (next_level s kept)
next_level_reached s count kept h =
    all_take _ (neighbor_count (length s.bound.items)) _
    (all_keep (rivals s) _ _ []
    (all_sort _ (nearer s) _
    (all_flat_map _ _ kept (all_map _ _ kept (λ p r. extensions_reached s count p r) h))))

pub levels_reached : (s : Setting) (count n : ℕ) (kept : List Prefix)
    → AllByRecursion (IsReached s count) kept
    → AllByRecursion (IsReached s (count + n)) (levels s n kept)
levels_reached s count zero kept h =
    let e : count ≡ count + 0 = omega arith in
    subst (λ (c : ℕ). AllByRecursion (IsReached s c) kept) e h
levels_reached s count (suc n) kept h =
    let e : suc count + n ≡ count + suc n = omega arith in
    subst (λ (c : ℕ). AllByRecursion (IsReached s c) (levels s n (next_level s kept))) e
    (levels_reached s (suc count) n (next_level s kept) (next_level_reached s count kept h))
