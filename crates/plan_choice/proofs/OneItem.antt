-- Of one item the nearest offer is chosen.
use Rattle.std.specs.List.{AllByRecursion, filter, flat_map}
use Rattle.std.proofs.Common.{◌≡◌, ◌≤◌, ℕ, Bool, true, false, cond, ◌==◌}
use Rattle.std.proofs.Common.{nat_lt, List, [], ◌∷◌, length, map, take, refl, sym, ap, ◌∙◌}
use Rattle.std.proofs.Common.{subst}
use Rattle.std.proofs.Common.{arith}
use Rattle.std.specs.declared.cmp.Ordering.{Ordering}
use Rattle.std.specs.declared.cmp.Ordering.TheVariants.{Greater}
use Rattle.std.specs.Cmp.{IsTotalOrder}
use Rattle.std.specs.Ordering.{is_le, nat_cmp, ordering_then}
use Rattle.std.specs.Cmp.Lexicographic.{slice_cmp}
use Rattle.std.proofs.lemmas.Bool.{ltb-true, eqb-true}
use Rattle.std.proofs.lemmas.Cmp.{on_total, nat_list_cmp_total, tied_itself}
use Rattle.list_laws.specs.Order.{Ascends, insert_by, sort_by}
use Rattle.list_laws.proofs.Lists.{all_first}
use Rattle.list_laws.proofs.Orders.{Ascends-sort_by}
use Rattle.list_laws.specs.FirstComing.{keep_first}
use Rattle.std.proofs.Common.{Option}
use Rattle.std.proofs.lemmas.Bool.{le-ltb}
use Rattle.sql_meaning.specs.Statements.{Bound, numbers_from}
use Rattle.plan_choice.specs.Settings.{Setting}
use Rattle.plan_choice.specs.Prefixes.{OfferedLoop, Prefix, weight, empty_prefix, extended}
use Rattle.plan_choice.specs.Prefixes.{extensions, offered_loops}
use Rattle.plan_choice.specs.Prefixes.{may_come}
use Rattle.plan_choice.specs.Choice.{key, nearer, rivals, neighbor_count, nearest_or, levels}
use Rattle.plan_choice.specs.Choice.{last_level}
use Rattle.plan_choice.specs.Choice.{written, written_from, written_step, extended_by}
use Rattle.plan_choice.specs.ChoiceLaws.{OneItemTakesTheNearest}
use Rattle.plan_choice.proofs.ListedOffers.{lightest_one}
use Rattle.plan_choice.proofs.SoundLevels.{front_comes, none_placed, lightest_some}

insert_parts : {X : Type 0} (P : X → Type 0) (x y : X) (ys zs : List X) (b : Bool)
    → (AllByRecursion P zs → P x × AllByRecursion P ys)
    → AllByRecursion P (cond b (x ∷ y ∷ ys) (y ∷ zs)) → P x × AllByRecursion P (y ∷ ys)
insert_parts P x y ys zs true f h = (h.0, h.1)
insert_parts P x y ys zs false f h = let rest = f h.1 in (rest.0, (h.0, rest.1))

from_insert : {X : Type 0} (P : X → Type 0) (cmp : X → X → Ordering) (x : X) (xs : List X)
    → AllByRecursion P (insert_by cmp x xs) → P x × AllByRecursion P xs
from_insert P cmp x [] h = (h.0, tt)
from_insert P cmp x (y ∷ ys) h =
    insert_parts P x y ys (insert_by cmp x ys) (is_le (cmp x y)) (from_insert P cmp x ys) h

from_sort : {X : Type 0} (P : X → Type 0) (cmp : X → X → Ordering) (xs : List X)
    → AllByRecursion P (sort_by cmp xs) → AllByRecursion P xs
from_sort P cmp [] h = tt
from_sort P cmp (x ∷ xs) h =
    let parts = from_insert P cmp x (sort_by cmp xs) h in
    (parts.0, from_sort P cmp xs parts.1)

pub nearer_total : (s : Setting) → IsTotalOrder (nearer s)
nearer_total s = on_total (key s) nat_list_cmp_total

not_greater : (r rest : Ordering) → r ≡ Greater → is_le (ordering_then r rest) ≡ true → ⊥
not_greater r rest e h =
    let no : false ≡ true = ap (λ o. is_le (ordering_then o rest)) (sym e) ∙ h in cc

equal_case : (a b : ℕ) (ms ns : List ℕ) (c d : Bool) → nat_lt a b ≡ c → (a == b) ≡ d
    → is_le (slice_cmp nat_cmp (a ∷ ms) (b ∷ ns)) ≡ true → a ≤ b
equal_case a b ms ns true d e f h = let l = ltb-true a b e in omega (arith, l)
equal_case a b ms ns false true e f h = let l = eqb-true a b f in omega (arith, l)
equal_case a b ms ns false false e f h =
    absurd (not_greater (nat_cmp a b) (slice_cmp nat_cmp ms ns) (rw (e, f) refl) h)

abbrev rest_of : List ℕ → List ℕ
rest_of [] = []
rest_of (n ∷ ns) = ns

weight_at_most : (s : Setting) (p q : Prefix) → is_le (nearer s p q) ≡ true → weight p ≤ weight q
weight_at_most s p q h =
    equal_case (weight p) (weight q) (rest_of (key s p)) (rest_of (key s q))
    (nat_lt (weight p) (weight q)) (weight p == weight q)
    refl refl h

abbrev pub IsNearest : Setting → Prefix → List Prefix → Type 0
IsNearest s y ps = AllByRecursion (λ p. is_le (nearer s y p) ≡ true) ps

itself : (s : Setting) (p : Prefix) → is_le (nearer s p p) ≡ true
itself s p = ap is_le (tied_itself (nearer_total s) p)

first_is : (s : Setting) (w : Prefix) (xs : List Prefix) → Ascends (nearer s) xs
    → ((y : Prefix) → IsNearest s y xs → is_le (nearer s y w) ≡ true)
    → IsNearest s (nearest_or (take 1 (keep_first (rivals s) [] xs)) w) xs
first_is s w [] h f = tt
first_is s w (y ∷ ys) h f =
    let each : IsNearest s y (y ∷ ys) = (itself s y, h.0) in
    let most = weight_at_most s y w (f y each) in
    subst (λ (b : Bool). IsNearest s (cond b w y) (y ∷ ys))
    (sym (le-ltb (weight w) (weight y) most)) each

unmapped : {X Y : Type 0} (P : Y → Type 0) (f : X → Y) (xs : List X) → AllByRecursion P (map f xs)
    → AllByRecursion (λ x. P (f x)) xs
unmapped P f [] h = tt
unmapped P f (x ∷ xs) h = (h.0, unmapped P f xs h.1)

next_is : (bound : Bound) (n : ℕ) → n ≡ 1
    → filter (may_come bound []) (numbers_from 0 n) ≡ 0 ∷ []
next_is bound n e =
    ap (λ m. filter (may_come bound []) (numbers_from 0 m)) e
    ∙ ap (λ b. cond b (0 ∷ []) []) (front_comes bound [] 0 none_placed)

-- of one item the written order is one of the extensions
written_one : (s : Setting) → length s.bound.items ≡ 1 → (y : Prefix)
    → IsNearest s y (extensions s (empty_prefix s)) → is_le (nearer s y (written s)) ≡ true
written_one s e y h =
    let P : Prefix → Type 0 = λ p. is_le (nearer s y p) ≡ true in
    let one = subst (λ (is : List ℕ). AllByRecursion P
    (flat_map (λ item. map (extended s (empty_prefix s)) (offered_loops s [] item)) is))
    (next_is s.bound (length s.bound.items) e) h in
    let taken = unmapped P (extended s (empty_prefix s)) (offered_loops s [] 0)
    (all_first P (map (extended s (empty_prefix s)) (offered_loops s [] 0)) [] one) in
    let best = lightest_some (λ (t : OfferedLoop). t.offer.cost.run) (offered_loops s [] 0) tt in
    let is = lightest_one (λ (t : OfferedLoop). P (extended s (empty_prefix s) t))
    (λ (t : OfferedLoop). t.offer.cost.run) (offered_loops s [] 0) taken best.0 best.1 in
    let step : P (written_step s (empty_prefix s) 0) =
    subst (λ (o : Option OfferedLoop). P (extended_by s (empty_prefix s) o)) (sym best.1) is in
    subst (λ (n : ℕ). P (written_from s (empty_prefix s) 0 n)) (sym e) step

pub one_item_takes_the_nearest : OneItemTakesTheNearest
one_item_takes_the_nearest = λ s e.
    let xs = flat_map (extensions s) (empty_prefix s ∷ []) in
    let sorted = sort_by (nearer s) xs in
    let level : last_level s ≡ take 1 (keep_first (rivals s) [] sorted) =
    ap (λ n. levels s n (empty_prefix s ∷ [])) e
    ∙ ap (λ n. take (neighbor_count n) (keep_first (rivals s) [] sorted)) e in
    let each = first_is s (written s) sorted (Ascends-sort_by (nearer_total s) xs)
    (λ y h. written_one s e y
    (all_first _ (extensions s (empty_prefix s)) [] (from_sort _ (nearer s) xs h))) in
    let all = all_first _ (extensions s (empty_prefix s)) [] (from_sort _ (nearer s) xs each) in
    subst (λ (ps : List Prefix). IsNearest s (nearest_or ps (written s))
    (extensions s (empty_prefix s)))
    (sym level) all
