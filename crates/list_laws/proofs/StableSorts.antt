-- A list in order that keeps the order of ties is the sort: there is only one.
use Rattle.std.specs.Ordering.{is_lt, is_le, ordering_reverse}
use Rattle.std.specs.declared.cmp.Ordering.{Ordering}
use Rattle.std.specs.declared.cmp.Ordering.TheVariants.{Less, Equal, Greater}
use Rattle.std.specs.Cmp.{IsTotalOrder}
use Rattle.std.specs.List.{AllByRecursion, filter}
use Rattle.std.specs.List.Sorted.{IsSorted, IsStable, ties}
use Rattle.std.proofs.Common.{◌≡◌, ℕ, suc, Bool, true, false, cond, not, ◌&&◌, List, [], ◌∷◌, refl}
use Rattle.std.proofs.Common.{ap}
use Rattle.std.proofs.Common.{◌∙◌, ◌+◌, sym, subst, arith, ap₂}
use Rattle.std.specs.Prelude.{slice_index_or}
use Rattle.std.proofs.lemmas.Cmp.{tied_itself}
use Rattle.list_laws.specs.Order.{Ascends, insert_by, sort_by}
use Rattle.list_laws.proofs.Lists.{all_map}
use Rattle.list_laws.proofs.Orders.{Ascends-sort_by, le_trans}

-- neither is less than the other
abbrev tied : {X : Type 0} → (X → X → Ordering) → X → X → Bool
tied cmp = ties (λ x y. is_lt (cmp x y))

reversed_le : (o : Ordering) → is_lt o ≡ false → is_le (ordering_reverse o) ≡ true
reversed_le Less h = sym h
reversed_le Equal h = refl
reversed_le Greater h = refl

not_less : {X : Type 0} {cmp : X → X → Ordering} → IsTotalOrder cmp → (x y : X)
    → is_lt (cmp y x) ≡ false → is_le (cmp x y) ≡ true
not_less {X} {cmp} o x y h = ap is_le (o.antisymm x y) ∙ reversed_le (cmp y x) h

later_sorted : {X : Type 0} (cmp : X → X → Ordering) (x : X) (xs : List X) → IsSorted cmp (x ∷ xs)
    → IsSorted cmp xs
later_sorted {X} cmp x xs s = λ k d l h.
    let e : suc k + 1 ≡ suc (k + 1) = omega arith in
    subst
    (λ (n : ℕ). is_lt (cmp (slice_index_or (x ∷ xs) n d) (slice_index_or xs k d)) ≡ false) e
    (s (suc k) d (omega arith) (omega (arith, h)))

-- neighbors in order are all in order
pub Ascends-from_sorted : {X : Type 0} {cmp : X → X → Ordering} → IsTotalOrder cmp → (xs : List X)
    → IsSorted cmp xs → Ascends cmp xs
Ascends-from_sorted o [] s = tt
Ascends-from_sorted o (x ∷ []) s = (tt, tt)
Ascends-from_sorted {X} {cmp} o (x ∷ y ∷ ys) s =
    let rest : Ascends cmp (y ∷ ys) =
    Ascends-from_sorted o (y ∷ ys) (later_sorted cmp x (y ∷ ys) s) in
    let here : is_le (cmp x y) ≡ true = not_less o x y (s 0 x (omega arith) (omega arith)) in
    ((here, all_map _ _ ys (λ z k. le_trans o x y z here k) rest.0), rest)

-- the sort keeps the order of ties: a member goes before those that aren't less
insert_case : {X : Type 0} (p : X → Bool) (x y : X) (ys zs : List X) (b : Bool)
    → (b ≡ false → p x ≡ true → p y ≡ true → ⊥)
    → filter p zs ≡ cond (p x) (x ∷ filter p ys) (filter p ys)
    → filter p (cond b (x ∷ y ∷ ys) (y ∷ zs)) ≡ filter p (x ∷ y ∷ ys)
insert_case p x y ys zs true h e = refl
insert_case p x y ys zs false h e = skip (p x) (p y) refl refl
  where
    skip : (c d : Bool) → p x ≡ c → p y ≡ d
        → filter p (y ∷ zs) ≡ filter p (x ∷ y ∷ ys)
    skip true true f g = absurd (h refl f g)
    skip true false f g = rw (f, g) (e ∙ rw f refl)
    skip false true f g = rw (f, g) (ap (λ us. y ∷ us) (e ∙ rw f refl))
    skip false false f g = rw (f, g) (e ∙ rw f refl)

equal_case : (a b : Ordering) → b ≡ ordering_reverse a → (not (is_lt a) && not (is_lt b)) ≡ true
    → a ≡ Equal
equal_case Less b e h = absurd (cc)
equal_case Equal b e h = refl
equal_case Greater b e h = absurd (let no : not (is_lt b) ≡ false = ap (λ o. not (is_lt o)) e in cc)

tied_equal : {X : Type 0} {cmp : X → X → Ordering} → IsTotalOrder cmp → (x y : X)
    → tied cmp x y ≡ true → cmp x y ≡ Equal
tied_equal {X} {cmp} o x y h = equal_case (cmp x y) (cmp y x) (o.antisymm y x) h

equal_tied : {X : Type 0} {cmp : X → X → Ordering} → IsTotalOrder cmp → (x y : X)
    → cmp x y ≡ Equal → tied cmp x y ≡ true
equal_tied {X} {cmp} o x y h =
    let back : cmp y x ≡ Equal = o.antisymm y x ∙ ap ordering_reverse h in rw (h, back) refl

insert_stable : {X : Type 0} {cmp : X → X → Ordering} → IsTotalOrder cmp → (k x : X) (ys : List X)
    → filter (tied cmp k) (insert_by cmp x ys) ≡ filter (tied cmp k) (x ∷ ys)
insert_stable o k x [] = refl
insert_stable {X} {cmp} o k x (y ∷ ys) =
    insert_case (tied cmp k) x y ys (insert_by cmp x ys) (is_le (cmp x y))
    (λ e f g. let tie : cmp x y ≡ Equal =
    sym (o.congr k x y (tied_equal o k x f)) ∙ tied_equal o k y g in
    let le : is_le (cmp x y) ≡ true = ap is_le tie in cc) (insert_stable o k x ys)

pub sort_by_is_stable : {X : Type 0} {cmp : X → X → Ordering} → IsTotalOrder cmp → (xs : List X)
    → IsStable cmp xs (sort_by cmp xs)
sort_by_is_stable o [] k = refl
sort_by_is_stable {X} {cmp} o (x ∷ xs) k =
    insert_stable o k x (sort_by cmp xs)
    ∙ ap (λ zs. cond (tied cmp k x) (x ∷ zs) zs) (sort_by_is_stable o xs k)

-- a member that ties with k is at least each lower bound, so k is too
bound_case : {X : Type 0} {cmp : X → X → Ordering} → IsTotalOrder cmp → (x k y z : X)
    (ys zs : List X)
    → is_le (cmp x y) ≡ true
    → (filter (tied cmp k) ys ≡ z ∷ zs → is_le (cmp x k) ≡ true) → (b : Bool) → tied cmp k y ≡ b
    → cond b (y ∷ filter (tied cmp k) ys) (filter (tied cmp k) ys) ≡ z ∷ zs
    → is_le (cmp x k) ≡ true
bound_case {X} {cmp} o x k y z ys zs le ih true e f =
    let tie : cmp y k ≡ Equal =
    o.antisymm y k ∙ ap ordering_reverse (tied_equal o k y e) in
    le_trans o x y k le (ap is_le tie)
bound_case o x k y z ys zs le ih false e f = ih f

tied_bound : {X : Type 0} {cmp : X → X → Ordering} → IsTotalOrder cmp → (x k z : X)
    (ys zs : List X)
    → AllByRecursion (λ y. is_le (cmp x y) ≡ true) ys → filter (tied cmp k) ys ≡ z ∷ zs
    → is_le (cmp x k) ≡ true
tied_bound o x k z [] zs h e = absurd (cc)
tied_bound {X} {cmp} o x k z (y ∷ ys) zs h e =
    bound_case o x k y z ys zs h.0 (tied_bound o x k z ys zs h.1) (tied cmp k y) refl e

both_le : (a b : Ordering) → b ≡ ordering_reverse a → is_le a ≡ true → is_le b ≡ true → a ≡ Equal
both_le Less b e h k = absurd (let no : is_le b ≡ false = ap is_le e in cc)
both_le Equal b e h k = refl
both_le Greater b e h k = absurd (cc)

itself : {X : Type 0} {cmp : X → X → Ordering} → IsTotalOrder cmp → (x : X)
    → tied cmp x x ≡ true
itself o x = equal_tied o x x (tied_itself o x)

le_itself : {X : Type 0} {cmp : X → X → Ordering} → IsTotalOrder cmp → (x : X)
    → is_le (cmp x x) ≡ true
le_itself o x = ap is_le (tied_itself o x)

kept : {X : Type 0} (b : Bool) (x : X) (xs : List X) → b ≡ true → cond b (x ∷ xs) xs ≡ x ∷ xs
kept b x xs h = rw h refl

tails : {X : Type 0} (x : X) (xs ys : List X) (b : Bool)
    → cond b (x ∷ xs) xs ≡ cond b (x ∷ ys) ys → xs ≡ ys
tails x xs ys true e = cc
tails x xs ys false e = e

pub one_order : {X : Type 0} {cmp : X → X → Ordering} → IsTotalOrder cmp → (xs ys : List X)
    → Ascends cmp xs → Ascends cmp ys
    → ((k : X) → filter (tied cmp k) xs ≡ filter (tied cmp k) ys) → xs ≡ ys
one_order o [] [] a b h = refl
one_order {X} {cmp} o [] (y ∷ ys) a b h =
    absurd
    (let e : [] ≡ y ∷ filter (tied cmp y) ys = h y ∙ kept (tied cmp y y) y _ (itself o y) in cc)
one_order {X} {cmp} o (x ∷ xs) [] a b h =
    absurd
    (let e : x ∷ filter (tied cmp x) xs ≡ [] = sym (kept (tied cmp x x) x _ (itself o x)) ∙ h x
    in cc)
one_order {X} {cmp} o (x ∷ xs) (y ∷ ys) a b h =
    let up : is_le (cmp x y) ≡ true =
    tied_bound o x y y (x ∷ xs) (filter (tied cmp y) ys) (le_itself o x, a.0)
    (h y ∙ kept (tied cmp y y) y _ (itself o y)) in
    let down : is_le (cmp y x) ≡ true =
    tied_bound o y x x (y ∷ ys) (filter (tied cmp x) xs) (le_itself o y, b.0)
    (sym (h x) ∙ kept (tied cmp x x) x _ (itself o x)) in
    let tie : tied cmp x y ≡ true =
    equal_tied o x y (both_le (cmp x y) (cmp y x) (o.antisymm y x) up down) in
    let heads : x ∷ filter (tied cmp x) xs ≡ y ∷ filter (tied cmp x) ys =
    sym (kept (tied cmp x x) x _ (itself o x)) ∙ h x ∙ kept (tied cmp x y) y _ tie in
    let same : x ≡ y = cc in
    ap₂ (λ z zs. z ∷ zs) same
    (one_order o xs ys a.1 b.1
    (λ k. tails x (filter (tied cmp k) xs) (filter (tied cmp k) ys) (tied cmp k x)
    (subst
    (λ (z : X). cond (tied cmp k x) (x ∷ filter (tied cmp k) xs) (filter (tied cmp k) xs)
    ≡ cond (tied cmp k z) (z ∷ filter (tied cmp k) ys) (filter (tied cmp k) ys)) (sym same) (h k))))

pub sort_by_is_the_only : {X : Type 0} {cmp : X → X → Ordering} → IsTotalOrder cmp
    → (xs ys : List X) → IsSorted cmp ys → IsStable cmp xs ys → ys ≡ sort_by cmp xs
sort_by_is_the_only o xs ys s h =
    one_order o ys (sort_by _ xs) (Ascends-from_sorted o ys s) (Ascends-sort_by o xs)
    (λ k. h k ∙ sym (sort_by_is_stable o xs k))
