-- Members that are kept one by one are the first ones of the sorted list without later rivals.
use Rattle.std.specs.List.{AllByRecursion}
use Rattle.std.specs.Cmp.{IsEquivalence, IsTotalOrder}
use Rattle.std.specs.Ordering.{is_le, ordering_reverse}
use Rattle.std.specs.declared.cmp.Ordering.{Ordering}
use Rattle.std.specs.declared.cmp.Ordering.TheVariants.{Less, Equal, Greater}
use Rattle.std.specs.Prelude.{fold}
use Rattle.std.proofs.Common.{◌≡◌, ℕ, zero, suc, Bool, true, false, cond, ◌||◌, List, [], ◌∷◌, ◌++◌}
use Rattle.std.proofs.Common.{take, refl, sym, ap, ◌∙◌, append-nil, append_assoc}
use Rattle.list_laws.specs.FirstComing.{has, keep_first}
use Rattle.list_laws.specs.Order.{Ascends, insert_by, sort_by}
use Rattle.list_laws.proofs.Lists.{all_map, all_take}
use Rattle.list_laws.proofs.FirstComings.{all_keep}
use Rattle.list_laws.proofs.Orders.{le_trans, Ascends-sort_by}
use Rattle.nearest_prefixes.specs.Keeping.{drop_rival, put, joined}

take_take : {X : Type 0} (n : ℕ) (xs : List X) → take n (take n xs) ≡ take n xs
take_take zero xs = refl
take_take (suc n) [] = refl
take_take (suc n) (x ∷ xs) = ap (λ ys. x ∷ ys) (take_take n xs)

rival_case : {X : Type 0} (E : X → X → Bool) (x y : X) (m : ℕ) (ys : List X)
    → take m (drop_rival E x (take (suc m) ys)) ≡ take m (drop_rival E x ys) → (b : Bool)
    → take (suc m) (cond b (take (suc m) ys) (y ∷ drop_rival E x (take (suc m) ys)))
    ≡ take (suc m) (cond b ys (y ∷ drop_rival E x ys))
rival_case E x y m ys h true = take_take (suc m) ys
rival_case E x y m ys h false = ap (λ zs. y ∷ zs) h

-- what stands behind the first ones moves up by one at most
rival_taken : {X : Type 0} (E : X → X → Bool) (x : X) (m : ℕ) (ys : List X)
    → take m (drop_rival E x (take (suc m) ys)) ≡ take m (drop_rival E x ys)
rival_taken E x zero ys = refl
rival_taken E x (suc m) [] = refl
rival_taken E x (suc m) (y ∷ ys) = rival_case E x y m ys (rival_taken E x m ys) (E y x)

behind_case : {X : Type 0} (y : X) (n : ℕ) (ys us vs : List X) → take n us ≡ take n vs
    → (b : Bool)
    → take (suc n) (cond b (y ∷ take n ys) (y ∷ us)) ≡ take (suc n) (cond b (y ∷ ys) (y ∷ vs))
behind_case y n ys us vs h true = ap (λ zs. y ∷ zs) (take_take n ys)
behind_case y n ys us vs h false = ap (λ zs. y ∷ zs) h

place_case : {X : Type 0} (x : X) (n : ℕ) (us vs ws zs : List X)
    → take (suc n) us ≡ take (suc n) vs → take n ws ≡ take n zs → (b : Bool)
    → take (suc n) (cond b us (x ∷ ws)) ≡ take (suc n) (cond b vs (x ∷ zs))
place_case x n us vs ws zs h k true = h
place_case x n us vs ws zs h k false = ap (λ ts. x ∷ ts) k

-- those that were left out change nothing
put_taken : {X : Type 0} (E : X → X → Bool) (cmp : X → X → Ordering) (x : X) (n : ℕ) (ys : List X)
    → take n (put E cmp x (take n ys)) ≡ take n (put E cmp x ys)
put_taken E cmp x zero ys = refl
put_taken E cmp x (suc n) [] = refl
put_taken E cmp x (suc n) (y ∷ ys) =
    place_case x n (cond (E y x) (y ∷ take n ys) (y ∷ put E cmp x (take n ys)))
    (cond (E y x) (y ∷ ys) (y ∷ put E cmp x ys)) (drop_rival E x (y ∷ take n ys))
    (drop_rival E x (y ∷ ys))
    (behind_case y n ys (put E cmp x (take n ys)) (put E cmp x ys) (put_taken E cmp x n ys) (E y x))
    (rival_taken E x n (y ∷ ys)) (is_le (cmp y x))

-- behind all that go before it or tie
abbrev insert_after : {X : Type 0} → (X → X → Ordering) → X → List X → List X
insert_after cmp x [] = x ∷ []
insert_after cmp x (y ∷ ys) = cond (is_le (cmp y x)) (y ∷ insert_after cmp x ys) (x ∷ y ∷ ys)

le_reversed : (o : Ordering) → is_le (ordering_reverse o) ≡ false → is_le o ≡ true
le_reversed Less h = refl
le_reversed Equal h = refl
le_reversed Greater h = sym h

-- of two members one is at most the other
le_total : {X : Type 0} {cmp : X → X → Ordering} → IsTotalOrder cmp → (x y : X)
    → is_le (cmp x y) ≡ false → is_le (cmp y x) ≡ true
le_total {X} {cmp} o x y h = le_reversed (cmp y x) (sym (ap is_le (o.antisymm x y)) ∙ h)

exchange_case : {X : Type 0} {cmp : X → X → Ordering} → IsTotalOrder cmp → (w x y : X)
    (ys : List X)
    → insert_by cmp w (insert_after cmp x ys) ≡ insert_after cmp x (insert_by cmp w ys)
    → (b c d : Bool) → is_le (cmp y x) ≡ b → is_le (cmp w y) ≡ c → is_le (cmp w x) ≡ d
    → insert_by cmp w (cond b (y ∷ insert_after cmp x ys) (x ∷ y ∷ ys))
    ≡ insert_after cmp x (cond c (w ∷ y ∷ ys) (y ∷ insert_by cmp w ys))
exchange_case {X} {cmp} o w x y ys h true true d e f g =
    let le : is_le (cmp w x) ≡ true = le_trans o w y x f e in rw (f, le) (rw e refl)
exchange_case {X} {cmp} o w x y ys h true false d e f g = rw (f, e) (ap (λ zs. y ∷ zs) h)
exchange_case {X} {cmp} o w x y ys h false true true e f g = rw g (rw e refl)
exchange_case {X} {cmp} o w x y ys h false true false e f g = rw (g, f) refl
exchange_case {X} {cmp} o w x y ys h false false true e f g =
    let below : is_le (cmp x y) ≡ true = le_total o y x e in
    let le : is_le (cmp w y) ≡ true = le_trans o w x y g below in
    absurd (let no : true ≡ false = sym le ∙ f in cc)
exchange_case {X} {cmp} o w x y ys h false false false e f g = rw (g, f, e) refl

exchange : {X : Type 0} {cmp : X → X → Ordering} → IsTotalOrder cmp → (w x : X) (ys : List X)
    → insert_by cmp w (insert_after cmp x ys) ≡ insert_after cmp x (insert_by cmp w ys)
exchange {X} {cmp} o w x [] = single_case (is_le (cmp w x))
  where
    single_case : (b : Bool)
        → cond b (w ∷ x ∷ []) (x ∷ w ∷ []) ≡ cond b (w ∷ x ∷ []) (x ∷ w ∷ [])
    single_case b = refl
exchange {X} {cmp} o w x (y ∷ ys) =
    exchange_case o w x y ys (exchange o w x ys) (is_le (cmp y x)) (is_le (cmp w y))
    (is_le (cmp w x)) refl refl refl

-- a member that comes last stands behind all that go before it or tie
sort_more : {X : Type 0} {cmp : X → X → Ordering} → IsTotalOrder cmp → (xs : List X) (x : X)
    → sort_by cmp (xs ++ x ∷ []) ≡ insert_after cmp x (sort_by cmp xs)
sort_more o [] x = refl
sort_more {X} {cmp} o (w ∷ xs) x =
    ap (insert_by cmp w) (sort_more o xs x) ∙ exchange o w x (sort_by cmp xs)

-- what was seen counts as a set
seen_case : {X : Type 0} (E : X → X → Bool) (x : X) (xs seen others : List X) (b c : Bool) → b ≡ c
    → keep_first E seen xs ≡ keep_first E others xs
    → keep_first E (x ∷ seen) xs ≡ keep_first E (x ∷ others) xs
    → cond b (keep_first E seen xs) (x ∷ keep_first E (x ∷ seen) xs)
    ≡ cond c (keep_first E others xs) (x ∷ keep_first E (x ∷ others) xs)
seen_case E x xs seen others true true e h k = h
seen_case E x xs seen others false false e h k = ap (λ ys. x ∷ ys) k
seen_case E x xs seen others true false e h k = absurd (cc)
seen_case E x xs seen others false true e h k = absurd (cc)

seen_same : {X : Type 0} (E : X → X → Bool) (xs seen others : List X)
    → ((v : X) → has E seen v ≡ has E others v)
    → keep_first E seen xs ≡ keep_first E others xs
seen_same E [] seen others f = refl
seen_same E (x ∷ xs) seen others f =
    seen_case E x xs seen others (has E seen x) (has E others x) (f x)
    (seen_same E xs seen others f)
    (seen_same E xs (x ∷ seen) (x ∷ others) (λ v. ap (λ b. E x v || b) (f v)))

or_exchange : (a b c : Bool) → (a || (b || c)) ≡ (b || (a || c))
or_exchange true true c = refl
or_exchange true false c = refl
or_exchange false b c = refl

rivals_case : {X : Type 0} {E : X → X → Bool} → IsEquivalence E → (x y : X) (ys seen : List X)
    → keep_first E (x ∷ seen) ys ≡ drop_rival E x (keep_first E seen ys)
    → (E x y ≡ false
    → keep_first E (x ∷ y ∷ seen) ys ≡ drop_rival E x (keep_first E (y ∷ seen) ys))
    → (b c : Bool) → has E seen y ≡ b → E x y ≡ c
    → cond (c || b) (keep_first E (x ∷ seen) ys) (y ∷ keep_first E (y ∷ x ∷ seen) ys)
    ≡ drop_rival E x (cond b (keep_first E seen ys) (y ∷ keep_first E (y ∷ seen) ys))
rivals_case o x y ys seen h k true true e f = h
rivals_case o x y ys seen h k true false e f = h
rivals_case {X} {E} o x y ys seen h k false true e f =
    rw (sym (o.symm x y) ∙ f)
    (seen_same E ys (x ∷ seen) (y ∷ seen) (λ v. ap (λ b. b || has E seen v) (o.congr x y v f)))
rivals_case {X} {E} o x y ys seen h k false false e f =
    rw (sym (o.symm x y) ∙ f)
    (ap (λ zs. y ∷ zs)
    (seen_same E ys (y ∷ x ∷ seen) (x ∷ y ∷ seen) (λ v. or_exchange (E y v) (E x v) (has E seen v))
    ∙ k f))

-- once a member was seen, its first rival is left out
rival_seen : {X : Type 0} {E : X → X → Bool} → IsEquivalence E → (x : X) (ys seen : List X)
    → has E seen x ≡ false
    → keep_first E (x ∷ seen) ys ≡ drop_rival E x (keep_first E seen ys)
rival_seen o x [] seen h = refl
rival_seen {X} {E} o x (y ∷ ys) seen h =
    rivals_case o x y ys seen (rival_seen o x ys seen h)
    (λ f. rival_seen o x ys (y ∷ seen) (ap (λ b. b || has E seen x) (sym (o.symm x y) ∙ f) ∙ h))
    (has E seen y) (E x y) refl refl

-- where a member stands before all of a list, it is put first
put_first : {X : Type 0} (E : X → X → Bool) (cmp : X → X → Ordering) (x : X) (ys : List X)
    → AllByRecursion (λ y. is_le (cmp y x) ≡ false) ys
    → put E cmp x ys ≡ x ∷ drop_rival E x ys
put_first E cmp x [] h = refl
put_first E cmp x (y ∷ ys) h = rw h.0 refl

kept_case : {X : Type 0} (E : X → X → Bool) (cmp : X → X → Ordering) (x y : X) (ys zs : List X)
    (b d : Bool) → E y x ≡ b → is_le (cmp y x) ≡ true → zs ≡ cond (b || d) ys (put E cmp x ys)
    → y ∷ zs ≡ cond d (y ∷ ys) (put E cmp x (y ∷ ys))
kept_case E cmp x y ys zs true true e g h = ap (λ us. y ∷ us) h
kept_case E cmp x y ys zs true false e g h = rw (g, e) (ap (λ us. y ∷ us) h)
kept_case E cmp x y ys zs false true e g h = ap (λ us. y ∷ us) h
kept_case E cmp x y ys zs false false e g h = rw (g, e) (ap (λ us. y ∷ us) h)

not_at_most : {X : Type 0} {cmp : X → X → Ordering} → IsTotalOrder cmp → (x y z : X)
    → is_le (cmp y x) ≡ false → is_le (cmp y z) ≡ true → (b : Bool) → is_le (cmp z x) ≡ b
    → is_le (cmp z x) ≡ false
not_at_most {X} {cmp} o x y z above up true e =
    absurd (let no : is_le (cmp y x) ≡ true = le_trans o y z x up e in cc)
not_at_most o x y z above up false e = e

new_case : {X : Type 0} {E : X → X → Bool} (cmp : X → X → Ordering) → IsEquivalence E → (x : X)
    (ys seen : List X) → AllByRecursion (λ y. is_le (cmp y x) ≡ false) (keep_first E seen ys)
    → (d : Bool) → has E seen x ≡ d
    → cond d (keep_first E seen ys) (x ∷ keep_first E (x ∷ seen) ys)
    ≡ cond d (keep_first E seen ys) (put E cmp x (keep_first E seen ys))
new_case cmp o x ys seen h true e = refl
new_case {X} {E} cmp o x ys seen h false e =
    ap (λ zs. x ∷ zs) (rival_seen o x ys seen e)
    ∙ sym (put_first E cmp x (keep_first E seen ys) h)

seen_or_kept : {X : Type 0} (E : X → X → Bool) (cmp : X → X → Ordering) (x y : X)
    (ys zs us vs seen : List X) (c : Bool) → is_le (cmp y x) ≡ true
    → us ≡ cond (has E seen x) ys (put E cmp x ys)
    → vs ≡ cond (E y x || has E seen x) zs (put E cmp x zs)
    → cond c us (y ∷ vs)
    ≡ cond (has E seen x) (cond c ys (y ∷ zs)) (put E cmp x (cond c ys (y ∷ zs)))
seen_or_kept E cmp x y ys zs us vs seen true g h k = h
seen_or_kept E cmp x y ys zs us vs seen false g h k =
    kept_case E cmp x y zs vs (E y x) (has E seen x) refl g k

after_case : {X : Type 0} {E : X → X → Bool} {cmp : X → X → Ordering} → IsEquivalence E
    → IsTotalOrder cmp → (x y : X) (ys seen : List X) → Ascends cmp (y ∷ ys)
    → keep_first E seen (insert_after cmp x ys)
    ≡ cond (has E seen x) (keep_first E seen ys) (put E cmp x (keep_first E seen ys))
    → keep_first E (y ∷ seen) (insert_after cmp x ys)
    ≡ cond (E y x || has E seen x) (keep_first E (y ∷ seen) ys)
    (put E cmp x (keep_first E (y ∷ seen) ys)) → (b : Bool) → is_le (cmp y x) ≡ b
    → keep_first E seen (cond b (y ∷ insert_after cmp x ys) (x ∷ y ∷ ys))
    ≡ cond (has E seen x) (keep_first E seen (y ∷ ys)) (put E cmp x (keep_first E seen (y ∷ ys)))
after_case {X} {E} {cmp} q o x y ys seen up h k true e =
    seen_or_kept E cmp x y (keep_first E seen ys) (keep_first E (y ∷ seen) ys)
    (keep_first E seen (insert_after cmp x ys)) (keep_first E (y ∷ seen) (insert_after cmp x ys))
    seen (has E seen y) e h k
after_case {X} {E} {cmp} q o x y ys seen up h k false e =
    new_case cmp q x (y ∷ ys) seen
    (all_keep E (λ z. is_le (cmp z x) ≡ false) (y ∷ ys) seen
    (e, all_map _ _ ys (λ z l. not_at_most o x y z e l (is_le (cmp z x)) refl) up.0))
    (has E seen x) refl

-- one more of a list in order, and one more of those that are kept of it
keep_after : {X : Type 0} {E : X → X → Bool} {cmp : X → X → Ordering} → IsEquivalence E
    → IsTotalOrder cmp → (x : X) (ys seen : List X) → Ascends cmp ys
    → keep_first E seen (insert_after cmp x ys)
    ≡ cond (has E seen x) (keep_first E seen ys) (put E cmp x (keep_first E seen ys))
keep_after q o x [] seen up = refl
keep_after {X} {E} {cmp} q o x (y ∷ ys) seen up =
    after_case q o x y ys seen up (keep_after q o x ys seen up.1)
    (keep_after q o x ys (y ∷ seen) up.1) (is_le (cmp y x)) refl

-- of a sorted list the first of each that are rivals
abbrev leaders : {X : Type 0} → (X → X → Bool) → (X → X → Ordering) → List X → List X
leaders E cmp xs = keep_first E [] (sort_by cmp xs)

leaders_more : {X : Type 0} {E : X → X → Bool} {cmp : X → X → Ordering} → IsEquivalence E
    → IsTotalOrder cmp → (xs : List X) (x : X)
    → leaders E cmp (xs ++ x ∷ []) ≡ put E cmp x (leaders E cmp xs)
leaders_more {X} {E} {cmp} q o xs x =
    ap (keep_first E []) (sort_more o xs x)
    ∙ keep_after q o x (sort_by cmp xs) [] (Ascends-sort_by o xs)

joined_on : {X : Type 0} {E : X → X → Bool} {cmp : X → X → Ordering} → IsEquivalence E
    → IsTotalOrder cmp → (n : ℕ) (xs ys : List X)
    → fold (joined n E cmp) (take n (leaders E cmp xs)) ys ≡ take n (leaders E cmp (xs ++ ys))
joined_on {X} {E} {cmp} q o n xs [] = ap (λ zs. take n (leaders E cmp zs)) (sym (append-nil xs))
joined_on {X} {E} {cmp} q o n xs (y ∷ ys) =
    ap (λ kept. fold (joined n E cmp) kept ys)
    (put_taken E cmp y n (leaders E cmp xs) ∙ ap (take n) (sym (leaders_more q o xs y)))
    ∙ joined_on q o n (xs ++ y ∷ []) ys
    ∙ ap (λ zs. take n (leaders E cmp zs)) (append_assoc xs (y ∷ []) ys)

take_none : {X : Type 0} (n : ℕ) → take {A = X} n [] ≡ []
take_none zero = refl
take_none (suc n) = refl

-- joining one by one keeps the first of those that sorting would leave
pub joined_all : {X : Type 0} {E : X → X → Bool} {cmp : X → X → Ordering} → IsEquivalence E
    → IsTotalOrder cmp → (n : ℕ) (xs : List X)
    → fold (joined n E cmp) [] xs ≡ take n (keep_first E [] (sort_by cmp xs))
joined_all {X} {E} {cmp} q o n xs =
    ap (λ kept. fold (joined n E cmp) kept xs) (sym (take_none n)) ∙ joined_on q o n [] xs

all_case : {X : Type 0} (P : X → Type 0) (xs ys : List X) (b : Bool) → AllByRecursion P xs
    → AllByRecursion P ys → AllByRecursion P (cond b xs ys)
all_case P xs ys true h k = h
all_case P xs ys false h k = k

all_drop : {X : Type 0} (P : X → Type 0) (E : X → X → Bool) (x : X) (ys : List X)
    → AllByRecursion P ys → AllByRecursion P (drop_rival E x ys)
all_drop P E x [] h = tt
all_drop P E x (y ∷ ys) h =
    all_case P ys (y ∷ drop_rival E x ys) (E y x) h.1 (h.0, all_drop P E x ys h.1)

all_put : {X : Type 0} (P : X → Type 0) (E : X → X → Bool) (cmp : X → X → Ordering) (x : X)
    (ys : List X) → P x → AllByRecursion P ys → AllByRecursion P (put E cmp x ys)
all_put P E cmp x [] p h = (p, tt)
all_put P E cmp x (y ∷ ys) p h =
    all_case P (cond (E y x) (y ∷ ys) (y ∷ put E cmp x ys)) (x ∷ drop_rival E x (y ∷ ys))
    (is_le (cmp y x))
    (all_case P (y ∷ ys) (y ∷ put E cmp x ys) (E y x) h (h.0, all_put P E cmp x ys p h.1))
    (p, all_drop P E x (y ∷ ys) h)

-- what holds of all that are kept and of one that comes holds of those that are kept then
pub all_joined : {X : Type 0} (P : X → Type 0) (n : ℕ) (E : X → X → Bool) (cmp : X → X → Ordering)
    (kept : List X) (x : X) → AllByRecursion P kept → P x
    → AllByRecursion P (joined n E cmp kept x)
all_joined P n E cmp kept x h p = all_take P n (put E cmp x kept) (all_put P E cmp x kept p h)
