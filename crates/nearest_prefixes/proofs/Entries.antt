-- To put a member among those that are kept, by its place.
use Rattle.std.specs.Ordering.{is_le}
use Rattle.std.specs.List.{insert, remove}
use Rattle.std.specs.declared.cmp.Ordering.{Ordering}
use Rattle.std.proofs.Common.{◌≡◌, ◌≤◌, ℕ, suc, ◌+◌, Bool, true, false, cond, List, [], ◌∷◌}
use Rattle.std.proofs.Common.{◌++◌, take, drop, length, refl, sym, ap, ◌∙◌, subst, arith}
use Rattle.std.proofs.Common.{append_assoc, Option, Some, None}
use Rattle.std.proofs.lemmas.List.{take_at, drop_at, take_all, length-take-le, length-append}
use Rattle.std.proofs.lemmas.List.{take-append-drop}
use Rattle.nearest_prefixes.specs.Keeping.{drop_rival, put, joined}
use Rattle.nearest_prefixes.specs.Entering.{entry_from, rival_from}

-- with a member that comes to its place
abbrev pub entered : {X : Type 0} → (X → X → Bool) → X → List X → Option ℕ → List X
entered E x ys None = ys
entered E x ys (Some k) = take k ys ++ x ∷ drop_rival E x (drop k ys)

behind_front : {X : Type 0} (E : X → X → Bool) (x : X) (front ys : List X)
    → front ++ x ∷ drop_rival E x ys ≡ entered E x (front ++ ys) (Some (length front))
behind_front E x front ys =
    sym
    (ap (λ zs. zs ++ x ∷ drop_rival E x (drop (length front) (front ++ ys)))
    (take_at front ys (length front) refl)
    ∙ ap (λ zs. front ++ x ∷ drop_rival E x zs) (drop_at front ys (length front) refl))

entry_case : {X : Type 0} (E : X → X → Bool) (cmp : X → X → Ordering) (x y : X) (front ys : List X)
    (o : Option ℕ)
    → (front ++ y ∷ []) ++ put E cmp x ys ≡ entered E x ((front ++ y ∷ []) ++ ys) o
    → (b c : Bool)
    → front ++ cond b (cond c (y ∷ ys) (y ∷ put E cmp x ys)) (x ∷ drop_rival E x (y ∷ ys))
    ≡ entered E x (front ++ y ∷ ys) (cond b (cond c None o) (Some (length front)))
entry_case E cmp x y front ys o h true true = refl
entry_case E cmp x y front ys o h true false =
    sym (append_assoc front (y ∷ []) (put E cmp x ys)) ∙ h
    ∙ ap (λ zs. entered E x zs o) (append_assoc front (y ∷ []) ys)
entry_case E cmp x y front ys o h false c = behind_front E x front (y ∷ ys)

put_behind : {X : Type 0} (E : X → X → Bool) (cmp : X → X → Ordering) (x : X) (ys front : List X)
    → front ++ put E cmp x ys ≡ entered E x (front ++ ys) (entry_from E cmp x (length front) ys)
put_behind E cmp x [] front = behind_front E x front []
put_behind E cmp x (y ∷ ys) front =
    entry_case E cmp x y front ys (entry_from E cmp x (length front + 1) ys)
    (put_behind E cmp x ys (front ++ y ∷ [])
    ∙ ap (λ (n : ℕ). entered E x ((front ++ y ∷ []) ++ ys) (entry_from E cmp x n ys))
    (length-append front (y ∷ []))) (is_le (cmp y x)) (E y x)

pub put_entered : {X : Type 0} (E : X → X → Bool) (cmp : X → X → Ordering) (x : X) (ys : List X)
    → put E cmp x ys ≡ entered E x ys (entry_from E cmp x 0 ys)
put_entered E cmp x ys = put_behind E cmp x ys []

-- a place is one of the list's, or behind them
abbrev IsWithin : ℕ → Option ℕ → Type 0
IsWithin most None = Unit {0}
IsWithin most (Some k) = k ≤ most

within_case : (most n : ℕ) (o : Option ℕ) → n ≤ most → IsWithin most o → (b c : Bool)
    → IsWithin most (cond b (cond c None o) (Some n))
within_case most n o l h true true = tt
within_case most n o l h true false = h
within_case most n o l h false c = l

entry_within : {X : Type 0} (E : X → X → Bool) (cmp : X → X → Ordering) (x : X) (n most : ℕ)
    (ys : List X) → n + length ys ≤ most → IsWithin most (entry_from E cmp x n ys)
entry_within E cmp x n most [] l = omega (arith, l)
entry_within E cmp x n most (y ∷ ys) l =
    within_case most n (entry_from E cmp x (n + 1) ys) (omega (arith, l))
    (entry_within E cmp x (n + 1) most ys (omega (arith, l))) (is_le (cmp y x)) (E y x)

pub place_within : {X : Type 0} (E : X → X → Bool) (cmp : X → X → Ordering) (x : X) (ys : List X)
    (k : ℕ) → entry_from E cmp x 0 ys ≡ Some k → k ≤ length ys
place_within E cmp x ys k e =
    subst (IsWithin (length ys)) e (entry_within E cmp x 0 (length ys) ys (omega arith))

-- where a rival goes before it, nothing changes
pub joined_nowhere : {X : Type 0} (n : ℕ) (E : X → X → Bool) (cmp : X → X → Ordering) (x : X)
    (ys : List X) → length ys ≤ n → entry_from E cmp x 0 ys ≡ None → ys ≡ joined n E cmp ys x
joined_nowhere n E cmp x ys l e =
    sym
    (ap (take n) (put_entered E cmp x ys ∙ ap (entered E x ys) e)
    ∙ take_all n ys l)

-- nor where its place is behind the first n
pub joined_past : {X : Type 0} (n : ℕ) (E : X → X → Bool) (cmp : X → X → Ordering) (x : X)
    (ys : List X) (k : ℕ) → length ys ≤ n → entry_from E cmp x 0 ys ≡ Some k → n ≤ k
    → ys ≡ joined n E cmp ys x
joined_past n E cmp x ys k l e past =
    let within = place_within E cmp x ys k e in
    let last : length ys ≤ k = omega (arith, l, past) in
    let here : length ys ≡ n = omega (arith, within, l, past) in
    sym
    (ap (take n) (put_entered E cmp x ys ∙ ap (entered E x ys) e
    ∙ ap (λ zs. zs ++ x ∷ drop_rival E x (drop k ys)) (take_all k ys last))
    ∙ take_at ys (x ∷ drop_rival E x (drop k ys)) n here)

-- else it stands at its place, before those behind that aren't rivals
pub joined_at : {X : Type 0} (n : ℕ) (E : X → X → Bool) (cmp : X → X → Ordering) (x : X)
    (ys : List X) (k : ℕ) → entry_from E cmp x 0 ys ≡ Some k
    → take n (insert (take k ys ++ drop_rival E x (drop k ys)) k x) ≡ joined n E cmp ys x
joined_at n E cmp x ys k e =
    let within = length-take-le k ys (place_within E cmp x ys k e) in
    let rest = drop_rival E x (drop k ys) in
    ap (take n)
    (ap (λ zs. zs ++ x ∷ drop k (take k ys ++ rest)) (take_at (take k ys) rest k within)
    ∙ ap (λ zs. take k ys ++ x ∷ zs) (drop_at (take k ys) rest k within)
    ∙ sym (put_entered E cmp x ys ∙ ap (entered E x ys) e))

-- without the member at this place, if there is one
abbrev pub without_at : {X : Type 0} → List X → Option ℕ → List X
without_at ys None = ys
without_at ys (Some k) = remove ys k

rival_here : {X : Type 0} (y : X) (front ys : List X)
    → front ++ ys ≡ without_at (front ++ y ∷ ys) (Some (length front))
rival_here y front ys =
    sym
    (ap (λ zs. zs ++ drop (suc (length front)) (front ++ y ∷ ys))
    (take_at front (y ∷ ys) (length front) refl)
    ∙ ap (λ zs. front ++ drop (suc (length front)) zs) (sym (append_assoc front (y ∷ []) ys))
    ∙ ap (λ zs. front ++ zs)
    (drop_at (front ++ y ∷ []) ys (suc (length front))
    (let more = length-append front (y ∷ []) in omega (arith, more))))

rival_case : {X : Type 0} (E : X → X → Bool) (x y : X) (front ys : List X) (o : Option ℕ)
    → (front ++ y ∷ []) ++ drop_rival E x ys ≡ without_at ((front ++ y ∷ []) ++ ys) o → (b : Bool)
    → front ++ cond b ys (y ∷ drop_rival E x ys)
    ≡ without_at (front ++ y ∷ ys) (cond b (Some (length front)) o)
rival_case E x y front ys o h true = rival_here y front ys
rival_case E x y front ys o h false =
    sym (append_assoc front (y ∷ []) (drop_rival E x ys)) ∙ h
    ∙ ap (λ zs. without_at zs o) (append_assoc front (y ∷ []) ys)

rival_behind : {X : Type 0} (E : X → X → Bool) (x : X) (ys front : List X)
    → front ++ drop_rival E x ys ≡ without_at (front ++ ys) (rival_from E x (length front) ys)
rival_behind E x [] front = refl
rival_behind E x (y ∷ ys) front =
    rival_case E x y front ys (rival_from E x (length front + 1) ys)
    (rival_behind E x ys (front ++ y ∷ [])
    ∙ ap (λ (n : ℕ). without_at ((front ++ y ∷ []) ++ ys) (rival_from E x n ys))
    (length-append front (y ∷ []))) (E y x)

-- without its first rival from a place on
pub rival_dropped : {X : Type 0} (E : X → X → Bool) (x : X) (ys : List X) (k : ℕ) → k ≤ length ys
    → take k ys ++ drop_rival E x (drop k ys) ≡ without_at ys (rival_from E x k (drop k ys))
rival_dropped E x ys k l =
    rival_behind E x (drop k ys) (take k ys)
    ∙ ap (λ zs. without_at zs (rival_from E x (length (take k ys)) (drop k ys)))
    (take-append-drop k ys)
    ∙ ap (λ (n : ℕ). without_at ys (rival_from E x n (drop k ys))) (length-take-le k ys l)
