-- Names of candidates are free: as many sums as there are names, and one more, can't all be taken.
use Rattle.std.specs.List.{filter}
use Rattle.std.proofs.Common.{◌≡◌, ◌≢◌, ◌<◌, ◌≤◌, ℕ, zero, suc, ◌+◌, ◌-◌, ◌*◌, ◌/◌, ◌%◌, ◌^◌, Bool}
use Rattle.std.proofs.Common.{true}
use Rattle.std.proofs.Common.{false, cond, not, ◌&&◌, ◌||◌, ◌==◌, nat_lt, ltb, List, [], ◌∷◌, ◌++◌}
use Rattle.std.proofs.Common.{map}
use Rattle.std.proofs.Common.{rules, length, refl, sym, ap, ◌∙◌, arith, inl, inr, ◌⊎◌}
use Rattle.std.specs.Prelude.{codes}
use Rattle.std.specs.Ordering.{nat_cmp, eq_by_cmp}
use Rattle.std.specs.Cmp.Lexicographic.{slice_cmp}
use Rattle.std.specs.Str.{bytes_eq}
use Rattle.std.proofs.lemmas.Bool.{eqb-true, eq-eqb, ltb-true, ltb-false}
use Rattle.std.proofs.lemmas.List.{length-map, map-append}
use Rattle.std.proofs.lemmas.Slice.Eq.{bytes_eq-Decides}
use Rattle.std.proofs.lemmas.Map.Text.{is_eq-slice_cmp}
use Rattle.list_laws.specs.FirstComing.{has}
use Rattle.list_laws.proofs.Bools.{and_left, and_right, or_first, or_later}
use Rattle.sql_meaning.specs.Letters.{folded, folded_bytes}
use Rattle.sql_meaning.specs.Schemas.{Index}
use Rattle.sql_meaning.specs.Statements.{has_number, numbers_from}
use Rattle.plan_choice.specs.CandidateNames.{sum_from, name_sum, hex_digit, hex_digits, name_of_sum}
use Rattle.plan_choice.specs.CandidateNames.{free_name, Naming, is_taken, candidate_name}
use Rattle.plan_choice.specs.CandidateNames.{names_from}
use Rattle.plan_choice.specs.NameLaws.{AreFree, CandidateNamesAreFree}
use Rattle.plan_choice.proofs.PlacedItems.{has_from, has_filter}
use Rattle.plan_choice.proofs.CostBounds.{filter_small}

-- the sum that is tried i steps on
abbrev ahead : ℕ → ℕ → ℕ
ahead zero h = h
ahead (suc i) h = ahead i ((h + 1) % 2 ^ 32)

next_case : (h : ℕ) (b : Bool) → ltb (h + 1) (2 ^ 32) ≡ b → h < 2 ^ 32
    → ((h + 1) % 2 ^ 32 ≡ h + 1) × (h + 1 < 2 ^ 32) ⊎ ((h + 1) % 2 ^ 32 ≡ 0) × (h + 1 ≡ 2 ^ 32)
next_case h true e l = let below = ltb-true (h + 1) (2 ^ 32) e in inl (omega (arith, below), below)
next_case h false e l =
    let above = ltb-false (h + 1) (2 ^ 32) e in
    inr (omega (arith, above, l), omega (arith, above, l))

-- it is i more, or that less all sums there are
abbrev IsAhead : ℕ → ℕ → Type 0
IsAhead i h = ((ahead i h ≡ h + i) × (h + i < 2 ^ 32)) ⊎ (ahead i h + 2 ^ 32 ≡ h + i)

stayed : (i h : ℕ) → (h + 1) % 2 ^ 32 ≡ h + 1 → IsAhead i ((h + 1) % 2 ^ 32) → IsAhead (suc i) h
stayed i h e (inl a) =
    let x = a.0 in let y = a.1 in inl (omega (arith, e, x), omega (arith, e, y))
stayed i h e (inr a) = inr (omega (arith, e, a))

turned : (i h : ℕ) → suc i < 2 ^ 32 → (h + 1) % 2 ^ 32 ≡ 0 → h + 1 ≡ 2 ^ 32
    → IsAhead i ((h + 1) % 2 ^ 32) → IsAhead (suc i) h
turned i h m e f (inl a) = let x = a.0 in inr (omega (arith, e, f, x))
turned i h m e f (inr a) = absurd (omega (arith, e, a, m))

step_is : (i h : ℕ) → suc i < 2 ^ 32 → IsAhead i ((h + 1) % 2 ^ 32)
    → ((h + 1) % 2 ^ 32 ≡ h + 1) × (h + 1 < 2 ^ 32) ⊎ ((h + 1) % 2 ^ 32 ≡ 0) × (h + 1 ≡ 2 ^ 32)
    → IsAhead (suc i) h
step_is i h m a (inl e) = stayed i h e.0 a
step_is i h m a (inr e) = turned i h m e.0 e.1 a

ahead_is : (i h : ℕ) → h < 2 ^ 32 → i < 2 ^ 32 → IsAhead i h
ahead_is zero h l m = inl (omega arith, omega (arith, l))
ahead_is (suc i) h l m =
    step_is i h m (ahead_is i ((h + 1) % 2 ^ 32) (omega arith) (omega (arith, m)))
    (next_case h (ltb (h + 1) (2 ^ 32)) refl l)

-- within 2 ^ 32 steps it doesn't come back
apart : (i h : ℕ) → h < 2 ^ 32 → suc i < 2 ^ 32 → ahead (suc i) h ≢ h
apart i h l m same = by (ahead_is (suc i) h l m)
  where
    by : IsAhead (suc i) h → ⊥
    by (inl a) = let x = a.0 in omega (arith, x, same)
    by (inr a) = omega (arith, a, same, m)

ahead_below : (i h : ℕ) → h < 2 ^ 32 → ahead i h < 2 ^ 32
ahead_below zero h l = l
ahead_below (suc i) h l = ahead_below i ((h + 1) % 2 ^ 32) (omega arith)

-- without one of its members a list is shorter
shorter_case : (h d : ℕ) (ds : List ℕ) (b : Bool) → (h == d) ≡ b
    → (b || has_number h ds) ≡ true
    → (has_number h ds ≡ true → suc (length (filter (λ x. not (h == x)) ds)) ≤ length ds)
    → suc (length (cond (not b) (d ∷ filter (λ x. not (h == x)) ds)
    (filter (λ x. not (h == x)) ds)))
    ≤ suc (length ds)
shorter_case h d ds true e f ih =
    let small = filter_small (λ x. not (h == x)) ds in omega (arith, small)
shorter_case h d ds false e f ih = let small = ih f in omega (arith, small)

shorter : (h : ℕ) (ds : List ℕ) → has_number h ds ≡ true
    → suc (length (filter (λ x. not (h == x)) ds)) ≤ length ds
shorter h [] e = absurd (cc)
shorter h (d ∷ ds) e = shorter_case h d ds (h == d) refl e (shorter h ds)

differs : (a h : ℕ) → a ≢ h → not (h == a) ≡ true
differs a h n = by (h == a) refl
  where
    by : (b : Bool) → (h == a) ≡ b → not b ≡ true
    by true e = absurd (n (sym (eqb-true h a e)))
    by false e = refl

-- a list has no room for one sum more than it has members
no_room : (k h : ℕ) (ds : List ℕ) → h < 2 ^ 32 → k < 2 ^ 32 → length ds ≤ k
    → ((i : ℕ) → i ≤ k → has_number (ahead i h) ds ≡ true) → ⊥
no_room zero h [] l m n f = let here = f 0 (omega arith) in cc
no_room zero h (d ∷ ds) l m n f = omega (arith, n)
no_room (suc k) h ds l m n f =
    let first = shorter h ds (f 0 (omega arith)) in
    no_room k ((h + 1) % 2 ^ 32) (filter (λ x. not (h == x)) ds) (omega arith) (omega (arith, m))
    (omega (arith, n, first))
    (λ i below. has_filter (λ x. not (h == x)) ds (ahead i ((h + 1) % 2 ^ 32))
    (differs (ahead i ((h + 1) % 2 ^ 32)) h (apart i h l (omega (arith, m, below))))
    (f (suc i) (omega (arith, below))))

-- reading the sum back from a name
abbrev digit_of : ℕ → ℕ
digit_of c = cond (nat_lt c 58) (c - 48) (c - 87)

abbrev all_true : (ℕ → Bool) → List ℕ → Bool
all_true f [] = true
all_true f (n ∷ ns) = f n && all_true f ns

true_case : (f : ℕ → Bool) (m n : ℕ) (ms : List ℕ) (b : Bool) → (n == m) ≡ b → f m ≡ true
    → (b || has_number n ms) ≡ true → (has_number n ms ≡ true → f n ≡ true) → f n ≡ true
true_case f m n ms true e h k ih = ap f (eqb-true n m e) ∙ h
true_case f m n ms false e h k ih = ih k

each_true : (f : ℕ → Bool) (ns : List ℕ) (n : ℕ) → all_true f ns ≡ true → has_number n ns ≡ true
    → f n ≡ true
each_true f [] n h e = absurd (cc)
each_true f (m ∷ ms) n h e =
    true_case f m n ms (n == m) refl (and_left (f m) (all_true f ms) h) e
    (each_true f ms n (and_right (f m) (all_true f ms) h))

digit_is : (d : ℕ) → d < 16 → digit_of (folded (hex_digit d)) ≡ d
digit_is d l =
    eqb-true (digit_of (folded (hex_digit d))) d
    (each_true (λ n. digit_of (folded (hex_digit n)) == n) (numbers_from 0 16) d refl
    (has_from 0 16 d (omega arith) (omega (arith, l))))

abbrev read : ℕ → List ℕ → ℕ
read v [] = v
read v (c ∷ cs) = read (16 * v + digit_of c) cs

read_behind : (v : ℕ) (xs ys : List ℕ) → read v (xs ++ ys) ≡ read (read v xs) ys
read_behind v [] ys = refl
read_behind v (x ∷ xs) ys = read_behind (16 * v + digit_of x) xs ys

abbrev power : ℕ → ℕ
power zero = 1
power (suc n) = 16 * power n

read_hex : (n h : ℕ) → h < power n → read 0 (map folded (hex_digits n h)) ≡ h
read_hex zero h l = omega (arith, l)
read_hex (suc n) h l =
    let before : read 0 (map folded (hex_digits n (h / 16))) ≡ h / 16 =
    read_hex n (h / 16) (omega (arith, l)) in
    let last : digit_of (folded (hex_digit (h % 16))) ≡ h % 16 = digit_is (h % 16) (omega arith) in
    ap (read 0) (map-append folded (hex_digits n (h / 16)) (hex_digit (h % 16) ∷ []))
    ∙ read_behind 0 (map folded (hex_digits n (h / 16))) (folded (hex_digit (h % 16)) ∷ [])
    ∙ omega (arith, before, last)

-- what stands behind as many members
abbrev behind : List ℕ → List ℕ → List ℕ
behind [] cs = cs
behind (t ∷ ts) [] = []
behind (t ∷ ts) (c ∷ cs) = behind ts cs

behind_is : (ts cs : List ℕ) → behind ts (map folded (ts ++ cs)) ≡ map folded cs
behind_is [] cs = refl
behind_is (t ∷ ts) cs = behind_is ts cs

abbrev decode : List ℕ → List ℕ → ℕ
decode table name = read 0 (behind (codes "_idx_") (behind table name))

decode_is : (table : List ℕ) (h : ℕ) → h < 2 ^ 32
    → decode table (folded_bytes (name_of_sum table h)) ≡ h
decode_is table h l =
    ap (λ cs. read 0 (behind (codes "_idx_") cs))
    (behind_is table (codes "_idx_" ++ hex_digits 8 h))
    ∙ ap (read 0) (behind_is (codes "_idx_") (hex_digits 8 h))
    ∙ read_hex 8 h l

pub bytes_are : (xs ys : List ℕ) → bytes_eq xs ys ≡ true → xs ≡ ys
bytes_are xs ys e = search (rules, bytes_eq-Decides xs ys, e)

same_is : (xs ys : List ℕ) → eq_by_cmp (slice_cmp nat_cmp) xs ys ≡ true → xs ≡ ys
same_is xs ys e = bytes_are xs ys (sym (is_eq-slice_cmp xs ys) ∙ e)

member_case : (f : List ℕ → ℕ) (x y : List ℕ) (ys : List (List ℕ)) (b : Bool)
    → eq_by_cmp (slice_cmp nat_cmp) y x ≡ b
    → (b || has (eq_by_cmp (slice_cmp nat_cmp)) ys x) ≡ true
    → (has (eq_by_cmp (slice_cmp nat_cmp)) ys x ≡ true → has_number (f x) (map f ys) ≡ true)
    → has_number (f x) (f y ∷ map f ys) ≡ true
member_case f x y ys true e h ih =
    or_first (f x == f y) _ (eq-eqb (f x) (f y) (ap f (sym (same_is y x e))))
member_case f x y ys false e h ih = or_later (f x == f y) _ (ih h)

member : (f : List ℕ → ℕ) (ys : List (List ℕ)) (x : List ℕ)
    → has (eq_by_cmp (slice_cmp nat_cmp)) ys x ≡ true → has_number (f x) (map f ys) ≡ true
member f [] x h = absurd (cc)
member f (y ∷ ys) x h =
    member_case f x y ys (eq_by_cmp (slice_cmp nat_cmp) y x) refl h (member f ys x)

tried_case : (p : List ℕ → Bool) (table later : List ℕ) (k h : ℕ) (b : Bool)
    → p (name_of_sum table h) ≡ b → p (cond b later (name_of_sum table h)) ≡ true
    → (p later ≡ true → (i : ℕ) → i ≤ k → p (name_of_sum table (ahead (suc i) h)) ≡ true)
    → (i : ℕ) → i ≤ suc k → p (name_of_sum table (ahead i h)) ≡ true
tried_case p table later k h true is f ih zero m = is
tried_case p table later k h true is f ih (suc i) m = ih f i (omega (arith, m))
tried_case p table later k h false is f ih i m =
    absurd (let no : false ≡ true = sym is ∙ f in cc)

-- where the last name that is tried is taken, each one before it is
tried : (p : List ℕ → Bool) (table : List ℕ) (k h : ℕ)
    → p (free_name p table k h) ≡ true → (i : ℕ) → i ≤ k
    → p (name_of_sum table (ahead i h)) ≡ true
tried p table zero h e zero l = e
tried p table zero h e (suc i) l = absurd (omega (arith, l))
tried p table (suc k) h e i l =
    tried_case p table (free_name p table k ((h + 1) % 2 ^ 32)) k h (p (name_of_sum table h)) refl e
    (tried p table k ((h + 1) % 2 ^ 32)) i l

name_free : (taken : List (List ℕ)) (table : List ℕ) (h : ℕ) → h < 2 ^ 32
    → length taken < 2 ^ 32
    → is_taken taken (free_name (is_taken taken) table (length taken) h) ≡ false
name_free taken table h l m =
    by (is_taken taken (free_name (is_taken taken) table (length taken) h)) refl
  where
    by : (b : Bool) → is_taken taken (free_name (is_taken taken) table (length taken) h) ≡ b
        → b ≡ false
    by false e = refl
    by true e =
        absurd (no_room (length taken) h (map (decode table) taken) l m
        (let same = length-map taken (decode table) in omega (arith, same))
        (λ i below. ap (λ n. has_number n (map (decode table) taken))
        (sym (decode_is table (ahead i h) (ahead_below i h l)))
        ∙ member (decode table) taken (folded_bytes (name_of_sum table (ahead i h)))
        (tried (is_taken taken) table (length taken) h e i below)))

sum_below : (h : ℕ) (bs : List ℕ) → h < 2 ^ 32 → sum_from h bs < 2 ^ 32
sum_below h [] l = l
sum_below h (b ∷ bs) l = sum_below ((9 * h + b) % 2 ^ 32) bs (omega arith)

are_free : (n : Naming) (taken : List (List ℕ)) (indexes : List Index)
    → length taken + length indexes < 2 ^ 32 → AreFree taken (names_from n taken indexes)
are_free n taken [] l = tt
are_free n taken (index ∷ indexes) l = (
  name_free taken _ (name_sum (n.text index.table index.columns))
      (sum_below 0 (n.text index.table index.columns) (omega arith)) (omega (arith, l)),
  are_free n (folded_bytes (candidate_name n taken index) ∷ taken) indexes (omega (arith, l)),
)

pub candidate_names_are_free : CandidateNamesAreFree
candidate_names_are_free = λ n indexes l. are_free n n.taken indexes l
