-- First comings of a list in order rise strictly.
use Rattle.std.specs.List.{AllByRecursion}
use Rattle.std.specs.Ordering.{is_eq, is_le, eq_by_cmp}
use Rattle.std.specs.declared.cmp.Ordering.{Ordering}
use Rattle.std.specs.declared.cmp.Ordering.TheVariants.{Less, Equal, Greater}
use Rattle.std.specs.Cmp.{IsEquivalence, IsTotalOrder}
use Rattle.std.proofs.Common.{Bool, true, false, cond, List, [], ◌∷◌, ◌≡◌, ◌||◌, refl, sym, ◌∙◌, ℕ}
use Rattle.std.proofs.Common.{◌≤◌, arith}
use Rattle.std.proofs.lemmas.Cmp.{eq_by_cmp_equiv}
use Rattle.list_laws.specs.FirstComing.{has, keep_first}
use Rattle.list_laws.specs.Order.{Ascends, sort_by}
use Rattle.list_laws.specs.Tally.{tally, SameTally}
use Rattle.list_laws.proofs.Bools.{or_false_right, or_false_left}
use Rattle.list_laws.proofs.Lists.{all_map, all_both}
use Rattle.list_laws.proofs.Unions.{has_congr, has_some, has_none}
use Rattle.list_laws.proofs.Orders.{SameTally-sort_by}
use Rattle.list_laws.specs.Order.{RisesStrictly}

-- the value ties with one of the keys
abbrev pub ties_any : {K : Type 0} → (K → K → Ordering) → List K → K → Bool
ties_any R [] v = false
ties_any R (k ∷ ks) v = is_eq (R v k) || ties_any R ks v

pub all_keep : {X : Type 0} (E : X → X → Bool) (P : X → Type 0) (xs seen : List X)
    → AllByRecursion P xs → AllByRecursion P (keep_first E seen xs)
all_keep E P [] seen h = tt
all_keep E P (x ∷ xs) seen h =
    elim (has E seen x) as (λ b. AllByRecursion P
    (cond b (keep_first E seen xs) (x ∷ keep_first E (x ∷ seen) xs)))
    [ true ↦ all_keep E P xs seen h.1 | false ↦ (h.0, all_keep E P xs (x ∷ seen) h.1) ]

unseen_case : {X : Type 0} (E : X → X → Bool) (x : X) (xs seen : List X)
    → AllByRecursion (λ y. has E seen y ≡ false) (keep_first E seen xs)
    → AllByRecursion (λ y. has E (x ∷ seen) y ≡ false) (keep_first E (x ∷ seen) xs) → (b : Bool)
    → has E seen x ≡ b
    → AllByRecursion (λ y. has E seen y ≡ false)
    (cond b (keep_first E seen xs) (x ∷ keep_first E (x ∷ seen) xs))
unseen_case E x xs seen h k true e = h
unseen_case E x xs seen h k false e =
    (e, all_map _ _ _ (λ y n. or_false_right (E x y) (has E seen y) n) k)

-- nothing that is kept was seen
all_unseen : {X : Type 0} (E : X → X → Bool) (xs seen : List X)
    → AllByRecursion (λ y. has E seen y ≡ false) (keep_first E seen xs)
all_unseen E [] seen = tt
all_unseen E (x ∷ xs) seen =
    unseen_case E x xs seen (all_unseen E xs seen) (all_unseen E xs (x ∷ seen)) (has E seen x) refl

le_not_eq : (o : Ordering) → is_le o ≡ true → is_eq o ≡ false → o ≡ Less
le_not_eq Less h k = refl
le_not_eq Equal h k = absurd (cc)
le_not_eq Greater h k = absurd (cc)

rises_case : {K : Type 0} (R : K → K → Ordering) (x : K) (xs seen : List K)
    → AllByRecursion (λ y. is_le (R x y) ≡ true) xs
    → RisesStrictly R (keep_first (eq_by_cmp R) seen xs)
    → RisesStrictly R (keep_first (eq_by_cmp R) (x ∷ seen) xs) → (b : Bool)
    → RisesStrictly R
    (cond b (keep_first (eq_by_cmp R) seen xs) (x ∷ keep_first (eq_by_cmp R) (x ∷ seen) xs))
rises_case R x xs seen le h k true = h
rises_case R x xs seen le h k false = (
  all_both _ _ _ _
      (λ y l n. le_not_eq (R x y) l (or_false_left (is_eq (R x y)) (has (eq_by_cmp R) seen y) n))
      (all_keep (eq_by_cmp R) _ xs (x ∷ seen) le) (all_unseen (eq_by_cmp R) xs (x ∷ seen)),
  k,
)

-- of a list in order the first of each that tie rise strictly
pub RisesStrictly-keep_first : {K : Type 0} (R : K → K → Ordering) (xs seen : List K) → Ascends R xs
    → RisesStrictly R (keep_first (eq_by_cmp R) seen xs)
RisesStrictly-keep_first R [] seen h = tt
RisesStrictly-keep_first R (x ∷ xs) seen h =
    rises_case R x xs seen h.0 (RisesStrictly-keep_first R xs seen h.1)
    (RisesStrictly-keep_first R xs (x ∷ seen) h.1) (has (eq_by_cmp R) seen x)

seen_case : (e h s k : Bool) → (e ≡ true → s ≡ true) → (k || s) ≡ (h || s)
    → (k || s) ≡ ((e || h) || s)
seen_case true h s k f g = rw (f refl) (any_true k)
  where
    any_true : (k : Bool) → (k || true) ≡ true
    any_true true = refl
    any_true false = refl
seen_case false h s k f g = g

new_case : (e h s k : Bool) → (k || (e || s)) ≡ (h || (e || s)) → ((e || k) || s) ≡ ((e || h) || s)
new_case true h s k g = refl
new_case false h s k g = g

keep_case : {X : Type 0} {E : X → X → Bool} → IsEquivalence E → (x : X) (xs seen : List X) (v : X)
    → (has E (keep_first E seen xs) v || has E seen v) ≡ (has E xs v || has E seen v)
    → (has E (keep_first E (x ∷ seen) xs) v || has E (x ∷ seen) v)
    ≡ (has E xs v || has E (x ∷ seen) v)
    → (b : Bool) → has E seen x ≡ b
    → (has E (cond b (keep_first E seen xs) (x ∷ keep_first E (x ∷ seen) xs)) v || has E seen v)
    ≡ (has E (x ∷ xs) v || has E seen v)
keep_case {X} {E} o x xs seen v h k true e =
    seen_case (E x v) (has E xs v) (has E seen v) (has E (keep_first E seen xs) v)
    (λ t. sym (has_congr o seen x v t) ∙ e) h
keep_case {X} {E} o x xs seen v h k false e =
    new_case (E x v) (has E xs v) (has E seen v) (has E (keep_first E (x ∷ seen) xs) v) k

-- keeping the first of each that tie keeps what ties with some
pub has-keep_first : {X : Type 0} {E : X → X → Bool} → IsEquivalence E → (xs seen : List X) (v : X)
    → (has E (keep_first E seen xs) v || has E seen v) ≡ (has E xs v || has E seen v)
has-keep_first o [] seen v = refl
has-keep_first {X} {E} o (x ∷ xs) seen v =
    keep_case o x xs seen v (has-keep_first o xs seen v) (has-keep_first o xs (x ∷ seen) v)
    (has E seen x) refl

pub or_none : (a : Bool) → (a || false) ≡ a
or_none true = refl
or_none false = refl

two_cases : (h k : Bool) (n m : ℕ) → n ≡ m → (h ≡ true → 1 ≤ n) → (h ≡ false → n ≡ 0)
    → (k ≡ true → 1 ≤ m) → (k ≡ false → m ≡ 0) → h ≡ k
two_cases true true n m e a b c d = refl
two_cases false false n m e a b c d = refl
two_cases true false n m e a b c d =
    let some : 1 ≤ n = a refl in let none : m ≡ 0 = d refl in absurd (omega arith)
two_cases false true n m e a b c d =
    let none : n ≡ 0 = b refl in let some : 1 ≤ m = c refl in absurd (omega arith)

pub has_same : {X : Type 0} (E : X → X → Bool) (xs ys : List X) (v : X) → SameTally xs ys
    → has E xs v ≡ has E ys v
has_same E xs ys v t =
    two_cases (has E xs v) (has E ys v) (tally (λ y. cond (E y v) 1 0) xs)
    (tally (λ y. cond (E y v) 1 0) ys) (t.each _) (has_some E xs v) (has_none E xs v)
    (has_some E ys v) (has_none E ys v)

ties-has : {K : Type 0} {R : K → K → Ordering} → IsTotalOrder R → (ks : List K) (v : K)
    → ties_any R ks v ≡ has (eq_by_cmp R) ks v
ties-has o [] v = refl
ties-has {K} {R} o (k ∷ ks) v = rw ((eq_by_cmp_equiv o).symm v k, ties-has o ks v) refl

-- the keys of a list, in order and one of each that tie, tie with the same values
pub ties_walked : {K : Type 0} {R : K → K → Ordering} → IsTotalOrder R → (ks : List K) (v : K)
    → ties_any R (keep_first (eq_by_cmp R) [] (sort_by R ks)) v ≡ ties_any R ks v
ties_walked {K} {R} o ks v =
    ties-has o _ v ∙ sym (or_none _) ∙ has-keep_first (eq_by_cmp_equiv o) (sort_by R ks) [] v
    ∙ or_none _ ∙ has_same (eq_by_cmp R) (sort_by R ks) ks v (SameTally-sort_by R ks)
    ∙ sym (ties-has o ks v)
