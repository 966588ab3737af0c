-- First comings of joined walks.
use Rattle.std.specs.Cmp.{IsEquivalence}
use Rattle.std.specs.List.{AllByRecursion, filter, flat_map}
use Rattle.std.proofs.Common.{◌≡◌, Bool, true, List, [], ◌∷◌, refl, ◌∙◌, ℕ, false, cond, not, ◌&&◌}
use Rattle.std.proofs.Common.{◌||◌, ◌+◌, arith, ap, sym, ◌++◌, ◌≤◌, zero-add}
use Rattle.list_laws.specs.FirstComing.{has, keep_first}
use Rattle.list_laws.specs.Tally.{tally, SameTally}
use Rattle.list_laws.proofs.Tallies.{tally_same, tally_add, tally_zero, tally-filter, tally_agree}
use Rattle.list_laws.proofs.Bools.{or_assoc}
use Rattle.list_laws.proofs.Lists.{all_append, all_map}

-- x is one of the rows, and the only one of them that is the same
pub record IsOnce {X : Type 0} (E : X → X → Bool) (rows : List X) (x : X) : Type 0 where
  pub weighs : (f : X → ℕ) → tally (λ r. cond (E x r) (f r) 0) rows ≡ f x

pub has_congr : {X : Type 0} {E : X → X → Bool} → IsEquivalence E → (seen : List X) (x r : X)
    → E x r ≡ true → has E seen x ≡ has E seen r
has_congr o [] x r e = refl
has_congr {X} {E} o (s ∷ seen) x r e =
    let one : E s x ≡ E s r = o.symm s x ∙ o.congr x r s e ∙ o.symm r s in
    rw (one, has_congr o seen x r e) refl

skip_point : (e l s : Bool) (n : ℕ) → (e ≡ true → s ≡ true)
    → cond (l && not s) n 0 ≡ cond ((e || l) && not s) n 0
skip_point true l s n h = rw (h refl) (both l n)
  where
    both : (l : Bool) (n : ℕ) → cond (l && false) n 0 ≡ 0
    both true n = refl
    both false n = refl
skip_point false l s n h = refl

keep_point : (e l s : Bool) (n : ℕ) → (e ≡ true → s ≡ false)
    → cond e n 0 + cond (l && not (e || s)) n 0 ≡ cond ((e || l) && not s) n 0
keep_point true l s n h = rw (h refl) (both l n)
  where
    both : (l : Bool) (n : ℕ) → n + cond (l && false) n 0 ≡ n
    both true n = omega arith
    both false n = omega arith
keep_point false l s n h = omega arith

keep_case : {X : Type 0} {E : X → X → Bool} → IsEquivalence E
    → (rows : List X) (f : X → ℕ) (x : X) (xs seen : List X) → IsOnce E rows x
    → ((seen : List X)
    → tally f (keep_first E seen xs)
    ≡ tally (λ r. cond (has E xs r && not (has E seen r)) (f r) 0) rows)
    → (b : Bool) → has E seen x ≡ b
    → tally f (cond b (keep_first E seen xs) (x ∷ keep_first E (x ∷ seen) xs))
    ≡ tally (λ r. cond (has E (x ∷ xs) r && not (has E seen r)) (f r) 0) rows
keep_case {X} {E} o rows f x xs seen once ih true e =
    ih seen
    ∙ tally_same _ _ rows
    (λ r. skip_point (E x r) (has E xs r) (has E seen r) (f r)
    (λ t. sym (has_congr o seen x r t) ∙ e))
keep_case {X} {E} o rows f x xs seen once ih false e =
    ap (λ n. f x + n) (ih (x ∷ seen))
    ∙ ap (λ n. n + tally (λ r. cond (has E xs r && not (has E (x ∷ seen) r)) (f r) 0) rows)
    (sym (once.weighs f))
    ∙ sym
    (tally_add (λ r. cond (E x r) (f r) 0)
    (λ r. cond (has E xs r && not (has E (x ∷ seen) r)) (f r) 0) rows)
    ∙ tally_same _ _ rows
    (λ r. keep_point (E x r) (has E xs r) (has E seen r) (f r)
    (λ t. sym (has_congr o seen x r t) ∙ e))

-- what is kept of a list of rows are the rows that it has and that were not seen, each once
keep_tally : {X : Type 0} {E : X → X → Bool} → IsEquivalence E
    → (rows : List X) (f : X → ℕ) (xs seen : List X) → AllByRecursion (IsOnce E rows) xs
    → tally f (keep_first E seen xs)
    ≡ tally (λ r. cond (has E xs r && not (has E seen r)) (f r) 0) rows
keep_tally o rows f [] seen h = sym (tally_zero rows)
keep_tally {X} {E} o rows f (x ∷ xs) seen h =
    keep_case o rows f x xs seen h.0 (λ s. keep_tally o rows f xs s h.1) (has E seen x) refl

has-append : {X : Type 0} (E : X → X → Bool) (xs ys : List X) (r : X)
    → has E (xs ++ ys) r ≡ (has E xs r || has E ys r)
has-append E [] ys r = refl
has-append E (x ∷ xs) ys r = rw (has-append E xs ys r) (or_assoc (E x r) (has E xs r) (has E ys r))

-- an element is there exactly where those that are the same weigh something
pub has_some : {X : Type 0} (E : X → X → Bool) (xs : List X) (r : X) → has E xs r ≡ true
    → 1 ≤ tally (λ y. cond (E y r) 1 0) xs
has_some E [] r h = absurd (cc)
has_some E (x ∷ xs) r h =
    some_case (E x r) (has E xs r) (tally (λ y. cond (E y r) 1 0) xs) h (has_some E xs r)
  where
    some_case : (e l : Bool) (n : ℕ) → (e || l) ≡ true → (l ≡ true → 1 ≤ n) → 1 ≤ cond e 1 0 + n
    some_case true l n h f = omega arith
    some_case false l n h f = let more : 1 ≤ n = f h in omega arith

pub has_none : {X : Type 0} (E : X → X → Bool) (xs : List X) (r : X) → has E xs r ≡ false
    → tally (λ y. cond (E y r) 1 0) xs ≡ 0
has_none E [] r h = refl
has_none E (x ∷ xs) r h =
    none_case (E x r) (has E xs r) (tally (λ y. cond (E y r) 1 0) xs) h (has_none E xs r)
  where
    none_case : (e l : Bool) (n : ℕ) → (e || l) ≡ false → (l ≡ false → n ≡ 0) → cond e 1 0 + n ≡ 0
    none_case true l n h f = absurd (cc)
    none_case false l n h f = let none : n ≡ 0 = f h in omega arith

decide_case : (h b : Bool) (n : ℕ) → (h ≡ true → 1 ≤ n) → (h ≡ false → n ≡ 0) → n ≡ cond b 1 0
    → h ≡ b
decide_case true true n f g e = refl
decide_case false false n f g e = refl
decide_case true false n f g e = let some : 1 ≤ n = f refl in absurd (omega arith)
decide_case false true n f g e = let none : n ≡ 0 = g refl in absurd (omega arith)

swap_conds : (p e d : Bool) → e ≡ d → ◌≡◌ {A = ℕ} (cond p (cond e 1 0) 0) (cond d (cond p 1 0) 0)
swap_conds true e d h = rw h refl
swap_conds false e true h = refl
swap_conds false e false h = refl

-- a walk that has the rows that pass p has a row exactly where it passes
pub has_used : {X : Type 0} {E : X → X → Bool} → IsEquivalence E
    → (rows walk : List X) (p : X → Bool) (r : X) → IsOnce E rows r → SameTally walk (filter p rows)
    → has E walk r ≡ p r
has_used {X} {E} o rows walk p r once same =
    decide_case (has E walk r) (p r) (tally (λ y. cond (E y r) 1 0) walk) (has_some E walk r)
    (has_none E walk r)
    (same.each (λ y. cond (E y r) 1 0) ∙ tally-filter _ p rows
    ∙ tally_same _ _ rows (λ y. swap_conds (p y) (E y r) (E r y) (o.symm y r))
    ∙ once.weighs (λ y. cond (p y) 1 0))

-- a branch: its walk, and the test of its used terms
pub record Branch (X : Type 0) : Type 0 where
  pub walk : List X
  pub used : X → Bool

abbrev pub any_used : {X : Type 0} → List (Branch X) → X → Bool
any_used [] r = false
any_used (b ∷ bs) r = b.used r || any_used bs r

abbrev pub AreBranches : {X : Type 0} → (X → X → Bool) → List X → List (Branch X) → Type 0
AreBranches E rows [] = Unit {0}
AreBranches E rows (b ∷ bs) =
    SameTally b.walk (filter b.used rows) × AllByRecursion (IsOnce E rows) b.walk
    × AreBranches E rows bs

has_any : {X : Type 0} {E : X → X → Bool} → IsEquivalence E
    → (rows : List X) (bs : List (Branch X)) (r : X) → IsOnce E rows r → AreBranches E rows bs
    → has E (flat_map (λ b. b.walk) bs) r ≡ any_used bs r
has_any o rows [] r once h = refl
has_any {X} {E} o rows (b ∷ bs) r once h =
    has-append E b.walk (flat_map (λ b. b.walk) bs) r
    ∙ rw (has_used o rows b.walk b.used r once h.0, has_any o rows bs r once h.2) refl

once_walks : {X : Type 0} (E : X → X → Bool) (rows : List X) (bs : List (Branch X))
    → AreBranches E rows bs → AllByRecursion (IsOnce E rows) (flat_map (λ b. b.walk) bs)
once_walks E rows [] h = tt
once_walks E rows (b ∷ bs) h =
    all_append _ b.walk (flat_map (λ b. b.walk) bs) h.1 (once_walks E rows bs h.2)

and_true : (a : Bool) → (a && true) ≡ a
and_true true = refl
and_true false = refl

-- the walk of a union has the rows that pass one of its branches, each once
pub union_same : {X : Type 0} {E : X → X → Bool} → IsEquivalence E → (rows : List X)
    → AllByRecursion (IsOnce E rows) rows → (bs : List (Branch X)) → AreBranches E rows bs
    → SameTally (keep_first E [] (flat_map (λ b. b.walk) bs)) (filter (any_used bs) rows)
union_same {X} {E} o rows once bs h = record {
  each = λ f.
      keep_tally o rows f (flat_map (λ b. b.walk) bs) [] (once_walks E rows bs h)
      ∙ tally_agree _ _ rows
      (all_map _ _ rows
      (λ r w. ap (λ b. cond b (f r) 0)
      (and_true (has E (flat_map (λ b. b.walk) bs) r) ∙ has_any o rows bs r w h)) once)
      ∙ sym (tally-filter f (any_used bs) rows);
}

once_head : (e : Bool) (n m : ℕ) → e ≡ true → m ≡ 0 → cond e n 0 + m ≡ n
once_head e n m h z = rw (h, z) (omega arith)

none_same : {X : Type 0} (E : X → X → Bool) (x : X) (f : X → ℕ) (xs : List X)
    → AllByRecursion (λ y. E x y ≡ false) xs → tally (λ r. cond (E x r) (f r) 0) xs ≡ 0
none_same E x f [] h = refl
none_same E x f (y ∷ ys) h = rw (h.0, zero-add) (none_same E x f ys h.1)

once_tail : {X : Type 0} {E : X → X → Bool} → IsEquivalence E → (x : X) (xs ys : List X)
    → AllByRecursion (λ y. E x y ≡ false) ys → AllByRecursion (IsOnce E xs) ys
    → AllByRecursion (IsOnce E (x ∷ xs)) ys
once_tail o x xs [] d h = tt
once_tail {X} {E} o x xs (y ∷ ys) d h = (
  record {
    weighs = λ f. let apart : E y x ≡ false = o.symm y x
        ∙ d.0 in rw (apart, zero-add) (h.0.weighs f);
  },
  once_tail o x xs ys d.1 h.1,
)

-- rows of which no two are the same
abbrev pub AreApart : {X : Type 0} → (X → X → Bool) → List X → Type 0
AreApart E [] = Unit {0}
AreApart E (x ∷ xs) = AllByRecursion (λ y. E x y ≡ false) xs × AreApart E xs

pub once_from_apart : {X : Type 0} {E : X → X → Bool} → IsEquivalence E → (xs : List X)
    → AreApart E xs → AllByRecursion (IsOnce E xs) xs
once_from_apart o [] d = tt
once_from_apart {X} {E} o (x ∷ xs) d = (
  record { weighs = λ f. once_head (E x x) (f x) _ (o.refl x) (none_same E x f xs d.0) },
  once_tail o x xs xs d.0 (once_from_apart o xs d.1),
)
