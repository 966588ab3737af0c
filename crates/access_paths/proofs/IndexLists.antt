-- The usable indexes of each table, index by index.
use Rattle.std.proofs.Common.{◌≡◌, ◌≢◌, ◌<◌, ◌+◌, ◌++◌, ◌==◌, ◌&&◌, ℕ, zero, suc, Bool, true}
use Rattle.std.proofs.Common.{false, cond, List, [], ◌∷◌, Option, Some, map, refl, ap}
use Rattle.std.proofs.Common.{◌∙◌, sym, arith, length, get_or, slice_get, append-nil}
use Rattle.std.proofs.Common.{add-one, subst}
use Rattle.std.specs.Prelude.{slice_set, slice_index_or}
use Rattle.std.specs.List.{filter}
use Rattle.std.proofs.lemmas.Bool.{eqb-true, eq-eqb, ne_eqb}
use Rattle.std.proofs.lemmas.List.{get_or-set_same, get_or-set_other}
use Rattle.std.proofs.lemmas.List.{ext_get_or, length-map, get_or-map}
use Rattle.sql_meaning.specs.Schemas.{Index}
use Rattle.sql_meaning.specs.Statements.{numbers_from}
use Rattle.sql_meaning.specs.Fitting.{is_usable_on}

-- those of a table among the first n indexes
abbrev pub listed : List Index → ℕ → ℕ → List ℕ
listed indexes table n =
    filter (λ i. is_usable_on table (slice_get indexes i)) (numbers_from 0 n)

numbers_push : (start n : ℕ)
    → numbers_from start (suc n) ≡ numbers_from start n ++ (start + n) ∷ []
numbers_push start zero = let e : start ≡ start + 0 = omega arith in ap (λ k. k ∷ []) e
numbers_push start (suc n) =
    let e : start + 1 + n ≡ start + suc n = omega arith in
    ap (λ ns. start ∷ ns)
    (numbers_push (start + 1) n ∙ ap (λ k. numbers_from (start + 1) n ++ k ∷ []) e)

filter_push_case : (p : ℕ → Bool) (x y : ℕ) (xs : List ℕ) (b : Bool) → p y ≡ b
    → filter p (xs ++ x ∷ []) ≡ filter p xs ++ cond (p x) (x ∷ []) []
    → filter p ((y ∷ xs) ++ x ∷ []) ≡ filter p (y ∷ xs) ++ cond (p x) (x ∷ []) []
filter_push_case p x y xs true e ih = rw e (ap (λ l. y ∷ l) ih)
filter_push_case p x y xs false e ih = rw e ih

filter_push : (p : ℕ → Bool) (xs : List ℕ) (x : ℕ)
    → filter p (xs ++ x ∷ []) ≡ filter p xs ++ cond (p x) (x ∷ []) []
filter_push p [] x = refl
filter_push p (y ∷ xs) x = filter_push_case p x y xs (p y) refl (filter_push p xs x)

listed_more : (indexes : List Index) (table n : ℕ) (index : Option Index)
    → slice_get indexes n ≡ index
    → listed indexes table (n + 1)
    ≡ listed indexes table n ++ cond (is_usable_on table index) (n ∷ []) []
listed_more indexes table n index is =
    rw (add-one n)
    (ap (filter (λ i. is_usable_on table (slice_get indexes i)))
    (numbers_push 0 n ∙ (let e : 0 + n ≡ n = omega arith in ap (λ k. numbers_from 0 n ++ k ∷ []) e))
    ∙ filter_push (λ i. is_usable_on table (slice_get indexes i)) (numbers_from 0 n) n
    ∙ ap (λ o. listed indexes table n ++ cond (is_usable_on table o) (n ∷ []) []) is)

-- an index without columns is none of any table
unusable : (table : ℕ) (index : Index) → length index.columns ≡ 0
    → is_usable_on table (Some index) ≡ false
unusable table index e = rw e (none (index.table == table))
  where
    none : (b : Bool) → (b && false) ≡ false
    none true = refl
    none false = refl

pub lists_same : (indexes : List Index) (n : ℕ) (index : Index) (lists : List (List ℕ))
    → slice_get indexes n ≡ Some index → length index.columns ≡ 0
    → ((t : ℕ) → t < length lists → get_or lists t [] ≡ listed indexes t n)
    → (t : ℕ) → t < length lists → get_or lists t [] ≡ listed indexes t (n + 1)
lists_same indexes n index lists is none h t below =
    h t below
    ∙ sym
    (listed_more indexes t n (Some index) is
    ∙ ap (λ b. listed indexes t n ++ cond b (n ∷ []) []) (unusable t index none)
    ∙ append-nil (listed indexes t n))

pushed_case : (indexes : List Index) (n : ℕ) (index : Index) (old : List (List ℕ))
    → length index.columns ≢ 0 → index.table < length old
    → ((t : ℕ) → t < length old → get_or old t [] ≡ listed indexes t n)
    → (t : ℕ) → t < length old → (same : Bool) → (index.table == t) ≡ same
    → get_or (slice_set old index.table (get_or old index.table [] ++ n ∷ [])) t []
    ≡ listed indexes t n ++ cond (is_usable_on t (Some index)) (n ∷ []) []
pushed_case indexes n index old some there h t below true e =
    let one : index.table ≡ t = eqb-true index.table t e in
    let used : (length index.columns == 0) ≡ false = ne_eqb (length index.columns) 0 some in
    rw (e, used)
    (ap (λ k. get_or (slice_set old index.table (get_or old index.table [] ++ n ∷ [])) k []) (sym one)
    ∙ get_or-set_same old index.table (get_or old index.table [] ++ n ∷ []) [] there
    ∙ ap (λ k. get_or old k [] ++ n ∷ []) one ∙ ap (λ l. l ++ n ∷ []) (h t below))
pushed_case indexes n index old some there h t below false e =
    let apart : t ≢ index.table = λ q. (let yes = eq-eqb index.table t (sym q) in cc) in
    rw e
    (get_or-set_other old index.table t (get_or old index.table [] ++ n ∷ []) [] apart
    ∙ h t below ∙ sym (append-nil (listed indexes t n)))

pub lists_more : (indexes : List Index) (n : ℕ) (index : Index) (old new : List (List ℕ))
    → slice_get indexes n ≡ Some index → length index.columns ≢ 0 → index.table < length old
    → new ≡ slice_set old index.table (slice_index_or old index.table [] ++ n ∷ [])
    → ((t : ℕ) → t < length old → get_or old t [] ≡ listed indexes t n)
    → (t : ℕ) → t < length old → get_or new t [] ≡ listed indexes t (n + 1)
lists_more indexes n index old new is some there made h t below =
    ap (λ l. get_or l t []) made
    ∙ pushed_case indexes n index old some there h t below (index.table == t) refl
    ∙ sym (listed_more indexes t n (Some index) is)

pub numbers_length : (start n : ℕ) → length (numbers_from start n) ≡ n
numbers_length start zero = refl
numbers_length start (suc n) = ap suc (numbers_length (start + 1) n)

pub numbers_at : (start n k : ℕ) → k < n → get_or (numbers_from start n) k 0 ≡ start + k
numbers_at start zero k below = absurd (omega (arith, below))
numbers_at start (suc n) zero below = omega arith
numbers_at start (suc n) (suc k) below =
    let e : start + 1 + k ≡ start + suc k = omega arith in
    numbers_at (start + 1) n k (omega (arith, below)) ∙ e

-- the lists of the first n tables, by those of each
pub each_listed : (f : ℕ → List ℕ) (n k : ℕ) → k < n
    → get_or (map f (numbers_from 0 n)) k [] ≡ f k
each_listed f n k below =
    let inside : k < length (numbers_from 0 n) = rw (numbers_length 0 n) below in
    let e : 0 + k ≡ k = omega arith in
    get_or-map f (numbers_from 0 n) k 0 [] inside ∙ ap f (numbers_at 0 n k below ∙ e)

pub lists_are : (f : ℕ → List ℕ) (n : ℕ) (lists : List (List ℕ)) → length lists ≡ n
    → ((t : ℕ) → t < length lists → get_or lists t [] ≡ f t)
    → lists ≡ map f (numbers_from 0 n)
lists_are f n lists len h =
    let all : length lists ≡ length (map f (numbers_from 0 n)) =
    len ∙ sym (length-map (numbers_from 0 n) f ∙ numbers_length 0 n) in
    ext_get_or [] lists (map f (numbers_from 0 n)) all
    (λ t below. h t below
    ∙ sym (each_listed f n t (subst (λ (m : ℕ). t < m) len below)))
