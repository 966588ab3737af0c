-- Lists by what stands at each number.
use Rattle.std.specs.List.{AllByRecursion}
use Rattle.std.proofs.Common.{◌≡◌, ℕ, zero, suc, ◌+◌, ◌<◌, ◌≤◌, refl, arith, ap, sym, ◌∙◌, subst}
use Rattle.std.proofs.Common.{List, [], ◌∷◌, ◌++◌, length, map, get_or, take, add-one}
use Rattle.std.proofs.Common.{Some, None, Option}
use Rattle.std.proofs.Common.{slice_get}
use Rattle.std.proofs.lemmas.List.{map_push}
use Rattle.sql_meaning.specs.Statements.{numbers_from}

-- one number more
numbers_more : (n s : ℕ) → numbers_from s (n + 1) ≡ numbers_from s n ++ (s + n) ∷ []
numbers_more zero s = ap (λ k. k ∷ []) (omega arith)
numbers_more (suc n) s =
    rw (suc_one n)
    (ap (λ ks. s ∷ ks)
    (numbers_more n (s + 1) ∙ ap (λ k. numbers_from (s + 1) n ++ k ∷ []) (omega arith)))
  where
    suc_one : (n : ℕ) → suc n + 1 ≡ suc (n + 1)
    suc_one n = omega arith

-- a list by what stands at each number
pub listing : {X : Type 0} (d : X) (xs : List X) (n s : ℕ) (f : ℕ → X) → length xs ≡ n
    → ((k : ℕ) → k < n → get_or xs k d ≡ f (s + k)) → xs ≡ map f (numbers_from s n)
listing d [] zero s f e h = refl
listing d [] (suc n) s f e h = absurd (omega arith)
listing d (x ∷ xs) zero s f e h = absurd (omega arith)
listing {X} d (x ∷ xs) (suc n) s f e h =
    let first : x ≡ f s = h 0 (omega arith) ∙ ap f (omega arith) in
    let rest : xs ≡ map f (numbers_from (s + 1) n) =
    listing d xs n (s + 1) f (omega arith) (λ k q. h (suc k) (omega arith) ∙ ap f (omega arith)) in
    rw (first, rest) refl

-- two lists by what stands at each number
pub same_list : {X : Type 0} (d : X) (xs ys : List X) → length xs ≡ length ys
    → ((k : ℕ) → k < length ys → get_or xs k d ≡ get_or ys k d) → xs ≡ ys
same_list d [] [] e h = refl
same_list d [] (y ∷ ys) e h = absurd (omega arith)
same_list d (x ∷ xs) [] e h = absurd (omega arith)
same_list d (x ∷ xs) (y ∷ ys) e h =
    let first : x ≡ y = h 0 (omega arith) in
    let rest : xs ≡ ys = same_list d xs ys (omega arith) (λ k q. h (suc k) (omega arith)) in
    rw (first, rest) refl

-- one more of a list
pub listed_more : {Z : Type 0} (f : ℕ → Z) (k n : ℕ) (new old : List Z) (z : Z) → k ≡ n
    → new ≡ old ++ z ∷ [] → old ≡ map f (numbers_from 0 k) → z ≡ f n
    → new ≡ map f (numbers_from 0 (n + 1))
listed_more f k n new old z e a b h =
    let before : old ≡ map f (numbers_from 0 n) = b ∙ ap (λ m. map f (numbers_from 0 m)) e in
    a ∙ ap (λ l. l ++ z ∷ []) before ∙ ap (λ w. map f (numbers_from 0 n) ++ w ∷ []) h
    ∙ ap (λ m. map f (numbers_from 0 n) ++ f m ∷ []) (zero_is n)
    ∙ sym (map_push f (numbers_from 0 n) (0 + n)) ∙ ap (map f) (sym (numbers_more n 0))
  where
    zero_is : (n : ℕ) → n ≡ 0 + n
    zero_is n = omega arith

take_next : {X : Type 0} (xs : List X) (i : ℕ) (x : X) → slice_get xs i ≡ Some x
    → take (suc i) xs ≡ take i xs ++ x ∷ []
take_next [] i x e = absurd (cc)
take_next (y ∷ ys) zero x e = let same : Some y ≡ Some x = e in cc
take_next (y ∷ ys) (suc i) x e = ap (λ l. y ∷ l) (take_next ys i x e)

pub seen_at : {X Z : Type 0} (f : X → Z) (xs : List X) (i : ℕ) (x : X) (d : Z) → i < length xs
    → x ≡ get_or xs i x → get_or (map f xs) i d ≡ f x
seen_at f [] i x d h e = absurd (omega arith)
seen_at f (y ∷ ys) zero x d h e = ap f (sym e)
seen_at f (y ∷ ys) (suc i) x d h e = seen_at f ys i x d (omega arith) e

pub all_at : {X : Type 0} (P : X → Type 0) (xs : List X) (i : ℕ) (x : X) → AllByRecursion P xs
    → slice_get xs i ≡ Some x → P x
all_at P [] i x h e = absurd (cc)
all_at P (y ∷ ys) zero x h e =
    let same : y ≡ x = (let both : Some y ≡ Some x = e in cc) in subst P same h.0
all_at P (y ∷ ys) (suc i) x h e = all_at P ys i x h.1 e

pub taken_more : {X : Type 0} (xs : List X) (i : ℕ) (x : X) (new old : List X) (z : X)
    → new ≡ old ++ z ∷ [] → old ≡ take i xs → slice_get xs i ≡ Some x → z ≡ x
    → new ≡ take (i + 1) xs
taken_more xs i x new old z a b g h =
    a ∙ ap (λ l. l ++ z ∷ []) b ∙ ap (λ w. take i xs ++ w ∷ []) h
    ∙ sym (take_next xs i x g) ∙ ap (λ n. take n xs) (sym (add-one i))

pub take_full : {X : Type 0} (xs : List X) (n : ℕ) → length xs ≤ n → take n xs ≡ xs
take_full [] zero h = refl
take_full [] (suc n) h = refl
take_full (x ∷ xs) zero h = absurd (omega arith)
take_full (x ∷ xs) (suc n) h = ap (λ l. x ∷ l) (take_full xs n (omega arith))

pub get_at : {X : Type 0} (xs : List X) (i : ℕ) (x : X) → i < length xs → x ≡ get_or xs i x
    → slice_get xs i ≡ Some x
get_at [] i x h e = absurd (omega arith)
get_at (y ∷ ys) zero x h e = ap Some (sym e)
get_at (y ∷ ys) (suc i) x h e = get_at ys i x (omega arith) e

pub seen_get : {X Z : Type 0} (f : X → Z) (xs : List X) (i : ℕ) (x : X) (d : Z)
    → slice_get xs i ≡ Some x → get_or (map f xs) i d ≡ f x
seen_get f [] i x d e = absurd (cc)
seen_get f (y ∷ ys) zero x d e =
    let same : Some y ≡ Some x = e in let it : y ≡ x = cc in ap f it
seen_get f (y ∷ ys) (suc i) x d e = seen_get f ys i x d e

pub within_at : {X : Type 0} (xs : List X) (i : ℕ) (x : X) → slice_get xs i ≡ Some x
    → i < length xs
within_at [] i x e = absurd (cc)
within_at (y ∷ ys) zero x e = omega arith
within_at (y ∷ ys) (suc i) x e = let h = within_at ys i x e in omega (arith, h)

pub some_at : {X : Type 0} (xs : List X) (i : ℕ) → i < length xs
    → (x : X) × (slice_get xs i ≡ Some x)
some_at [] i h = absurd (omega arith)
some_at (x ∷ xs) zero h = (x, refl)
some_at (x ∷ xs) (suc i) h = some_at xs i (omega arith)

pub none_more : {X : Type 0} (xs : List (Option X)) (k : ℕ)
    → ((j : ℕ) → get_or xs j None ≡ None) → get_or (xs ++ None ∷ []) k None ≡ None
none_more [] zero h = refl
none_more [] (suc k) h = refl
none_more (x ∷ xs) zero h = h 0
none_more (x ∷ xs) (suc k) h = none_more xs k (λ j. h (suc j))

pub mapped_next : {X Z : Type 0} (f : X → Z) (xs : List X) (i : ℕ) (x : X) → i < length xs
    → x ≡ get_or xs i x → map f (take (i + 1) xs) ≡ map f (take i xs) ++ f x ∷ []
mapped_next f xs i x h e =
    ap (λ n. map f (take n xs)) (add-one i)
    ∙ ap (map f) (take_next xs i x (get_at xs i x h e)) ∙ map_push f (take i xs) x
