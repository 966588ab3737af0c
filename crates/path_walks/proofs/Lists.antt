-- Lists that grow with a loop.
use Rattle.std.proofs.Common.{◌≡◌, ℕ, zero, suc, ◌+◌, ◌<◌, List, [], ◌∷◌, ◌++◌, length, map, get_or}
use Rattle.std.proofs.Common.{take, ap, sym, ◌∙◌, append_assoc, subst, arith}
use Rattle.std.specs.List.{AllByRecursion, flat_map}
use Rattle.std.proofs.lemmas.List.{map_push, take_more}
use Rattle.list_laws.proofs.Turns.{flat_push}

next_taken : {X : Type 0} (xs : List X) (i : ℕ) (x : X) → i < length xs → x ≡ get_or xs i x
    → take (i + 1) xs ≡ take i xs ++ x ∷ []
next_taken xs i x h e = take_more xs i x h ∙ ap (λ y. take i xs ++ y ∷ []) (sym e)

-- what all have, a member has
pub item_has : {X Y : Type 0} (P : Y → Type 0) (seen : X → Y) (xs : List X) (i : ℕ) (x : X)
    → AllByRecursion P (map seen xs) → i < length xs → x ≡ get_or xs i x → P (seen x)
item_has P seen [] i x h lt e = absurd (omega (arith, lt))
item_has P seen (y ∷ ys) zero x h lt e = subst (λ z. P (seen z)) (sym e) h.0
item_has P seen (y ∷ ys) (suc i) x h lt e = item_has P seen ys i x h.1 (omega (arith, lt)) e

-- one more at the end of a list that is seen
pub seen_more : {X Y Z : Type 0} (seen : Y → Z) (f : X → Z) (xs : List X) (i : ℕ) (x : X)
    (new old : List Y) (y : Y) (start : List Z)
    → new ≡ old ++ y ∷ [] → map seen old ≡ start ++ map f (take i xs) → i < length xs
    → x ≡ get_or xs i x → seen y ≡ f x → map seen new ≡ start ++ map f (take (i + 1) xs)
seen_more seen f xs i x new old y start a b h e k =
    ap (map seen) a ∙ map_push seen old y ∙ ap (λ l. l ++ seen y ∷ []) b
    ∙ append_assoc start (map f (take i xs)) (seen y ∷ [])
    ∙ ap (λ z. start ++ (map f (take i xs) ++ z ∷ [])) k
    ∙ ap (λ l. start ++ l) (sym (map_push f (take i xs) x))
    ∙ ap (λ l. start ++ map f l) (sym (next_taken xs i x h e))

-- more at the end, for each member that was gone through
pub flat_more : {X Y Z : Type 0} (seen : X → Y) (f : Y → List Z) (xs : List X) (i : ℕ) (x : X)
    (new old : List Z)
    → new ≡ old ++ f (seen x) → old ≡ flat_map f (map seen (take i xs)) → i < length xs
    → x ≡ get_or xs i x → new ≡ flat_map f (map seen (take (i + 1) xs))
flat_more seen f xs i x new old a b h e =
    a ∙ ap (λ l. l ++ f (seen x)) b ∙ sym (flat_push f (map seen (take i xs)) (seen x))
    ∙ ap (flat_map f) (sym (map_push seen (take i xs) x))
    ∙ ap (λ l. flat_map f (map seen l)) (sym (next_taken xs i x h e))
