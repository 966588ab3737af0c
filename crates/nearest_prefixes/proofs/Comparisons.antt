-- Lists that are compared from their ends on, and numbers of either kind.
use Rattle.std.specs.Ordering.{nat_cmp, int_cmp, ordering_then}
use Rattle.std.specs.Cmp.Lexicographic.{slice_cmp}
use Rattle.std.specs.List.{flat_map}
use Rattle.std.specs.declared.cmp.Ordering.{Ordering}
use Rattle.std.specs.declared.cmp.Ordering.TheVariants.{Less, Equal, Greater}
use Rattle.std.proofs.Common.{◌≡◌, ℕ, Bool, true, false, cond, ◌==◌}
use Rattle.std.proofs.Common.{nat_lt, List, [], ◌∷◌, ◌++◌, length, map, refl, sym, ap, ◌∙◌}
use Rattle.std.proofs.Common.{pos, arith}
use Rattle.std.proofs.lemmas.Bool.{ltb-true, ltb-false, eqb-true, eq-eqb}
use Rattle.std.proofs.lemmas.List.{length-append}
use Rattle.list_laws.proofs.Turns.{flat_push}

pub then_assoc : (a b c : Ordering) → ordering_then (ordering_then a b) c
    ≡ ordering_then a (ordering_then b c)
then_assoc Less b c = refl
then_assoc Equal b c = refl
then_assoc Greater b c = refl

-- fronts of one length are compared first
cmp_fronts : {X : Type 0} (R : X → X → Ordering) (xs us ys vs : List X) → length xs ≡ length us
    → slice_cmp R (xs ++ ys) (us ++ vs) ≡ ordering_then (slice_cmp R xs us) (slice_cmp R ys vs)
cmp_fronts R [] [] ys vs e = refl
cmp_fronts R [] (u ∷ us) ys vs e = absurd (omega (arith, e))
cmp_fronts R (x ∷ xs) [] ys vs e = absurd (omega (arith, e))
cmp_fronts R (x ∷ xs) (u ∷ us) ys vs e =
    ap (ordering_then (R x u)) (cmp_fronts R xs us ys vs (omega (arith, e)))
    ∙ sym (then_assoc (R x u) (slice_cmp R xs us) (slice_cmp R ys vs))

-- members that give as many each
parts_length : {X : Type 0} (f : X → List ℕ) (size : ℕ) → ((x : X) → length (f x) ≡ size)
    → (xs us : List X) → length xs ≡ length us → length (flat_map f xs) ≡ length (flat_map f us)
parts_length f size h [] [] e = refl
parts_length f size h [] (u ∷ us) e = absurd (omega (arith, e))
parts_length f size h (x ∷ xs) [] e = absurd (omega (arith, e))
parts_length f size h (x ∷ xs) (u ∷ us) e =
    let rest = parts_length f size h xs us (omega (arith, e)) in
    let left = length-append (f x) (flat_map f xs) in
    let right = length-append (f u) (flat_map f us) in
    omega (arith, rest, left, right, h x, h u)

-- lists of one length are compared before what stands behind them
pub cmp_push : {X : Type 0} (f : X → List ℕ) (size : ℕ) → ((x : X) → length (f x) ≡ size)
    → (xs us : List X) (x u : X) → length xs ≡ length us
    → slice_cmp nat_cmp (flat_map f (xs ++ x ∷ [])) (flat_map f (us ++ u ∷ []))
    ≡ ordering_then (slice_cmp nat_cmp (flat_map f xs) (flat_map f us))
    (slice_cmp nat_cmp (f x) (f u))
cmp_push f size h xs us x u e =
    ap (λ ns. slice_cmp nat_cmp ns (flat_map f (us ++ u ∷ []))) (flat_push f xs x)
    ∙ ap (slice_cmp nat_cmp (flat_map f xs ++ f x)) (flat_push f us u)
    ∙ cmp_fronts nat_cmp (flat_map f xs) (flat_map f us) (f x) (f u) (parts_length f size h xs us e)

pub flat_map_mapped : {X Y Z : Type 0} (f : Y → List Z) (g : X → Y) (xs : List X)
    → flat_map f (map g xs) ≡ flat_map (λ x. f (g x)) xs
flat_map_mapped f g [] = refl
flat_map_mapped f g (x ∷ xs) = ap (λ zs. f (g x) ++ zs) (flat_map_mapped f g xs)

number_case : (a b : ℕ) (l e g : Bool) → nat_lt a b ≡ l → (a == b) ≡ e → nat_lt b a ≡ g
    → cond l Less (cond g Greater Equal) ≡ cond l Less (cond e Equal Greater)
number_case a b true e g h i j = refl
number_case a b false true true h i j =
    let same = eqb-true a b i in
    let above = ltb-true b a j in absurd (omega (arith, same, above))
number_case a b false true false h i j = refl
number_case a b false false true h i j = refl
number_case a b false false false h i j =
    let low = ltb-false a b h in
    let high = ltb-false b a j in
    let same : a ≡ b = omega (arith, low, high) in
    absurd (let yes : (a == b) ≡ true = eq-eqb a b same in cc)

pub cmp_natural : (a b : ℕ) → int_cmp (pos a) (pos b) ≡ nat_cmp a b
cmp_natural a b = number_case a b (nat_lt a b) (a == b) (nat_lt b a) refl refl refl
