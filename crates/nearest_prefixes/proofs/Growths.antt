-- What is kept offer by offer, item by item and prefix by prefix.
use Rattle.std.specs.List.{flat_map}
use Rattle.std.proofs.Common.{◌≡◌, ℕ, zero, suc, ◌+◌, List, [], ◌∷◌, ◌++◌, length, map, take, drop}
use Rattle.std.proofs.Common.{refl, sym, ap, ◌∙◌, arith, add-one}
use Rattle.std.proofs.lemmas.List.Sums.{fold-append}
use Rattle.std.proofs.lemmas.List.{map-append}
use Rattle.list_laws.proofs.Permuted.{flat_map-filter}
use Rattle.list_laws.proofs.Turns.{flat_push}
use Rattle.sql_meaning.specs.Statements.{numbers_from}
use Rattle.plan_choice.specs.Settings.{Setting}
use Rattle.plan_choice.specs.Prefixes.{OfferedLoop, Prefix, extended, extensions, placed_in}
use Rattle.plan_choice.specs.Prefixes.{may_come}
use Rattle.plan_choice.specs.Choice.{nearer}
use Rattle.nearest_prefixes.specs.Keeping.{joined}
use Rattle.nearest_prefixes.specs.Entering.{alike}
use Rattle.nearest_prefixes.specs.Searching.{by_offers, by_item, kept_with}

numbers_more : (start n : ℕ) → numbers_from start (suc n) ≡ numbers_from start n ++ (start + n) ∷ []
numbers_more start zero = let e : start + 0 ≡ start = omega arith in rw e refl
numbers_more start (suc n) =
    let e : (start + 1) + n ≡ start + suc n = omega arith in
    ap (λ l. start ∷ l) (numbers_more (start + 1) n ∙ rw e refl)

pub numbers_end : (n : ℕ) → numbers_from 0 (n + 1) ≡ numbers_from 0 n ++ n ∷ []
numbers_end n =
    let e : n + 1 ≡ suc n = omega arith in
    let f : 0 + n ≡ n = omega arith in
    ap (numbers_from 0) e ∙ numbers_more 0 n ∙ ap (λ m. numbers_from 0 n ++ m ∷ []) f

taken_next : {X : Type 0} (n : ℕ) (xs : List X) (x : X) → drop n xs ≡ x ∷ drop (suc n) xs
    → take (suc n) xs ≡ take n xs ++ x ∷ []
taken_next zero [] x e = absurd (let none : [] ≡ x ∷ [] = e in cc)
taken_next (suc n) [] x e = absurd (let none : [] ≡ x ∷ [] = e in cc)
taken_next zero (y ∷ ys) x e = let both : y ∷ ys ≡ x ∷ ys = e in cc
taken_next (suc n) (y ∷ ys) x e = ap (λ zs. y ∷ zs) (taken_next n ys x e)

taken_more : {X : Type 0} (n : ℕ) (xs : List X) (x : X) → drop n xs ≡ x ∷ drop (n + 1) xs
    → take (n + 1) xs ≡ take n xs ++ x ∷ []
taken_more n xs x e =
    ap (λ m. take m xs) (add-one n)
    ∙ taken_next n xs x (e ∙ ap (λ m. x ∷ drop m xs) (add-one n))

-- with the extension by one offer more
pub offer_more : (s : Setting) (p : Prefix) (most n : ℕ) (kept : List Prefix)
    (ts : List OfferedLoop) (t : OfferedLoop) → drop n ts ≡ t ∷ drop (n + 1) ts
    → joined most (alike s) (nearer s) (kept_with s most kept (map (extended s p) (take n ts)))
    (extended s p t)
    ≡ kept_with s most kept (map (extended s p) (take (n + 1) ts))
offer_more s p most n kept ts t e =
    sym (fold-append _ kept (map (extended s p) (take n ts)) (extended s p t ∷ []))
    ∙ ap (kept_with s most kept)
    (sym (map-append (extended s p) (take n ts) (t ∷ []))
    ∙ ap (map (extended s p)) (sym (taken_more n ts t e)))

-- with the extensions by one item more
pub item_more : (s : Setting) (p : Prefix) (most n : ℕ) (kept : List Prefix)
    → kept_with s most (kept_with s most kept (flat_map (by_item s p) (numbers_from 0 n)))
    (by_item s p n)
    ≡ kept_with s most kept (flat_map (by_item s p) (numbers_from 0 (n + 1)))
item_more s p most n kept =
    sym (fold-append _ kept (flat_map (by_item s p) (numbers_from 0 n)) (by_item s p n))
    ∙ ap (kept_with s most kept)
    (sym (flat_push (by_item s p) (numbers_from 0 n) n)
    ∙ ap (flat_map (by_item s p)) (sym (numbers_end n)))

pub by_all_items : (s : Setting) (p : Prefix)
    → flat_map (by_item s p) (numbers_from 0 (length s.bound.items)) ≡ extensions s p
by_all_items s p =
    sym
    (flat_map-filter (by_offers s p) (may_come s.bound (placed_in p))
    (numbers_from 0 (length s.bound.items)))

-- with the extensions of one prefix more
pub prefix_more : (s : Setting) (most n : ℕ) (kept ps : List Prefix) (p : Prefix)
    → drop n ps ≡ p ∷ drop (n + 1) ps
    → kept_with s most (kept_with s most kept (flat_map (extensions s) (take n ps)))
    (extensions s p)
    ≡ kept_with s most kept (flat_map (extensions s) (take (n + 1) ps))
prefix_more s most n kept ps p e =
    sym (fold-append _ kept (flat_map (extensions s) (take n ps)) (extensions s p))
    ∙ ap (kept_with s most kept)
    (sym (flat_push (extensions s) (take n ps) p)
    ∙ ap (flat_map (extensions s)) (sym (taken_more n ps p e)))
