-- Lists of prefixes that show others, one by one.
use Rattle.std.specs.Borrow.{Bor}
use Rattle.std.specs.List.{AllByRecursion, insert, remove}
use Rattle.std.proofs.Common.{◌≡◌, ◌<◌, ℕ, zero, suc, ◌+◌, List, [], ◌∷◌, ◌++◌, length, refl, sym}
use Rattle.std.proofs.Common.{ap, ◌∙◌, subst, take, drop, get_or, add-one, arith}
use Rattle.list_laws.proofs.Lists.{all_drop}
use Rattle.plan_choice.specs.Settings.{Setting}
use Rattle.plan_choice.specs.Prefixes as meant
use Rattle.nearest_prefixes.specs.declared.prefix.Prefix.{Prefix}
use Rattle.nearest_prefixes.specs.Growing.{Shows, AllShow}

pub shown_length : (s : Setting) (ps : List meant.Prefix) (xs : List (Bor Prefix))
    → AllShow s ps xs → length ps ≡ length xs
shown_length s [] [] h = refl
shown_length s [] (x ∷ xs) h = absurd h
shown_length s (p ∷ ps) [] h = absurd h
shown_length s (p ∷ ps) (x ∷ xs) h = ap suc (shown_length s ps xs h.1)

pub shown_take : (s : Setting) (n : ℕ) (ps : List meant.Prefix) (xs : List (Bor Prefix))
    → AllShow s ps xs → AllShow s (take n ps) (take n xs)
shown_take s zero ps xs h = tt
shown_take s (suc n) [] [] h = tt
shown_take s (suc n) [] (x ∷ xs) h = absurd h
shown_take s (suc n) (p ∷ ps) [] h = absurd h
shown_take s (suc n) (p ∷ ps) (x ∷ xs) h = (h.0, shown_take s n ps xs h.1)

pub shown_drop : (s : Setting) (n : ℕ) (ps : List meant.Prefix) (xs : List (Bor Prefix))
    → AllShow s ps xs → AllShow s (drop n ps) (drop n xs)
shown_drop s zero ps xs h = h
shown_drop s (suc n) [] [] h = tt
shown_drop s (suc n) [] (x ∷ xs) h = absurd h
shown_drop s (suc n) (p ∷ ps) [] h = absurd h
shown_drop s (suc n) (p ∷ ps) (x ∷ xs) h = shown_drop s n ps xs h.1

pub shown_append : (s : Setting) (ps qs : List meant.Prefix) (xs ys : List (Bor Prefix))
    → AllShow s ps xs → AllShow s qs ys → AllShow s (ps ++ qs) (xs ++ ys)
shown_append s [] qs [] ys h k = k
shown_append s [] qs (x ∷ xs) ys h k = absurd h
shown_append s (p ∷ ps) qs [] ys h k = absurd h
shown_append s (p ∷ ps) qs (x ∷ xs) ys h k = (h.0, shown_append s ps qs xs ys h.1 k)

pub shown_insert : (s : Setting) (n : ℕ) (ps : List meant.Prefix) (xs : List (Bor Prefix))
    (p : meant.Prefix) (x : Bor Prefix) → AllShow s ps xs → Shows s p x.now
    → AllShow s (insert ps n p) (insert xs n x)
shown_insert s n ps xs p x h k =
    shown_append s (take n ps) (p ∷ drop n ps) (take n xs) (x ∷ drop n xs)
    (shown_take s n ps xs h) (k, shown_drop s n ps xs h)

pub shown_remove : (s : Setting) (n : ℕ) (ps : List meant.Prefix) (xs : List (Bor Prefix))
    → AllShow s ps xs → AllShow s (remove ps n) (remove xs n)
shown_remove s n ps xs h =
    shown_append s (take n ps) (drop (suc n) ps) (take n xs) (drop (suc n) xs)
    (shown_take s n ps xs h) (shown_drop s (suc n) ps xs h)

-- what stands at a place, and what it shows
pub record ShownAt (s : Setting) (ps : List meant.Prefix) (n : ℕ) (x : Prefix) : Type 0 where
  pub prefix : meant.Prefix
  pub shows : Shows s prefix x
  pub rest : drop n ps ≡ prefix ∷ drop (n + 1) ps

at_place : (s : Setting) (ps : List meant.Prefix) (xs : List (Bor Prefix)) (n : ℕ) (d : Bor Prefix)
    → AllShow s ps xs → n < length xs
    → (p : meant.Prefix) × Shows s p (get_or xs n d).now × (drop n ps ≡ p ∷ drop (suc n) ps)
at_place s [] [] n d h l = absurd (omega (arith, l))
at_place s [] (x ∷ xs) n d h l = absurd h
at_place s (p ∷ ps) [] n d h l = absurd h
at_place s (p ∷ ps) (x ∷ xs) zero d h l = (p, h.0, refl)
at_place s (p ∷ ps) (x ∷ xs) (suc n) d h l = at_place s ps xs n d h.1 (omega (arith, l))

pub shown_at : (s : Setting) (ps : List meant.Prefix) (xs : List (Bor Prefix)) (n : ℕ)
    (x : Bor Prefix) → AllShow s ps xs → n < length xs → x ≡ get_or xs n x
    → ShownAt s ps n x.now
shown_at s ps xs n x h l e =
    let found = at_place s ps xs n x h l in
    record {
      prefix = found.0;
      shows = subst (λ (y : Bor Prefix). Shows s found.0 y.now) (sym e) found.1;
      rest = found.2 ∙ ap (λ (m : ℕ). found.0 ∷ drop m ps) (sym (add-one n));
    }

-- it has as many loops as all
pub size_at : (count : ℕ) (ps : List meant.Prefix) (n : ℕ) (p : meant.Prefix)
    → AllByRecursion (λ q. length q.loops ≡ count) ps → drop n ps ≡ p ∷ drop (n + 1) ps
    → length p.loops ≡ count
size_at count ps n p h e =
    (subst (AllByRecursion (λ (q : meant.Prefix). length q.loops ≡ count)) e
    (all_drop (λ (q : meant.Prefix). length q.loops ≡ count) n ps h)).0
