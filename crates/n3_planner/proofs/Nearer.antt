-- The nearest of some prefixes, or one that weighs less.
use Rattle.std.proofs.Common.{◌≡◌, ◌<◌, ◌≤◌, ℕ, Bool, true, false, cond, nat_lt, List, [], ◌∷◌}
use Rattle.std.proofs.Common.{sym, subst, arith, length, get_or, pos}
use Rattle.std.specs.Borrow.{Bor}
use Rattle.plan_choice.specs.Settings.{Setting}
use Rattle.plan_choice.specs.Prefixes.{Prefix as Plain, weight}
use Rattle.plan_choice.specs.Choice.{nearest_or}
use Rattle.nearest_prefixes.specs.Growing.{AllShow, Shows}
use Rattle.nearest_prefixes.specs.declared.prefix.Prefix.{Prefix, out-Prefix}
use Rattle.n3_planner.proofs.ShownPrefixes.{shown_weight}

pub none_nearer : (s : Setting) (kept : List Plain) (w : Plain) (xs : List (Bor Prefix))
    (y : Prefix) → length xs < 1 → AllShow s kept xs → Shows s w y → Shows s (nearest_or kept w) y
none_nearer s [] w xs y none all shown = shown
none_nearer s (p ∷ ps) w [] y none all shown = absurd all
none_nearer s (p ∷ ps) w (x ∷ xs) y none all shown = absurd (omega (arith, none))

either : (s : Setting) (p w : Plain) (x y : Prefix) (b : Bool) → Shows s p x → Shows s w y
    → Shows s (cond b w p) (cond b y x)
either s p w x y true h k = k
either s p w x y false h k = h

pub first_nearer : (s : Setting) (kept : List Plain) (w : Plain) (xs : List (Bor Prefix))
    (first : Bor Prefix) (y : Prefix) (lighter : Bool)
    → 1 ≤ length xs → first ≡ get_or xs 0 first
    → ((n m : ℕ) → (out-Prefix y).weight ≡ pos n → (out-Prefix first.now).weight ≡ pos m
    → lighter ≡ nat_lt n m)
    → AllShow s kept xs → Shows s w y → Shows s (nearest_or kept w) (cond lighter y first.now)
first_nearer s kept w [] first y lighter some is less all shown = absurd (omega (arith, some))
first_nearer s [] w (x ∷ xs) first y lighter some is less all shown = absurd all
first_nearer s (p ∷ ps) w (x ∷ xs) first y lighter some is less all shown =
    let there : Shows s p first.now = subst (λ (z : Bor Prefix). Shows s p z.now) (sym is) all.0 in
    subst (λ b. Shows s (cond b w p) (cond lighter y first.now))
    (less (weight w) (weight p) (shown_weight s w y shown) (shown_weight s p first.now there))
    (either s p w first.now y lighter there shown)
