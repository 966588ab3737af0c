-- The plan as it is written, item by item.
use Rattle.std.proofs.Common.{◌≡◌, ◌<◌, ◌≤◌, ◌+◌, ◌-◌, ℕ, suc, true, List, [], ◌∷◌, length, map, refl}
use Rattle.std.proofs.Common.{sym, ap, ◌∙◌, subst, arith}
use Rattle.plan_choice.specs.Settings.{Setting}
use Rattle.plan_choice.specs.Prefixes.{Prefix, empty_prefix, may_come, placed_in}
use Rattle.plan_choice.specs.Choice.{written, written_from, written_step}
use Rattle.plan_choice.proofs.SoundPrefixes.{IsOwn, empty_is}
use Rattle.plan_choice.proofs.SoundLevels.{IsWritten, front_comes, none_placed, written_step_is}
use Rattle.nearest_prefixes.specs.Growing.{Shows}
use Rattle.nearest_prefixes.specs.declared.prefix.Prefix.{Prefix as Shown}

pub mapped_length : {X Y : Type 0} (f : X → Y) (xs : List X) → length (map f xs) ≡ length xs
mapped_length f [] = refl
mapped_length f (x ∷ xs) = ap suc (mapped_length f xs)

-- the prefix is that of the items before this one, and goes on to the whole plan
abbrev pub GoesOn : Setting → ℕ → Shown → Type 0
GoesOn s item x =
    (p : Prefix) × Shows s p x × IsWritten s item p
    × (written_from s p item (length s.bound.items - item) ≡ written s)

pub empty_written : (s : Setting) → IsWritten s 0 (empty_prefix s)
empty_written s = record { prefix = empty_is s; front = none_placed }

pub next_comes : (s : Setting) (item : ℕ) (p : Prefix) → IsWritten s item p
    → may_come s.bound (placed_in p) item ≡ true
next_comes s item p w = front_comes s.bound (placed_in p) item w.front

one_more : (s : Setting) (p : Prefix) (item : ℕ) → item < length s.bound.items
    → written_from s p item (length s.bound.items - item)
    ≡ written_from s (written_step s p item) (item + 1) (length s.bound.items - (item + 1))
one_more s p item below =
    let n : length s.bound.items - item ≡ suc (length s.bound.items - (item + 1)) =
    omega (arith, below) in
    ap (written_from s p item) n

pub goes_on : (s : Setting) (item : ℕ) (p : Prefix) (x : Shown) → IsOwn s → IsWritten s item p
    → item < length s.bound.items
    → written_from s p item (length s.bound.items - item) ≡ written s
    → Shows s (written_step s p item) x → GoesOn s (item + 1) x
goes_on s item p x own w below e shows = (
  written_step s p item,
  shows,
  written_step_is s p item own w below,
  sym (one_more s p item below) ∙ e,
)

pub starts : (s : Setting) (x : Shown) → IsOwn s → 0 < length s.bound.items
    → Shows s (written_step s (empty_prefix s) 0) x → GoesOn s 1 x
starts s x own some shows =
    let whole : length s.bound.items - 0 ≡ length s.bound.items = omega arith in
    goes_on s 0 (empty_prefix s) x own (empty_written s) some
    (ap (written_from s (empty_prefix s) 0) whole) shows

pub ends : (s : Setting) (item : ℕ) (x : Shown) → length s.bound.items ≤ item → GoesOn s item x
    → Shows s (written s) x
ends s item x far (p, shows, w, e) =
    let none : 0 ≡ length s.bound.items - item = omega (arith, far) in
    subst (λ (q : Prefix). Shows s q x) (ap (written_from s p item) none ∙ e) shows
