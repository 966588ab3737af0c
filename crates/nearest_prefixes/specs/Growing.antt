-- How prefixes grow, loop by loop, and what it is that one of the code shows one that is defined.
use Rattle.std.specs.Prelude.{◌≡◌, ◌<◌, ℕ, zero, suc, true, List, [], ◌∷◌, length, slice_get}
use Rattle.std.specs.Prelude.{Option, Some, None}
use Rattle.std.specs.Borrow.{Bor}
use Rattle.std.specs.List.{AllByRecursion}
use Rattle.sql_bound.specs.Naming.{IsPlaced}
use Rattle.plan_choice.specs.Settings.{Setting}
use Rattle.plan_choice.specs.Prefixes as meant
use Rattle.nearest_prefixes.specs.Prefixes.{SeenLoop, told_loop, seen_prefix, told_prefix}
use Rattle.nearest_prefixes.specs.declared.prefix.Prefix.{Prefix, out-Prefix}
use Rattle.nearest_prefixes.specs.declared.level.Level.{Level}

-- the loop may come next: its item may, and it goes by the item's offer of its number
pub record Follows (s : Setting) (p : meant.Prefix) (t : meant.OfferedLoop) : Type 0 where
  pub comes : meant.may_come s.bound (meant.placed_in p) t.item ≡ true
  pub item : t.item < length s.bound.items
  pub offered : slice_get (meant.offered_loops s (meant.placed_in p) t.item) t.number ≡ Some t

-- reached from the empty prefix by so many loops, each of which may come next
abbrev pub IsReached : Setting → ℕ → meant.Prefix → Type 0
IsReached s zero p = p ≡ meant.empty_prefix s
IsReached s (suc count) p =
    (q : meant.Prefix) × (t : meant.OfferedLoop) × IsReached s count q × Follows s q t
    × (p ≡ meant.extended s q t)

-- a prefix of the code shows a reached one
pub record Shows (s : Setting) (p : meant.Prefix) (x : Prefix) : Type 0 where
  pub seen : seen_prefix x ≡ told_prefix p
  pub placed : IsPlaced (out-Prefix x).placed (meant.placed_in p)
  pub reached : IsReached s (length p.loops) p

-- one that may be the empty one, which no prefix of the code is
abbrev pub Begins : Setting → meant.Prefix → Option (Bor Prefix) → Type 0
Begins s p None = p ≡ meant.empty_prefix s
Begins s p (Some x) = Shows s p x.now

-- the loop may come next behind what is shown
pub record Stands (s : Setting) (before : Option (Bor Prefix)) (loop : SeenLoop) : Type 0 where
  pub prefix : meant.Prefix
  pub next : meant.OfferedLoop
  pub begins : Begins s prefix before
  pub follows : Follows s prefix next
  pub told : told_loop next ≡ loop

-- whatever is shown, and whichever loop that may come next: the result shows the prefix with it
abbrev pub Grows : Setting → Option (Bor Prefix) → SeenLoop → Prefix → Type 0
Grows s before loop x =
    (p : meant.Prefix) (t : meant.OfferedLoop) → Begins s p before → Follows s p t
    → told_loop t ≡ loop → Shows s (meant.extended s p t) x

-- each shows its one
abbrev pub AllShow : Setting → List meant.Prefix → List (Bor Prefix) → Type 0
AllShow s [] [] = Unit {0}
AllShow s [] (x ∷ xs) = ⊥
AllShow s (p ∷ ps) [] = ⊥
AllShow s (p ∷ ps) (x ∷ xs) = Shows s p x.now × AllShow s ps xs

-- the prefixes of a level show these, of so many loops each
pub record IsLevel (s : Setting) (count : ℕ) (level : Level) (kept : List meant.Prefix) : Type 0
  where
    pub each : AllShow s kept level.kept.now
    pub size : AllByRecursion (λ p. length p.loops ≡ count) kept

-- the level is one of the search's
pub record StandsIn (s : Setting) (level : Level) : Type 0 where
  pub count : ℕ
  pub kept : List meant.Prefix
  pub is : IsLevel s count level kept
