-- Flags that show which candidates plans use.
use Rattle.std.specs.Prelude.{◌≡◌, ◌<◌, ◌+◌, ℕ, Bool, false, ◌||◌, List, length, slice_index_or}
use Rattle.plan_choice.specs.Choice.{Chosen}
use Rattle.plan_choice.specs.Advice.{some_plan_uses}

-- for each of `count` candidates behind `own` indexes, whether some of the plans uses it
pub record ShowUse (flags : List Bool) (own count : ℕ) (plans : List Chosen) : Type 0 where
  pub each : length flags ≡ count
  pub exact : (n : ℕ) → n < count
      → slice_index_or flags n false ≡ some_plan_uses (own + n) plans

-- the flags of some numbers are set, and no others are changed
pub record Marks (old new : List Bool) (marked : ℕ → Bool) : Type 0 where
  pub each : length new ≡ length old
  pub exact : (n : ℕ) → n < length old
      → slice_index_or new n false ≡ slice_index_or old n false || marked n
