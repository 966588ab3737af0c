-- An item that comes next in the plan as it is written.
use Rattle.std.specs.Prelude.{◌≡◌, ◌<◌, ℕ, true, length, Option}
use Rattle.std.specs.Borrow.{Bor}
use Rattle.plan_choice.specs.Settings.{Setting}
use Rattle.plan_choice.specs.Prefixes as meant
use Rattle.nearest_prefixes.specs.Growing.{Begins}
use Rattle.nearest_prefixes.specs.declared.prefix.Prefix.{Prefix}

-- it may come next behind what is shown
pub record Comes (s : Setting) (before : Option (Bor Prefix)) (item : ℕ) : Type 0 where
  pub below : item < length s.bound.items
  pub prefix : meant.Prefix
  pub begins : Begins s prefix before
  pub comes : meant.may_come s.bound (meant.placed_in prefix) item ≡ true
