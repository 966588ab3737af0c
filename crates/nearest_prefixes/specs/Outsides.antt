-- What is known of the loops outside the next one.
use Rattle.std.specs.Prelude.{◌≡◌, ◌<◌, ◌≤◌, ℕ, ℤ, pos, length, Option}
use Rattle.std.specs.Borrow.{Bor}
use Rattle.sql_bound.specs.Naming.{IsPlaced}
use Rattle.plan_choice.specs.Settings.{Setting}
use Rattle.plan_choice.specs.Prefixes.{Prefix as Plain, placed_in}
use Rattle.loop_orders.specs.Walks.{state_of}
use Rattle.nearest_prefixes.specs.Prefixes.{SeenLoop}
use Rattle.nearest_prefixes.specs.Growing.{Begins}
use Rattle.nearest_prefixes.specs.declared.outside.Outside.{Outside}
use Rattle.nearest_prefixes.specs.declared.prefix.Prefix.{Prefix}

pub record IsOutside (p : Plain) (o : Outside) : Type 0 where
  pub placed : IsPlaced o.placed (placed_in p)
  pub length : o.length ≡ length p.loops
  pub cost : o.cost ≡ pos p.cost
  pub rows : o.rows ≡ pos p.rows
  pub state : state_of o.order ≡ p.state

-- of whatever is shown
abbrev pub TellsOutside : Setting → Option (Bor Prefix) → Outside → Type 0
TellsOutside s before o = (p : Plain) → Begins s p before → IsOutside p o

-- the number stands for a natural one, at most so great
pub record IsLog (most : ℕ) (z : ℤ) : Type 0 where
  pub number : ℕ
  pub is : z ≡ pos number
  pub few : number ≤ most

-- numbers so small that no sum of them passes 32 bits
pub record IsLight (o : Outside) (l : SeenLoop) : Type 0 where
  pub cost : IsLog 165060 o.cost
  pub rows : IsLog 64000 o.rows
  pub run : IsLog 100709 l.offer.cost.run
  pub more : IsLog 1000 l.offer.cost.rows
  pub length : o.length < 64
  pub item : l.item < 64
