-- Costs are natural numbers where they are defined, and machine integers in the code: how such a
-- one tells what is defined, and what a shape is seen as.
use Rattle.std.specs.Prelude.{◌≡◌, ◌≤◌, ℕ, pos}
use Rattle.plan_choice.specs.Costs as meant
use Rattle.path_costs.specs.declared.cost.Shape.{Shape}
use Rattle.path_costs.specs.declared.cost.Shape.TheVariants as shape
use Rattle.path_costs.specs.declared.cost.Cost.{Cost}
use Rattle.path_costs.specs.declared.cost.Size.{Size}

abbrev pub shape_of : Shape → meant.Shape
shape_of shape.TableScan = meant.WholeTable
shape_of shape.CoveringScan = meant.CoveringScan
shape_of shape.PlainScan = meant.PlainScan
shape_of shape.Rowid = meant.ByRowid
shape_of shape.CoveringSeek = meant.CoveringSeek
shape_of shape.PlainSeek = meant.PlainSeek

abbrev pub told_cost : meant.Cost → Cost
told_cost c = record { run = pos c.run; rows = pos c.rows }

abbrev pub told_size : meant.Size → Size
told_size z = record { run = pos z.run; entries = pos z.entries }

-- the size tells numbers up to a limit
pub record IsTold (most : ℕ) (s : Size) : Type 0 where
  pub size : meant.Size
  pub told : s ≡ told_size size
  pub run : size.run ≤ most
  pub entries : size.entries ≤ most
