-- Checks that are made in order, and what a call answers that makes them.
use Rattle.std.specs.Prelude.{◌≡◌, Option, None, Some, Result, Ok, Err, List, [], ◌∷◌}
use Rattle.sql_names.specs.declared.faults.BindFault.{BindFault}
use Rattle.sql_names.specs.declared.faults.BindFault.TheVariants.{Memory}

-- the fault of the first check that fails; a check that passes is None
abbrev pub first_failing : List (Option BindFault) → Option BindFault
first_failing [] = None
first_failing (None ∷ checks) = first_failing checks
first_failing (Some fault ∷ checks) = Some fault

-- where each check passes, what is meant; else the fault of the first that fails, or want of memory
abbrev pub Answers : {X Y : Type 0} → (X → Y) → Result X BindFault → List (Option BindFault) → Y
    → Type 0
Answers view (Ok x) checks meant = (first_failing checks ≡ None) × (view x ≡ meant)
Answers view (Err fault) checks meant = (fault ≡ Memory → ⊥) → first_failing checks ≡ Some fault
