-- Why a file isn't read.
use Rattle.std.specs.Prelude.{◌≡◌}
use Rattle.expert_io.specs.declared.shelf.ReadFault.{ReadFault}
use Rattle.expert_io.specs.declared.shelf.ReadFault.TheVariants.{Memory}

abbrev pub IsMemory : ReadFault → Type 0
IsMemory fault = fault ≡ Memory
