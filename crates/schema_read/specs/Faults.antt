-- Why a dump isn't read.
use Rattle.std.specs.Prelude.{◌≡◌}
use Rattle.schema_read.specs.declared.dump.ReadDumpFault.{ReadDumpFault}
use Rattle.schema_read.specs.declared.dump.ReadDumpFault.TheVariants.{Memory}

abbrev pub IsMemory : ReadDumpFault → Type 0
IsMemory fault = fault ≡ Memory
