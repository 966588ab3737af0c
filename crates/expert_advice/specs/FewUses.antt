-- Flags are as few as 32 bits number.
use Rattle.std.specs.Prelude.{◌<◌, ◌^◌, length}
use Rattle.expert_advice.specs.declared.uses.Uses.TheInside.{Inside}

abbrev pub AreFew : Inside → Type 0
AreFew uses = length uses.flags.items < 2 ^ 32
