use Rattle.sql_names.proofs.Sound.{bound_sound}
use Rattle.sql_names.proofs.binding.bound_is_sound.Goals as goal

pub returns : goal.returns
returns c = bound_sound
