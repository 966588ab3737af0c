use Rattle.access_paths.specs.Settings.{setting_of}
use Rattle.n3_planner.proofs.planning.best_prefix.Goals as goal

pub returns : goal.returns
returns c =
    c.nearer.ensures (setting_of c.args.setting.now) c.in_ok-level.ensures.each c.requires.written
