use Rattle.std.proofs.Common.{◌∙◌, ap, sym}
use Rattle.plan_form.specs.Paths.{path_of}
use Rattle.plan_form.specs.Seeks.{walked_paths}
use Rattle.plan_form.proofs.SeenPaths.{path_of-Union}
use Rattle.plan_form.proofs.Forms.{paths_listed}
use Rattle.plan_form.proofs.path_rows.walked_paths.Goals as goal

pub returns-in-Union : goal.returns-in-Union
returns-in-Union c =
    sym (ap walked_paths (ap path_of c.in-Union.is ∙ path_of-Union c.in-Union.paths)
    ∙ paths_listed c.in-Union.paths.branches.now)
