use Rattle.std.proofs.Common.{◌∙◌, map}
use Rattle.sql_value.specs.View.{plain_value}
use Rattle.bound_rows.proofs.Numbers.{param_above}
use Rattle.bound_rows.proofs.cuts.param_at.Goals as goal

pub returns : goal.returns
returns c =
    c.value_at.ensures
    ∙ param_above (map plain_value c.args.params.now) c.args.number c.if-number-eq0.false
