use Rattle.plan_form.proofs.Scanning.{table_scans_mean}
use Rattle.plan_form.proofs.scans.table_scans_mean.Goals as goal

pub returns : goal.returns
returns c = table_scans_mean
