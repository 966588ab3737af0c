use Rattle.expert_advice.proofs.PlansThatFit.{has_text, paths_are_flat}
use Rattle.expert_advice.proofs.planned.told.Goals as goal

pub used_by-requires : goal.used_by-requires
used_by-requires c = paths_are_flat _ _ _ c.requires.fits

pub plan_text-requires : goal.plan_text-requires
plan_text-requires c = has_text _ _ _ c.requires.fits
