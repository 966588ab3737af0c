use Rattle.access_paths.specs.Settings.{setting_of}
use Rattle.nearest_prefixes.specs.Prefixes.{seen_loop}
use Rattle.nearest_prefixes.proofs.Standings.{own}
use Rattle.nearest_prefixes.proofs.Extensions.{light, path_fits}
use Rattle.nearest_prefixes.proofs.extending.extended.Goals as goal

pub inside-requires-clause-light : goal.inside-requires-clause-light
inside-requires-clause-light c =
    light (setting_of c.args.setting.now) c.args.before
    (seen_loop c.args.item c.args.number c.args.offer.now) c.outer_loops-outer.result
    (own c.args.setting.now c.requires.ready) c.figures_are_small.ensures
    c.requires.ready.fits.few_items c.requires.stands c.outer_loops-outer.ensures

pub inside-requires-clause-fits : goal.inside-requires-clause-fits
inside-requires-clause-fits c =
    path_fits (setting_of c.args.setting.now) c.args.before
    (seen_loop c.args.item c.args.number c.args.offer.now)
    (own c.args.setting.now c.requires.ready) c.requires.stands
