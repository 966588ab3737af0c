use Rattle.std.proofs.Common.{◌<◌, ◌^◌, arith}
use Rattle.where_terms.specs.Kinds.{term_kind_of}
use Rattle.access_paths.specs.Placed.{items_in}
use Rattle.access_paths.proofs.Placed.{items_are_placed}
use Rattle.access_paths.proofs.UsableTerms.{usable_is}
use Rattle.access_paths.proofs.usable.is_usable.Goals as goal

pub returns : goal.returns
returns c =
    let small : c.args.placed < 2 ^ 64 = omega (arith, c.ranges.placed) in
    usable_is c.args.term.now.others c.args.placed (items_in c.args.placed)
    (term_kind_of c.args.term.now.kind) c.requires (items_are_placed c.args.placed small)
