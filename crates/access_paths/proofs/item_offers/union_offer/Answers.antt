use Rattle.std.proofs.Common.{Bool, [], ◌∷◌, ap, ap₂, sym, ◌∙◌, option_map}
use Rattle.std.proofs.Common.{subst, Option}
use Rattle.std.specs.Prelude.{IfSome}
use Rattle.sql_meaning.specs.Paths.{Path}
use Rattle.where_terms.specs.Views.{branches_of}
use Rattle.plan_choice.specs.CostLaws.{IsFlat}
use Rattle.plan_choice.specs.Offers.{union_seeks}
use Rattle.plan_form.specs.declared.path.Paths.{Paths}
use Rattle.access_paths.specs.Placed.{items_in}
use Rattle.access_paths.specs.NextItems.{setting_for}
use Rattle.access_paths.specs.Offers.{SeenOffer}
use Rattle.access_paths.specs.Branches.{seen_paths, AllArePlain}
use Rattle.access_paths.specs.Listed.{told_by}
use Rattle.access_paths.proofs.PlainSeeks.{are_plain}
use Rattle.access_paths.proofs.ToldOffers.{union_told}
use Rattle.access_paths.proofs.item_offers.union_offer.Goals as goal

pub priced-requires-clause-flat : goal.priced-requires-clause-flat
priced-requires-clause-flat c =
    let plain : AllArePlain c.in-Some.paths =
    subst (λ (o : Option Paths). IfSome o AllArePlain) c.in-Some.is c.in_ok-found.ensures.plain in
    subst IsFlat (sym c.in_ok-path.ensures.path) (are_plain (seen_paths c.in-Some.paths) plain)

pub returns : goal.returns
returns c =
    let next = c.args.next.now in
    let s = setting_for next in
    let placed = items_in next.placed in
    ap (λ (o : SeenOffer). o ∷ [])
    (c.priced.ensures
    ∙ ap₂ (λ (path : Path) (covering : Bool). told_by s placed next.item path covering [])
    c.in_ok-path.ensures.path c.in_ok-path.ensures.covering)
    ∙ union_told s placed next.item (seen_paths c.in-Some.paths)
    (union_seeks s placed next.item (branches_of c.args.branches.now))
    (sym (ap (option_map seen_paths) c.in-Some.is) ∙ c.in_ok-found.ensures.told)
