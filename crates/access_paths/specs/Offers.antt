-- What offers are seen as.
use Rattle.std.specs.Prelude.{Bool, ℕ, List}
use Rattle.sql_meaning.specs.Paths.{Path}
use Rattle.plan_form.specs.Paths.{path_of}
use Rattle.plan_form.specs.Plans.{covers}
use Rattle.plan_choice.specs.Offers as meant
use Rattle.path_costs.specs.Views.{told_cost}
use Rattle.path_costs.specs.declared.cost.Cost.{Cost}
use Rattle.access_paths.specs.declared.offer.Offer.{Offer}

-- an offer but for the terms that it uses, which no plan tells
pub record SeenOffer : Type 0 where
  pub path : Path
  pub covering : Bool
  pub consumed : List ℕ
  pub cost : Cost

abbrev pub seen_offer : Offer → SeenOffer
seen_offer o = record {
  path = path_of o.path.now;
  covering = covers o.path.now;
  consumed = o.consumed.now;
  cost = o.cost;
}

-- what is to be seen of an offer that is defined
abbrev pub told_offer : meant.Offer → SeenOffer
told_offer o = record {
  path = o.path;
  covering = o.covering;
  consumed = o.consumed;
  cost = told_cost o.cost;
}
