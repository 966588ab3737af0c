-- What is to be seen of offers, by their paths.
use Rattle.std.specs.Prelude.{Bool, ℕ, List, [], ◌∷◌, map, Option, Some, None}
use Rattle.sql_meaning.specs.Paths.{Path}
use Rattle.sql_meaning.specs.Choices.{ColumnTerms}
use Rattle.sql_meaning.specs.TermLists.{OrTerm}
use Rattle.path_costs.specs.Views.{told_cost}
use Rattle.plan_choice.specs.Costs.{size_of}
use Rattle.plan_choice.specs.Settings as meant
use Rattle.plan_choice.specs.Offers as meant_offers
use Rattle.access_paths.specs.Offers.{SeenOffer, seen_offer, told_offer}
use Rattle.access_paths.specs.declared.offer.Offer.{Offer}

-- of an offer of this path, which makes these conjuncts true
abbrev pub told_by : meant.Setting → List ℕ → ℕ → Path → Bool → List ℕ → SeenOffer
told_by s placed item path covering consumed = record {
  path = path;
  covering = covering;
  consumed = consumed;
  cost =
      told_cost
      (meant_offers.cost_at s placed item consumed
      (size_of s.figures (meant.table_for s item) covering path));
}

abbrev pub told_offers : List meant_offers.Offer → List SeenOffer
told_offers os = map told_offer os

-- an offer, if there is one
abbrev pub seen_one : Option Offer → List SeenOffer
seen_one None = []
seen_one (Some o) = seen_offer o ∷ []

-- for an index, by the terms of these columns
abbrev pub told_index : meant.Setting → List ℕ → ℕ → List ColumnTerms → ℕ → List SeenOffer
told_index s placed item columns index =
    told_offers
    (meant_offers.seek_or_scan s placed item index (meant_offers.covers s item index)
    (meant_offers.seek_by s placed item columns index))

-- for an OR term
abbrev pub told_union : meant.Setting → List ℕ → ℕ → OrTerm → List SeenOffer
told_union s placed item o =
    told_offers
    (meant_offers.union_offers s placed item
    (meant_offers.union_seeks s placed item o.branches))
