-- What is listed as an offer is one, so the laws of walks and plans hold of it.
use Rattle.std.specs.Prelude.{◌≡◌, ℕ, Bool, false, List}
use Rattle.std.specs.List.{AllByRecursion}
use Rattle.sql_meaning.specs.Statements.{has_number, FitsStatement}
use Rattle.sql_meaning.specs.Plans.{Loop}
use Rattle.sql_meaning.specs.Offers.{IsOffer}
use Rattle.sql_meaning.specs.TermLists.{terms_of_item}
use Rattle.plan_choice.specs.Settings.{Setting, terms_for}
use Rattle.plan_choice.specs.Offers.{Offer, offers}

-- the loop that goes by an offer
abbrev pub offer_loop : ℕ → Bool → Offer → Loop
offer_loop item reverse o =
    record { item = item; path = o.path; reverse = reverse; consumed = o.consumed }

abbrev pub IsOffered : Setting → List ℕ → ℕ → Bool → Offer → Type 0
IsOffered s placed item reverse o =
    IsOffer s.schema s.bound placed (offer_loop item reverse o) o.used

-- of an item that isn't placed, by the item's own terms
abbrev pub ListedOffersAreOffers : Type 0
ListedOffersAreOffers =
    (s : Setting) (placed : List ℕ) (item : ℕ) (reverse : Bool)
    → FitsStatement s.schema s.bound → has_number item placed ≡ false
    → terms_for s item ≡ terms_of_item s.schema s.bound item
    → AllByRecursion (IsOffered s placed item reverse) (offers s placed item)
