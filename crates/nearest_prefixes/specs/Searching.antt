-- What is kept of extensions that come one by one.
use Rattle.std.specs.Prelude.{◌≡◌, ◌<◌, ℕ, true, cond, List, [], map, length, fold, Option}
use Rattle.std.specs.Borrow.{Bor}
use Rattle.std.specs.List.{AllByRecursion}
use Rattle.plan_choice.specs.Settings.{Setting}
use Rattle.plan_choice.specs.Prefixes as meant
use Rattle.plan_choice.specs.Choice.{nearer}
use Rattle.access_paths.specs.declared.offer.Offer.{Offer}
use Rattle.nearest_prefixes.specs.Keeping.{joined}
use Rattle.nearest_prefixes.specs.Entering.{alike}
use Rattle.nearest_prefixes.specs.Prefixes.{seen_loops, told_loop}
use Rattle.nearest_prefixes.specs.Growing.{AllShow, Begins}
use Rattle.nearest_prefixes.specs.declared.prefix.Prefix.{Prefix}

-- these prefixes show those, of so many loops each
pub record AreShown (s : Setting) (count : ℕ) (ps : List meant.Prefix) (xs : List (Bor Prefix))
    : Type 0 where
  pub each : AllShow s ps xs
  pub size : AllByRecursion (λ p. length p.loops ≡ count) ps

-- behind what is shown, the item may come next, and these are its offers
pub record ComesBy (s : Setting) (p : meant.Prefix) (before : Option (Bor Prefix)) (item : ℕ)
    (os : List Offer) : Type 0 where
  pub begins : Begins s p before
  pub comes : meant.may_come s.bound (meant.placed_in p) item ≡ true
  pub below : item < length s.bound.items
  pub told : seen_loops item os ≡ map told_loop (meant.offered_loops s (meant.placed_in p) item)

-- a prefix with one loop more, by each offer of this item
abbrev pub by_offers : Setting → meant.Prefix → ℕ → List meant.Prefix
by_offers s p item = map (meant.extended s p) (meant.offered_loops s (meant.placed_in p) item)

-- where the item may come next
abbrev pub by_item : Setting → meant.Prefix → ℕ → List meant.Prefix
by_item s p item =
    cond (meant.may_come s.bound (meant.placed_in p) item) (by_offers s p item) []

-- of those that are kept and of others that come, as many as `most` says
abbrev pub kept_with : Setting → ℕ → List meant.Prefix → List meant.Prefix → List meant.Prefix
kept_with s most kept more = fold (joined most (alike s) (nearer s)) kept more
