-- A plan whose loops are offers fits the schema, and so do the keys of its paths.
use Rattle.std.proofs.Common.{ℕ, List, [], ◌∷◌, slice_get}
use Rattle.std.specs.List.{AllByRecursion}
use Rattle.sql_meaning.specs.Schemas.{Schema}
use Rattle.sql_meaning.specs.Statements.{Bound, item_alias, table_of}
use Rattle.sql_meaning.specs.Plans.{Loop, Plan}
use Rattle.sql_meaning.specs.UsedTerms.{Used}
use Rattle.sql_meaning.specs.Fitting.{path_keys}
use Rattle.sql_meaning.specs.Offers.{AreOffers, FitsOffers}
use Rattle.sql_meaning.proofs.PlanFits.{offered_plans_fit}
use Rattle.sql_bound.specs.Fits.{Fits}
use Rattle.plan_form.specs.Fits.{FitsSchema}
use Rattle.n3_planner.proofs.CarriedKeys.{path_has}
use Rattle.n3_planner.proofs.NamedKeys.{KeyExists, used_keys_exist}

offered_keys : (schema : Schema) (bound : Bound) (needs : List (List ℕ)) (placed : List ℕ)
    (loops : List Loop) (used : List Used)
    → Fits schema bound needs → AreOffers schema bound placed loops used
    → AllByRecursion
    (λ l. AllByRecursion (KeyExists schema bound.items) (path_keys schema l.path)) loops
offered_keys schema bound needs placed [] used fits h = tt
offered_keys schema bound needs placed (l ∷ ls) [] fits h = absurd h
offered_keys schema bound needs placed (l ∷ ls) (u ∷ us) fits h = (
  path_has (KeyExists schema bound.items) schema (table_of (slice_get bound.items l.item))
      (item_alias schema bound l.item) l.path u h.0.path h.0.carries
      (used_keys_exist schema bound needs l.item u fits h.0.comes),
  offered_keys schema bound needs (l.item ∷ placed) ls us fits h.1,
)

pub offered_fit : (schema : Schema) (plan : Plan) (needs : List (List ℕ))
    → Fits schema plan.bound needs → FitsOffers schema plan → FitsSchema schema plan needs
offered_fit schema plan needs fits f = record {
  statement = fits;
  plan_fits = offered_plans_fit schema plan f;
  keys = offered_keys schema plan.bound needs [] plan.loops f.used fits f.offered;
}
