-- The scan of the one table of a statement gives the statement's rows.
use Rattle.std.proofs.Common.{◌≡◌, ℕ, true, List, [], ◌∷◌, refl, length, subst}
use Rattle.std.specs.List.{AllByRecursion}
use Rattle.list_laws.specs.Nest.{same}
use Rattle.sql_meaning.specs.Schemas.{Schema}
use Rattle.sql_meaning.specs.Expressions.{names}
use Rattle.sql_meaning.specs.Statements.{Bound, all_in, numbers_from}
use Rattle.sql_meaning.specs.UsedTerms.{AllOf}
use Rattle.sql_meaning.specs.Offers.{FitsOffers, IsPlannable}
use Rattle.sql_meaning.specs.OrderState.{FitsOrder}
use Rattle.sql_meaning.proofs.OfferedPaths.{scan_offer}
use Rattle.sql_meaning.proofs.Asked.{offered_plans_mean}
use Rattle.sql_bound.specs.Fits.{Fits}
use Rattle.sql_bound.proofs.Plannable.{fitting_are_plannable}
use Rattle.plan_form.specs.Scans.{table_scan, TableScansMean}

loops_are_offers : (schema : Schema) (bound : Bound) (needs : List (List ℕ))
    → Fits schema bound needs → length bound.items ≡ 1 → FitsOffers schema (table_scan bound)
loops_are_offers schema bound needs fits one =
    let p : IsPlannable schema bound = fitting_are_plannable schema bound needs fits in
    record {
      used = AllOf [] ∷ [];
      once = rw one (same (0 ∷ []));
      offered = (scan_offer schema bound [] 0 _ p.fits refl, tt);
      some = λ e. cc;
      named =
          subst
          (λ (count : ℕ). AllByRecursion
          (λ c. all_in (names c.expr) (numbers_from 0 count) ≡ true) bound.conjuncts) one p.named;
      owners = p.owners;
    }

flags_are_right : (schema : Schema) (bound : Bound) → bound.keys ≡ []
    → FitsOrder schema (table_scan bound)
flags_are_right schema bound none = record {
  sorts = rw none refl;
  reverses = λ e. rw none refl;
  forward = λ e. refl;
}

pub table_scans_mean : TableScansMean
table_scans_mean = λ schema bound needs fits one none.
    offered_plans_mean schema (table_scan bound) (loops_are_offers schema bound needs fits one)
    (flags_are_right schema bound none)
