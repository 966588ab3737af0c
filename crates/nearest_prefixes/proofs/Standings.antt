-- What follows for a prefix of the code from what it shows.
use Rattle.std.proofs.Common.{◌≡◌, ◌+◌, ℕ, zero, suc, List, [], ◌∷◌}
use Rattle.std.proofs.Common.{Some, map, slice_get, refl, sym, ap}
use Rattle.std.proofs.Common.{◌∙◌, subst, arith, ap₂}
use Rattle.schema_model.specs.PlainSchemas.{plain_schema}
use Rattle.sql_bound.specs.Statements.{bound_of, needs_of}
use Rattle.sql_bound.proofs.Plannable.{fitting_are_plannable}
use Rattle.sql_meaning.specs.TermLists.{ItemTerms}
use Rattle.plan_choice.specs.Settings as meant
use Rattle.plan_choice.specs.Offers.{Offer as PlainOffer}
use Rattle.plan_choice.specs.Prefixes.{OfferedLoop, numbered_from}
use Rattle.plan_choice.proofs.ChosenPlans.{own_setting}
use Rattle.plan_choice.proofs.SoundPrefixes.{IsOwn}
use Rattle.access_paths.specs.Settings.{setting_of, IsReady}
use Rattle.access_paths.specs.declared.setting.Setting.{Setting}
use Rattle.access_paths.specs.declared.offer.Offer.{Offer}
use Rattle.access_paths.specs.Offers.{SeenOffer, seen_offer, told_offer}
use Rattle.nearest_prefixes.specs.Prefixes.{SeenLoop, seen_from, seen_loop, told_loop}

abbrev with_terms : Setting → List ItemTerms → meant.Setting
with_terms x terms = record {
  schema = plain_schema x.schema.now;
  figures = x.figures.now;
  bound = bound_of x.bound.now;
  needs = needs_of x.bound.now;
  terms = terms;
}

-- a setting that is ready has its own terms
pub own : (x : Setting) → IsReady x → IsOwn (setting_of x)
own x ready =
    subst IsOwn (sym (ap (with_terms x) ready.terms))
    (own_setting (plain_schema x.schema.now) x.figures.now
    (record { bound = bound_of x.bound.now; needs = needs_of x.bound.now })
    (fitting_are_plannable (plain_schema x.schema.now) (bound_of x.bound.now)
    (needs_of x.bound.now) ready.fits))

-- offers that are told are the loops of an item that are told
pub numbered_told : (item number : ℕ) (xs : List Offer) (os : List PlainOffer)
    → map seen_offer xs ≡ map told_offer os
    → seen_from item number xs ≡ map told_loop (numbered_from item number os)
numbered_told item number [] [] e = refl
numbered_told item number [] (o ∷ os) e = absurd (cc)
numbered_told item number (x ∷ xs) [] e = absurd (cc)
numbered_told item number (x ∷ xs) (o ∷ os) e =
    let first : seen_offer x ≡ told_offer o = cc in
    let rest : map seen_offer xs ≡ map told_offer os = cc in
    ap₂ (λ (l : SeenLoop) (ls : List SeenLoop). l ∷ ls)
    (ap (λ (z : SeenOffer). record { item = item; number = number; offer = z }) first)
    (numbered_told item (number + 1) xs os rest)

-- the loop that an offer tells, at its number
pub numbered_seen : (item number : ℕ) (xs : List Offer) (ts : List OfferedLoop) (k : ℕ) (x : Offer)
    → seen_from item number xs ≡ map told_loop ts → slice_get xs k ≡ Some x
    → (t : OfferedLoop) × (slice_get ts k ≡ Some t)
    × (told_loop t ≡ seen_loop item (number + k) x)
numbered_seen item number [] ts k x e h = absurd (cc)
numbered_seen item number (y ∷ ys) [] k x e h = absurd (cc)
numbered_seen item number (y ∷ ys) (t ∷ ts) zero x e h =
    let first : seen_loop item number y ≡ told_loop t = cc in
    let is : y ≡ x = cc in
    let n : number ≡ number + 0 = omega arith in (
      t,
      refl,
      sym first ∙ ap (seen_loop item number) is ∙ ap (λ m. seen_loop item m x) n,
    )
numbered_seen item number (y ∷ ys) (t ∷ ts) (suc k) x e h =
    let rest : seen_from item (number + 1) ys ≡ map told_loop ts = cc in
    let found = numbered_seen item (number + 1) ys ts k x rest h in
    let n : number + 1 + k ≡ number + suc k = omega arith in
    (found.0, found.1, found.2 ∙ ap (λ m. seen_loop item m x) n)
