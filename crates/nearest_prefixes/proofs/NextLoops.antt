-- The loop that an offer of an item gives, behind what is shown.
use Rattle.std.specs.Borrow.{Bor}
use Rattle.std.specs.Prelude.{slice_get}
use Rattle.std.proofs.Common.{◌≡◌, ◌<◌, ℕ, suc, ◌+◌, List, [], ◌∷◌, length, map}
use Rattle.std.proofs.Common.{refl, sym, ap, ◌∙◌, subst, drop, get_or, Option, arith}
use Rattle.std.proofs.lemmas.List.{length-map}
use Rattle.std.proofs.lemmas.Option.{slice_get-get_or}
use Rattle.list_laws.proofs.Turns.{dropped_get}
use Rattle.plan_choice.specs.Settings.{Setting}
use Rattle.plan_choice.specs.Prefixes as meant
use Rattle.access_paths.specs.declared.offer.Offer.{Offer}
use Rattle.nearest_prefixes.specs.declared.prefix.Prefix.{Prefix}
use Rattle.nearest_prefixes.specs.Prefixes.{SeenLoop, seen_loop, seen_from, seen_loops, told_loop}
use Rattle.nearest_prefixes.specs.Growing.{Follows, Stands}
use Rattle.nearest_prefixes.specs.Searching.{ComesBy}
use Rattle.nearest_prefixes.proofs.Standings.{numbered_seen}

seen_length : (item k : ℕ) (os : List Offer) → length (seen_from item k os) ≡ length os
seen_length item k [] = refl
seen_length item k (o ∷ os) = ap suc (seen_length item (k + 1) os)

pub loops_length : (item : ℕ) (os : List Offer) (ts : List meant.OfferedLoop)
    → seen_loops item os ≡ map told_loop ts → length ts ≡ length os
loops_length item os ts e =
    sym (length-map ts told_loop) ∙ ap length (sym e) ∙ seen_length item 0 os

-- the loop by the offer of this number: it may come next
pub record NextLoop (s : Setting) (p : meant.Prefix) (item n : ℕ) (o : Offer) : Type 0 where
  pub loop : meant.OfferedLoop
  pub follows : Follows s p loop
  pub told : told_loop loop ≡ seen_loop item n o
  pub rest : drop n (meant.offered_loops s (meant.placed_in p) item)
      ≡ loop ∷ drop (n + 1) (meant.offered_loops s (meant.placed_in p) item)

pub next_loop : (s : Setting) (p : meant.Prefix) (before : Option (Bor Prefix)) (item : ℕ)
    (os : List Offer) (n : ℕ) (d : Offer) → ComesBy s p before item os → n < length os
    → NextLoop s p item n (get_or os n d)
next_loop s p before item os n d h l =
    let placed = meant.placed_in p in
    let ts = meant.offered_loops s placed item in
    let o = get_or os n d in
    let none : 0 + n ≡ n = omega arith in
    let found = numbered_seen item 0 os ts n o h.told (slice_get-get_or os n d l) in
    let t = found.0 in
    let told : told_loop t ≡ seen_loop item n o =
    found.2 ∙ ap (λ (m : ℕ). seen_loop item m o) none in
    let own : t.item ≡ item = ap (λ (l : SeenLoop). l.item) told in
    let number : t.number ≡ n = ap (λ (l : SeenLoop). l.number) told in
    record {
      loop = t;
      follows =
          record {
            comes = ap (meant.may_come s.bound placed) own ∙ h.comes;
            item = subst (λ (i : ℕ). i < length s.bound.items) (sym own) h.below;
            offered =
                ap (λ (i : ℕ). slice_get (meant.offered_loops s placed i) t.number) own
                ∙ ap (slice_get ts) number ∙ found.1;
          };
      told = told;
      rest = dropped_get ts n t found.1;
    }

pub next_stands : (s : Setting) (p : meant.Prefix) (before : Option (Bor Prefix)) (item : ℕ)
    (os : List Offer) (n : ℕ) (d : Offer) → ComesBy s p before item os → n < length os
    → Stands s before (seen_loop item n (get_or os n d))
next_stands s p before item os n d h l =
    let next = next_loop s p before item os n d h l in
    record {
      prefix = p;
      next = next.loop;
      begins = h.begins;
      follows = next.follows;
      told = next.told;
    }
