-- The loop that is cheapest to run, offer by offer.
use Rattle.std.proofs.Common.{◌≡◌, ◌<◌, ◌≤◌, ◌+◌, ℕ, zero, suc, Bool, true, false, cond, nat_lt, List, []}
use Rattle.std.proofs.Common.{◌∷◌, Some, option_map, length, map, drop, refl, sym, ap}
use Rattle.std.proofs.Common.{◌∙◌, pos, subst, slice_get, get_or, arith}
use Rattle.std.proofs.lemmas.Option.{same_Some}
use Rattle.list_laws.proofs.Turns.{dropped_get, past_end}
use Rattle.plan_choice.specs.Offers.{lightest}
use Rattle.plan_choice.specs.Settings.{Setting}
use Rattle.plan_choice.specs.Prefixes.{OfferedLoop, Prefix, may_come, offered_loops, placed_in}
use Rattle.plan_choice.proofs.ListedOffers.{lightest_one}
use Rattle.plan_choice.proofs.SoundLevels.{lightest_some}
use Rattle.access_paths.specs.Branches.{lighter_of}
use Rattle.access_paths.specs.declared.offer.Offer.{Offer}
use Rattle.access_paths.proofs.Lightest.{lighter_joined}
use Rattle.nearest_prefixes.specs.Prefixes.{SeenLoop, seen_from, seen_loops, seen_loop, told_loop}
use Rattle.nearest_prefixes.specs.declared.written.Numbered.{Numbered}
use Rattle.nearest_prefixes.specs.Growing.{Follows}
use Rattle.nearest_prefixes.proofs.Reached.{all_follow}
use Rattle.nearest_prefixes.proofs.Standings.{numbered_seen}

abbrev pub run : OfferedLoop → ℕ
run t = t.offer.cost.run

abbrev pub seen_number : ℕ → Numbered → SeenLoop
seen_number item n = seen_loop item n.number n.offer.now

-- the best so far is one of the loops, and the lightest of all is it or one of those that are left
pub record IsBest (item : ℕ) (ts : List OfferedLoop) (number : ℕ) (best : Numbered) : Type 0 where
  pub loop : OfferedLoop
  pub told : told_loop loop ≡ seen_number item best
  pub rest : lighter_of run (Some loop) (lightest run (drop number ts)) ≡ lightest run ts

same_length : (item number : ℕ) (xs : List Offer) (ts : List OfferedLoop)
    → seen_from item number xs ≡ map told_loop ts → length ts ≡ length xs
same_length item number [] [] e = refl
same_length item number [] (t ∷ ts) e = absurd (cc)
same_length item number (x ∷ xs) [] e = absurd (cc)
same_length item number (x ∷ xs) (t ∷ ts) e =
    let rest : seen_from item (number + 1) xs ≡ map told_loop ts = cc in
    ap suc (same_length item (number + 1) xs ts rest)

pub best_first : (item : ℕ) (xs : List Offer) (d : Offer) (ts : List OfferedLoop)
    (best : Numbered) → 0 < length xs → seen_number item best ≡ seen_loop item 0 (get_or xs 0 d)
    → seen_loops item xs ≡ map told_loop ts → IsBest item ts 1 best
best_first item [] d ts best some is e = absurd (omega (arith, some))
best_first item (x ∷ xs) d [] best some is e = absurd (cc)
best_first item (x ∷ xs) d (t ∷ ts) best some is e =
    let first : seen_loop item 0 x ≡ told_loop t = cc in
    record { loop = t; told = sym first ∙ sym is; rest = refl }

-- of the best so far and the next one
best_of : (item : ℕ) (ts : List OfferedLoop) (number : ℕ) (best next : Numbered) (b t : OfferedLoop)
    → told_loop b ≡ seen_number item best → told_loop t ≡ seen_number item next
    → (c : Bool) → nat_lt (run t) (run b) ≡ c
    → lighter_of run (lighter_of run (Some b) (Some t)) (lightest run (drop number ts))
    ≡ lightest run ts
    → IsBest item ts number (cond c next best)
best_of item ts number best next b t e f true c r = record {
  loop = t;
  told = f;
  rest = sym
      (ap (λ d. lighter_of run (cond d (Some t) (Some b)) (lightest run (drop number ts))) c) ∙ r;
}
best_of item ts number best next b t e f false c r = record {
  loop = b;
  told = e;
  rest = sym
      (ap (λ d. lighter_of run (cond d (Some t) (Some b)) (lightest run (drop number ts))) c) ∙ r;
}

at_place : {X : Type 0} (xs : List X) (i : ℕ) (d : X) → i < length xs
    → slice_get xs i ≡ Some (get_or xs i d)
at_place [] i d h = absurd (omega (arith, h))
at_place (x ∷ xs) zero d h = refl
at_place (x ∷ xs) (suc i) d h = at_place xs i d (omega (arith, h))

pub best_more : (item : ℕ) (xs : List Offer) (d : Offer) (ts : List OfferedLoop) (number : ℕ)
    (best next new : Numbered) → seen_loops item xs ≡ map told_loop ts → number < length xs
    → seen_number item next ≡ seen_loop item number (get_or xs number d)
    → ((m n : ℕ) → best.offer.now.cost.run ≡ pos m → next.offer.now.cost.run ≡ pos n
    → new ≡ cond (nat_lt n m) next best)
    → IsBest item ts number best → IsBest item ts (number + 1) new
best_more item xs d ts number best next new e below is step h =
    let x = get_or xs number d in
    let at = at_place xs number d below in
    let b = h.loop in
    let found = numbered_seen item 0 xs ts number x e at in
    let t = found.0 in
    let n : 0 + number ≡ number = omega arith in
    let told : told_loop t ≡ seen_number item next =
    found.2 ∙ ap (λ m. seen_loop item m x) n ∙ sym is in
    let cut : drop number ts ≡ t ∷ drop (number + 1) ts = dropped_get ts number t found.1 in
    subst (IsBest item ts (number + 1))
    (sym
    (step (run b) (run t) (sym (ap (λ (z : SeenLoop). z.offer.cost.run) h.told))
    (sym (ap (λ (z : SeenLoop). z.offer.cost.run) told))))
    (best_of item ts (number + 1) best next b t h.told told (nat_lt (run t) (run b)) refl
    (lighter_joined run (Some b) (Some t) (lightest run (drop (number + 1) ts))
    ∙ ap (λ us. lighter_of run (Some b) (lightest run us)) (sym cut) ∙ h.rest))

pub best_last : (item : ℕ) (xs : List Offer) (ts : List OfferedLoop) (number : ℕ)
    (best : Numbered) → seen_loops item xs ≡ map told_loop ts → length xs ≤ number
    → IsBest item ts number best
    → Some (seen_number item best) ≡ option_map told_loop (lightest run ts)
best_last item xs ts number best e far h =
    let long = same_length item 0 xs ts e in
    ap Some (sym h.told)
    ∙ ap (option_map told_loop)
    (ap (λ us. lighter_of run (Some h.loop) (lightest run us))
    (sym (past_end ts number (omega (arith, long, far))))
    ∙ h.rest)

-- there is always an offer
pub some_offers : (s : Setting) (placed : List ℕ) (item : ℕ) (xs : List Offer)
    → seen_loops item xs ≡ map told_loop (offered_loops s placed item) → 0 < length xs
some_offers s placed item [] e = absurd (cc)
some_offers s placed item (x ∷ xs) e = omega arith

-- the loop by the lightest offer follows
pub lightest_follows : (s : Setting) (p : Prefix) (item : ℕ) (best : Numbered)
    → may_come s.bound (placed_in p) item ≡ true → item < length s.bound.items
    → Some (seen_number item best)
    ≡ option_map told_loop (lightest run (offered_loops s (placed_in p) item))
    → (t : OfferedLoop) × (lightest run (offered_loops s (placed_in p) item) ≡ Some t)
    × Follows s p t × (told_loop t ≡ seen_number item best)
lightest_follows s p item best come below e =
    let ts = offered_loops s (placed_in p) item in
    let found = lightest_some run ts tt in (
      found.0,
      found.1,
      (lightest_one (λ t. (t.item ≡ item) × Follows s p t) run ts (all_follow s p item come below)
          found.0 found.1).1,
      sym
          (same_Some (seen_number item best) (told_loop found.0)
          (e ∙ ap (option_map told_loop) found.1)),
    )
