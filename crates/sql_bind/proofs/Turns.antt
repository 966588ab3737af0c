-- A turn of a loop over parts that are checked and bound one after another.
use Rattle.std.proofs.Common.{◌≡◌, ◌<◌, ◌+◌, ℕ, Option, Some, None, List, [], ◌∷◌, ◌++◌, length}
use Rattle.std.proofs.Common.{map, flat_map, get_or, drop, Result, sym, ap, ◌∙◌}
use Rattle.std.specs.Result.{IsErrAnd}
use Rattle.std.proofs.lemmas.Result.{err_from_is_err_and}
use Rattle.std.proofs.lemmas.List.{at_drop_more, append_assoc, map_push}
use Rattle.sql_names.specs.declared.faults.BindFault.{BindFault}
use Rattle.sql_names.specs.declared.faults.BindFault.TheVariants.{Memory}
use Rattle.sql_names.specs.Faults.{first_failing, Answers}
use Rattle.sql_names.proofs.Checks.{passed_first, failed_first}

-- the exit of a `?`
pub exits : {X Y : Type 0} (view : X → Y) (r : Result X BindFault) (fault : BindFault)
    (checks : List (Option BindFault)) (meant : Y) → IsErrAnd r (λ e. e ≡ fault)
    → ((fault ≡ Memory → ⊥) → first_failing checks ≡ Some fault) → Answers view r checks meant
exits view r fault checks meant is fails =
    let e = err_from_is_err_and r is in
    rw (e.1, e.2) fails

module _ {X T : Type 0} (seen : X → T) (checks : T → List (Option BindFault)) (xs : List X) (i : ℕ)
    (d : X) (below : i < length xs) (whole : Option BindFault)
    (before : first_failing (flat_map checks (map seen (drop i xs))) ≡ whole) where
  cut : first_failing (flat_map checks (map seen (drop i xs)))
      ≡ first_failing
      (checks (seen (get_or xs i d)) ++ flat_map checks (map seen (drop (i + 1) xs)))
  cut = at_drop_more (λ ys. first_failing (flat_map checks (map seen ys))) xs i d below

  pub part_passes : first_failing (checks (seen (get_or xs i d))) ≡ None
      → first_failing (flat_map checks (map seen (drop (i + 1) xs))) ≡ whole
  part_passes h =
      sym
      (passed_first (checks (seen (get_or xs i d))) (flat_map checks (map seen (drop (i + 1) xs)))
      h)
      ∙ sym cut ∙ before

  pub part_fails : (fault : BindFault)
      → ((fault ≡ Memory → ⊥) → first_failing (checks (seen (get_or xs i d))) ≡ Some fault)
      → (fault ≡ Memory → ⊥) → whole ≡ Some fault
  part_fails fault h other =
      sym before ∙ cut
      ∙ failed_first fault (checks (seen (get_or xs i d)))
      (flat_map checks (map seen (drop (i + 1) xs))) (h other)

module _ {X T R : Type 0} (seen : X → T) (meant : T → List R) (xs : List X) (i : ℕ) (d : X)
    (below : i < length xs) (old whole : List R)
    (before : old ++ flat_map meant (map seen (drop i xs)) ≡ whole) where
  pub part_made : (new : List R) → new ≡ old ++ meant (seen (get_or xs i d))
      → new ++ flat_map meant (map seen (drop (i + 1) xs)) ≡ whole
  part_made new is =
      rw is
      (append_assoc old (meant (seen (get_or xs i d))) (flat_map meant (map seen (drop (i + 1) xs)))
      ∙ ap (λ ys. old ++ ys)
      (sym (at_drop_more (λ ys. flat_map meant (map seen ys)) xs i d below))
      ∙ before)

module _ {X T V R : Type 0} (seen : X → T) (meant : T → R) (view : V → R) (xs : List X) (i : ℕ)
    (d : X) (below : i < length xs) (old : List V) (whole : List R)
    (before : map view old ++ map meant (map seen (drop i xs)) ≡ whole) where
  pub part_pushed : (v : V) → view v ≡ meant (seen (get_or xs i d)) → (new : List V)
      → new ≡ old ++ v ∷ []
      → map view new ++ map meant (map seen (drop (i + 1) xs)) ≡ whole
  part_pushed v same new is =
      let rest = map meant (map seen (drop (i + 1) xs)) in
      rw is
      (ap (λ ys. ys ++ rest) (map_push view old v)
      ∙ append_assoc (map view old) (view v ∷ []) rest
      ∙ ap (λ r. map view old ++ r ∷ rest) same
      ∙ ap (λ ys. map view old ++ ys)
      (sym (at_drop_more (λ ys. map meant (map seen ys)) xs i d below))
      ∙ before)
