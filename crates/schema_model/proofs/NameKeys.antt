-- Names as the keys of a set.
use Rattle.std.proofs.Common.{not, ◌≡◌, ℕ, ◌+◌, ◌||◌, Bool, false, List, [], ◌∷◌, ◌++◌, map}
use Rattle.std.proofs.Common.{position, ap, sym, ◌∙◌, refl, cond, if◌then◌else◌}
use Rattle.std.specs.List.{list_any, position_or_len, AllZip, each_same}
use Rattle.std.specs.Global.{Vec}
use Rattle.std.specs.Vec.{vec_len}
use Rattle.std.proofs.lemmas.List.{length-map, map-append}
use Rattle.schema_model.specs.Names.{is_name}

module _ {X Y : Type 0} (f : X → Y) (p : Y → Bool) where
  place_step : (b : Bool) (m n : ℕ) → m ≡ n → cond (not b) (1 + m) 0 ≡ cond (not b) (1 + n) 0
  place_step b m n e = ap (λ k. cond (not b) (1 + k) 0) e

  place-map : (xs : List X) → position_or_len p (map f xs) ≡ position_or_len (λ x. p (f x)) xs
  place-map [] = refl
  place-map (x ∷ xs) = place_step (p (f x)) _ _ (place-map xs)

  pub position-map : (xs : List X) → position p (map f xs) ≡ position (λ x. p (f x)) xs
  position-map xs = rw (place-map xs, length-map xs f) refl

  pub list_any-map : (xs : List X) → list_any p (map f xs) ≡ list_any (λ x. p (f x)) xs
  list_any-map [] = refl
  list_any-map (x ∷ xs) = ap (λ b. p (f x) || b) (list_any-map xs)

-- clones hold the same bytes
pub clones : (vs ws : List (Vec ℕ))
    → AllZip (λ v w. AllZip (λ x y. y ≡ x) v.items w.items × (vec_len w ≡ vec_len v)) vs ws
    → map (λ v. v.items) ws ≡ map (λ v. v.items) vs
clones [] [] h = refl
clones [] (w ∷ ws) h = absurd h
clones (v ∷ vs) [] h = absurd h
clones (v ∷ vs) (w ∷ ws) h = rw (each_same v.items w.items h.0.0, clones vs ws h.1) refl

-- a name that is not there goes last
pub added : (vs : List (Vec ℕ)) (v : Vec ℕ)
    → list_any (is_name v.items) (map (λ w. w.items) vs) ≡ false
    → map (λ w. w.items) (if list_any (λ w. is_name v.items w.items) vs then vs else vs ++ v ∷ [])
    ≡ map (λ w. w.items) vs ++ v.items ∷ []
added vs v h = rw (sym (list_any-map (λ w. w.items) (is_name v.items) vs) ∙ h)
    (map-append (λ w. w.items) vs (v ∷ []))
