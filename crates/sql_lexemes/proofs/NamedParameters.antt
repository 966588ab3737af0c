-- The names of parameters as the keys of a map.
use Rattle.std.proofs.Common.{◌≡◌, ℕ, Bool, true, false, cond, Option, None, Some, List, [], ◌∷◌}
use Rattle.std.proofs.Common.{◌++◌, map, refl, ap, if◌then◌else◌}
use Rattle.std.specs.Global.{Vec}
use Rattle.std.specs.Map.{lookup}
use Rattle.indexmap.specs.IndexMap.{insert_entry}
use Rattle.sql_lexemes.specs.Parameters.{Met, is_name, number_named}

-- what a map of owned names is seen as
abbrev pub seen_names : List (Vec ℕ × ℕ) → List (List ℕ × ℕ)
seen_names entries = map (λ one. (one.0.items, one.1)) entries

-- the number of the key is that of the name
pub numbered : (name : List ℕ) (es : List (Vec ℕ × ℕ))
    → lookup (λ v. is_name name v.items) es ≡ number_named name (seen_names es)
numbered name [] = refl
numbered name (e ∷ es) = ap (λ r. cond (is_name name e.0.items) (Some e.1) r) (numbered name es)

beside :
    (b : Bool) (e : Vec ℕ × ℕ) (es new : List (Vec ℕ × ℕ)) (n : ℕ) (later : Option ℕ)
    (more : List (List ℕ × ℕ))
    → cond b (Some e.1) later ≡ None → (later ≡ None → seen_names new ≡ seen_names es ++ more)
    → seen_names (if b then (e.0, n) ∷ es else e ∷ new) ≡ seen_names (e ∷ es) ++ more
beside true e es new n later more none goes_on = cc
beside false e es new n later more none goes_on =
    ap (λ rest. (e.0.items, e.1) ∷ rest) (goes_on none)

-- a name that has no number goes last
pub added :
    (key : Vec ℕ) (n : ℕ) (es : List (Vec ℕ × ℕ)) → number_named key.items (seen_names es) ≡ None
    → seen_names (insert_entry (λ v w. is_name v.items w.items) es key n)
    ≡ seen_names es ++ (key.items, n) ∷ []
added key n [] none = refl
added key n (e ∷ es) none =
    beside (is_name key.items e.0.items) e es
    (insert_entry (λ v w. is_name v.items w.items) es key n) n
    (number_named key.items (seen_names es)) ((key.items, n) ∷ []) none (added key n es)

abbrev pub met_with : Met → List (List ℕ × ℕ) → Met
met_with met named = record { greatest = met.greatest; named = named }
