-- Keys of a table, item by item.
use Rattle.std.proofs.Common.{◌≡◌, ℕ, zero, suc, ◌+◌, ◌<◌, Bool, true, false, List, [], ◌∷◌, ◌++◌}
use Rattle.std.proofs.Common.{length, map, drop, get_or, Option, None, Some, option_map}
use Rattle.std.proofs.Common.{option_and_then, refl, ap, sym, ◌∙◌, arith, append_assoc}
use Rattle.std.proofs.Common.{if◌then◌else◌, Bor}
use Rattle.sql_tokens.specs.declared.token.Token.{Token}
use Rattle.schema_model.specs.declared.columns.Column.{Column}
use Rattle.schema_text.specs.Keys.{key_constraints_of, item_keys, next_number}
use Rattle.schema_text.specs.declared.keys.KeyConstraint.{KeyConstraint}

abbrev seen : List (Bor (List Token)) → List (List Token)
seen items = map (λ item. item.now) items

one_by_one : (text : List ℕ) (columns : List Column) (number : ℕ) (items : List (Bor (List Token)))
    (i : ℕ) (d : Bor (List Token)) → i < length items
    → key_constraints_of text columns number (seen (drop i items))
    ≡ option_and_then (λ added. option_map (λ rest. added ++ rest)
    (key_constraints_of text columns (next_number text number (get_or items i d).now)
    (seen (drop (i + 1) items)))) (item_keys text columns number (get_or items i d).now)
one_by_one text columns number [] i d h = absurd (omega (arith, h))
one_by_one text columns number (x ∷ xs) zero d h = refl
one_by_one text columns number (x ∷ xs) (suc i) d h = let n : suc i + 1 ≡ suc (i + 1) =
    omega arith in rw n (one_by_one text columns number xs i d (omega (arith, h)))

step : (old new : List KeyConstraint) (known : Bool) (o rest : Option (List KeyConstraint))
    → (if known then Some new else None) ≡ option_map (λ added. old ++ added) o
    → option_map (λ ks. old ++ ks)
    (option_and_then (λ added. option_map (λ ks. added ++ ks) rest) o)
    ≡ (if known then option_map (λ ks. new ++ ks) rest else None)
step old new true None rest h = absurd (cc)
step old new false None rest h = refl
step old new true (Some a) None h = refl
step old new true (Some a) (Some r) h =
    let same : new ≡ old ++ a = cc in
    ap Some (sym (append_assoc old a r)
    ∙ ap (λ (front : List KeyConstraint). front ++ r) (sym same))
step old new false (Some a) rest h = absurd (cc)

pub next : (text : List ℕ) (columns : List Column) (number : ℕ) (items : List (Bor (List Token)))
    (i : ℕ) (d : Bor (List Token)) (old new : List KeyConstraint) (known : Bool)
    (all : Option (List KeyConstraint))
    → i < length items
    → all ≡ option_map (λ rest. old ++ rest)
    (key_constraints_of text columns number (seen (drop i items)))
    → (if known then Some new else None)
    ≡ option_map (λ added. old ++ added) (item_keys text columns number (get_or items i d).now)
    → all ≡ (if known then option_map (λ rest. new ++ rest)
    (key_constraints_of text columns (next_number text number (get_or items i d).now)
    (seen (drop (i + 1) items))) else None)
next text columns number items i d old new known all h so_far e =
    so_far ∙ ap (option_map (λ rest. old ++ rest)) (one_by_one text columns number items i d h)
    ∙ step old new known _ _ e
