-- A turn of the loop over the equalities of an OR.
use Rattle.std.proofs.Common.{◌≡◌, ◌<◌, ◌+◌, ℕ, List, [], ◌∷◌, ◌++◌, Option, Some, None, option_map}
use Rattle.std.proofs.Common.{refl, ap, sym, ◌∙◌, length, get_or, drop}
use Rattle.std.proofs.lemmas.List.{append_assoc}
use Rattle.std.specs.Borrow.{Bor}
use Rattle.sql_meaning.specs.Values.{Collation}
use Rattle.sql_meaning.specs.Rows.{Site}
use Rattle.sql_meaning.specs.Paths.{KeyExpr}
use Rattle.sql_meaning.specs.Serving.{keys_or, keys_under, key_under, comparison_served}
use Rattle.sql_bound.specs.declared.expression.BExpr.{BExpr}
use Rattle.sql_bound.specs.Expressions.{expr_of}
use Rattle.sql_bound.proofs.Members.{plain_members}
use Rattle.list_laws.proofs.Turns.{dropped_or}

key_more : (made : List KeyExpr) (key : KeyExpr) (o : Option (List KeyExpr))
    → option_map (λ ks. (made ++ key ∷ []) ++ ks) o
    ≡ option_map (λ ks. made ++ ks) (keys_or (Some key) o)
key_more made key None = refl
key_more made key (Some ks) = ap Some (append_assoc made (key ∷ []) ks)

pub keys_turn : (item : ℕ) (site : Site) (coll : Collation) (members : List (Bor BExpr)) (i : ℕ)
    (d : Bor BExpr) (made more : List KeyExpr) (key : KeyExpr) (whole : Option (List KeyExpr))
    → i < length members
    → Some key ≡ key_under site coll (comparison_served item (expr_of (get_or members i d).now))
    → more ≡ made ++ key ∷ []
    → option_map (λ ks. made ++ ks)
    (keys_under item site coll (plain_members (drop i members))) ≡ whole
    → option_map (λ ks. more ++ ks)
    (keys_under item site coll (plain_members (drop (i + 1) members))) ≡ whole
keys_turn item site coll members i d made more key whole below is m inv =
    let rest = keys_under item site coll (plain_members (drop (i + 1) members)) in
    ap (λ xs. option_map (λ ks. xs ++ ks) rest) m
    ∙ key_more made key rest
    ∙ ap (λ o. option_map (λ ks. made ++ ks) (keys_or o rest)) is
    ∙ ap
    (λ ms. option_map (λ ks. made ++ ks) (keys_under item site coll (plain_members ms)))
    (sym (dropped_or members i d below))
    ∙ inv
