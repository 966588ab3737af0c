-- Lines put together of pieces.
use Rattle.std.proofs.Common.{◌≡◌, ◌++◌, ℕ, List, [], ◌∷◌, refl, ap, sym, ◌∙◌, append_assoc}
use Rattle.plan_form.specs.Texts.{as_text}

pub as_text-append : (xs ys : List (List ℕ)) → as_text (xs ++ ys) ≡ as_text xs ++ as_text ys
as_text-append [] ys = refl
as_text-append (x ∷ xs) ys =
    ap (λ t. (x ++ 10 ∷ []) ++ t) (as_text-append xs ys)
    ∙ sym (append_assoc (x ++ 10 ∷ []) (as_text xs) (as_text ys))
