-- A turn of a loop that builds a list: what is made, and what is left to make, are the whole.
use Rattle.std.proofs.Common.{◌≡◌, List, [], ◌∷◌, ◌++◌}
use Rattle.std.proofs.Common.{ap, sym, ◌∙◌, map}
use Rattle.std.proofs.lemmas.List.{map-append, append_assoc}

pub made_more : {X : Type 0} (made here rest more before whole : List X) → more ≡ made ++ here
    → before ≡ here ++ rest → made ++ before ≡ whole → more ++ rest ≡ whole
made_more made here rest more before whole m b inv =
    ap (λ xs. xs ++ rest) m
    ∙ append_assoc made here rest
    ∙ ap (λ xs. made ++ xs) (sym b) ∙ inv

pub mapped_push : {X Y : Type 0} (f : X → Y) (xs ys : List X) (x : X) → ys ≡ xs ++ x ∷ []
    → map f ys ≡ map f xs ++ f x ∷ []
mapped_push f xs ys x is = ap (map f) is ∙ map-append f xs (x ∷ [])
