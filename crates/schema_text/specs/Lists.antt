-- What each of a list gives, where none of them gives nothing.
use Rattle.std.specs.Prelude.{List, [], ◌∷◌, Option, None, Some, option_map}

abbrev pub with_first : {X : Type 0} → Option X → Option (List X) → Option (List X)
with_first None rest = None
with_first (Some x) rest = option_map (λ xs. x ∷ xs) rest

abbrev pub traverse : {X Y : Type 0} → (X → Option Y) → List X → Option (List Y)
traverse f [] = Some []
traverse f (x ∷ xs) = with_first (f x) (traverse f xs)
