-- What holds of all members as they are seen holds of the members.
use Rattle.std.specs.List.{AllByRecursion}
use Rattle.std.proofs.Common.{List, [], ◌∷◌, map}

pub all_seen : {X Y : Type 0} (P : X → Type 0) (Q : Y → Type 0) (f : X → Y) (xs : List X)
    → ((x : X) → Q (f x) → P x) → AllByRecursion Q (map f xs) → AllByRecursion P xs
all_seen P Q f [] give h = tt
all_seen P Q f (x ∷ xs) give h = (give x h.0, all_seen P Q f xs give h.1)
