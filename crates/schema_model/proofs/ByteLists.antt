-- What a slice of bytes holds.
use Rattle.std.proofs.Common.{ℕ, suc, ◌<◌, List, [], ◌∷◌, slice_index_or, Fits, w8, arith}
use Rattle.sql_meaning.specs.Values.{IsBytes}

below_256 : (b : ℕ) → Fits w8 b → b < 256
below_256 b h = omega (arith, h)

pub fitting_bytes : (bytes : List ℕ) → ((i : ℕ) → Fits w8 (slice_index_or bytes i 0))
    → IsBytes bytes
fitting_bytes [] h = tt
fitting_bytes (b ∷ bs) h = (below_256 b (h 0), fitting_bytes bs (λ i. h (suc i)))
