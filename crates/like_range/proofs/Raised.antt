-- Bytes raised at their end.
use Rattle.std.proofs.Common.{◌≡◌, ℕ, ◌+◌, true, false, refl, List, [], ◌∷◌, ◌++◌}
use Rattle.std.proofs.Common.{Some, None, ◌==◌}
use Rattle.sql_meaning.specs.Likes.{raised}

pub not_raised : (front : List ℕ) (last : ℕ) → (last == 255) ≡ true
    → raised (front ++ last ∷ []) ≡ None
not_raised [] last e = simp e refl
not_raised (b ∷ []) last e = simp e refl
not_raised (b ∷ c ∷ cs) last e = simp (not_raised (c ∷ cs) last e) refl

pub raised_last : (front : List ℕ) (last : ℕ) → (last == 255) ≡ false
    → raised (front ++ last ∷ []) ≡ Some (front ++ (last + 1) ∷ [])
raised_last [] last e = simp e refl
raised_last (b ∷ []) last e = simp e refl
raised_last (b ∷ c ∷ cs) last e = simp (raised_last (c ∷ cs) last e) refl
