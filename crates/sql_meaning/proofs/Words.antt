-- Where a word stands in a text.
use Rattle.std.proofs.Common.{◌≡◌, ℕ, ◌<◌, Bool, true, false, ◌||◌, ◌==◌, ◌↔◌, List, [], ◌∷◌}
use Rattle.std.proofs.Common.{◌++◌, length, refl, ap, ap₂, arith}
use Rattle.list_laws.proofs.Bools.{and_left, and_right, or_first, or_later}
use Rattle.sql_meaning.specs.DeclaredTypes.{begins_with, holds_word}

-- the text has the word between these two parts
abbrev StandsIn : List ℕ → List ℕ → Type 0
StandsIn word text = (front : List ℕ) × (back : List ℕ) × (text ≡ front ++ (word ++ back))

same_byte : (a b : ℕ) → (a == b) ≡ true → a ≡ b
same_byte a b h = grind arith

begins : (word text : List ℕ) → begins_with word text ≡ true
    → (back : List ℕ) × (text ≡ word ++ back)
begins [] text e = (text, refl)
begins (w ∷ ws) [] e = absurd (cc)
begins (w ∷ ws) (b ∷ bs) e =
    let rest = begins ws bs (and_right (b == w) (begins_with ws bs) e) in
    let same = same_byte b w (and_left (b == w) (begins_with ws bs) e) in
    (rest.0, ap₂ (λ (x : ℕ) (xs : List ℕ). x ∷ xs) same rest.1)

found_or : (b : Bool) (w : ℕ) (ws text rest : List ℕ) → begins_with (w ∷ ws) text ≡ b
    → (holds_word (w ∷ ws) rest ≡ true → StandsIn (w ∷ ws) text)
    → (b || holds_word (w ∷ ws) rest) ≡ true
    → StandsIn (w ∷ ws) text
found_or true w ws text rest f g e = let rest = begins (w ∷ ws) text f in ([], rest.0, rest.1)
found_or false w ws text rest f g e = g e

found : (w : ℕ) (ws text : List ℕ) → holds_word (w ∷ ws) text ≡ true → StandsIn (w ∷ ws) text
found w ws [] e = absurd (cc)
found w ws (b ∷ bs) e =
    found_or (begins_with (w ∷ ws) (b ∷ bs)) w ws (b ∷ bs) bs refl
    (λ h. let part = found w ws bs h in (b ∷ part.0, part.1, ap (λ (l : List ℕ). b ∷ l) part.2)) e

itself : (n : ℕ) → (n == n) ≡ true
itself n = grind arith

begins_itself : (word back : List ℕ) → begins_with word (word ++ back) ≡ true
begins_itself [] back = refl
begins_itself (w ∷ ws) back = rw (itself w, begins_itself ws back) refl

held : (w : ℕ) (ws front back : List ℕ) → holds_word (w ∷ ws) (front ++ ((w ∷ ws) ++ back)) ≡ true
held w ws [] back =
    or_first (begins_with (w ∷ ws) ((w ∷ ws) ++ back)) _ (begins_itself (w ∷ ws) back)
held w ws (f ∷ fs) back =
    or_later (begins_with (w ∷ ws) (f ∷ (fs ++ ((w ∷ ws) ++ back)))) _ (held w ws fs back)

pub held_exactly : (word text : List ℕ) → 0 < length word
    → (holds_word word text ≡ true) ↔ ((front : List ℕ) × (back : List ℕ)
    × (text ≡ front ++ (word ++ back)))
held_exactly [] text h = absurd (omega (arith, h))
held_exactly (w ∷ ws) text h =
    (found w ws text, λ part. rw part.2 (held w ws part.0 part.1))
