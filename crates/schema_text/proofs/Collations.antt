-- The last COLLATE, token by token.
use Rattle.std.proofs.Common.{◌≡◌, ℕ, zero, suc, ◌+◌, ◌<◌, List, [], ◌∷◌, length, drop, get_or}
use Rattle.std.proofs.Common.{Option, None, Some, refl, ap, ◌∙◌, arith}
use Rattle.sql_tokens.specs.declared.token.Token.{Token}
use Rattle.schema_text.specs.Heads.{or_else}
use Rattle.schema_text.specs.Groups.{next_level}
use Rattle.schema_text.specs.ColumnTexts.{last_collation, at_top, collation_here}

one_by_one : (text : List ℕ) (ts : List Token) (level i : ℕ) (d : Token) → i < length ts
    → last_collation text level (drop i ts)
    ≡ or_else (last_collation text (next_level text level (get_or ts i d)) (drop (i + 1) ts))
    (at_top level (collation_here text (drop i ts)))
one_by_one text [] level i d h = absurd (omega (arith, h))
one_by_one text (t ∷ ts) level zero d h = refl
one_by_one text (t ∷ ts) level (suc i) d h = let n : suc i + 1 ≡ suc (i + 1) = omega arith in
    rw n (one_by_one text ts level i d (omega (arith, h)))

grouped : {X : Type 0} (a b c : Option X) → or_else (or_else a b) c ≡ or_else a (or_else b c)
grouped None b c = refl
grouped (Some x) b c = refl

pub next : (text : List ℕ) (ts : List Token) (level i : ℕ) (d : Token) (last : Option Token)
    → i < length ts
    → (here : List Token) → here ≡ drop i ts → (found : Option Token)
    → found ≡ at_top level (collation_here text here)
    → (now : Option Token) → now ≡ or_else found last → (behind : ℕ)
    → behind ≡ next_level text level (get_or ts i d)
    → or_else (last_collation text level (drop i ts)) last
    ≡ or_else (last_collation text behind (drop (i + 1) ts)) now
next text ts level i d last h here at found is now so behind level_is =
    rw (so, is, at, level_is)
    (ap (λ o. or_else o last) (one_by_one text ts level i d h)
    ∙ grouped (last_collation text (next_level text level (get_or ts i d)) (drop (i + 1) ts))
    (at_top level (collation_here text (drop i ts))) last)
