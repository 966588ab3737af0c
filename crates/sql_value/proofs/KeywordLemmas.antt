-- Why a word is compared only with the keywords of its first letter.
use Rattle.std.proofs.Common.{◌≡◌, ◌<◌, ℕ, Bool, true, false, cond, None, Some, List, [], ◌∷◌}
use Rattle.std.proofs.Common.{map, length, get_or, refl, ap, ◌∙◌, arith}
use Rattle.std.specs.Prelude.{filter}
use Rattle.std.specs.Char.{to_ascii_lowercase}
use Rattle.std.proofs.lemmas.Bool.Decides.{nat_tests}
use Rattle.sql_meaning.specs.Letters.{folded}
use Rattle.sql_value.specs.declared.keywords.Keyword.{Keyword}
use Rattle.sql_value.specs.Keywords.{word_of, all_keywords, same_word, find_word, keyword_of}
use Rattle.sql_value.specs.Keywords.{starts_with, begins_with}

lower-folded : (c : ℕ) → to_ascii_lowercase c ≡ folded c
lower-folded c = grind (arith, nat_tests)

-- both ways of folding agree
pub map-lower : (bs : List ℕ) → map to_ascii_lowercase bs ≡ map folded bs
map-lower [] = refl
map-lower (c ∷ cs) = let e = lower-folded c in let es = map-lower cs in cc

-- a word that is the same begins with the same letter
same_front :
    (b : ℕ) (bs w : List ℕ)
    → same_word (b ∷ bs) w ≡ true
    → starts_with (folded b) (map folded w) ≡ true
same_front b bs [] h = h
same_front b bs (c ∷ cs) h = grind (arith, nat_tests, h)

kept :
    (b : Bool) (k : Keyword) (ks : List Keyword) (w : List ℕ)
    → (same_word w (word_of k) ≡ true → b ≡ true)
    → find_word w (cond b (k ∷ ks) ks) ≡ find_word w (k ∷ ks)
kept true k ks w h = refl
kept false k ks w h = grind (arith, h)

-- the keywords of other letters are none that the word is
find_among_letter :
    (b : ℕ) (bs : List ℕ) (ks : List Keyword)
    → find_word (b ∷ bs) (filter (begins_with (folded b)) ks) ≡ find_word (b ∷ bs) ks
find_among_letter b bs [] = refl
find_among_letter b bs (k ∷ ks) =
    kept (begins_with (folded b) k) k (filter (begins_with (folded b)) ks) (b ∷ bs)
    (same_front b bs (word_of k))
    ∙ ap (λ r. cond (same_word (b ∷ bs) (word_of k)) (Some k) r) (find_among_letter b bs ks)

-- a word is looked for among the keywords of its first letter
pub keyword_under :
    (w : List ℕ)
    → 0 < length w
    → find_word w (filter (begins_with (to_ascii_lowercase (get_or w 0 0))) all_keywords)
    ≡ keyword_of w
unfolding keyword_of
keyword_under [] h = absurd (omega arith)
keyword_under (b ∷ bs) h = rw (lower-folded b) (find_among_letter b bs all_keywords)

-- the empty word is none
pub keyword_of-nil : (w : List ℕ) → length w ≡ 0 → keyword_of w ≡ None
unfolding keyword_of all_keywords word_of
keyword_of-nil [] h = refl
keyword_of-nil (b ∷ bs) h = absurd (omega arith)
