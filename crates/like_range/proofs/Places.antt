-- A later place in a text leaves no more of it.
use Rattle.std.proofs.Common.{take, drop, length, get_or, ◌-◌, ◌≤◌}
use Rattle.std.proofs.lemmas.List.{take_all}
use Rattle.std.proofs.Common.{◌≡◌, ℕ, Bool, true, false, refl, sym, subst, ◌∙◌, arith}
use Rattle.std.proofs.Common.{List, [], ◌∷◌, ◌==◌, ◌&&◌, ◌||◌}
use Rattle.std.proofs.lemmas.Bool.Decides.{nat_tests}
use Rattle.std.proofs.lemmas.Grind.{common_steps}
use Rattle.sql_meaning.specs.Letters.{folded}
use Rattle.sql_meaning.specs.Likes.{like, some_rest, without_continuing, continues, fits_front}
use Rattle.sql_meaning.specs.Likes.{wildcard, AnyCharacter, JustByte}
use Rattle.like_range.specs.Fronts.{Leaves, is_at_percent}

left_or : (a b : Bool) → a ≡ true → (a || b) ≡ true
left_or a b e = grind (arith, common_steps)

right_or : (a b : Bool) → b ≡ true → (a || b) ≡ true
right_or true b e = refl
right_or false b e = e

either : (a b c : Bool) → (a ≡ true → c ≡ true) → (b ≡ true → c ≡ true) → (a || b) ≡ true
    → c ≡ true
either true b c f g e = f refl
either false b c f g e = g e

last_of_both : (a b : Bool) → (a && b) ≡ true → b ≡ true
last_of_both true b e = e
last_of_both false b e = absurd (cc)

itself_is : (asked : List ℕ → Bool) (text : List ℕ) → asked text ≡ true
    → some_rest asked text ≡ true
itself_is asked [] e = e
itself_is asked (b ∷ bs) e = left_or (asked (b ∷ bs)) _ e

-- what a suffix of the text without the rest of a character is, one of the whole text is
of_shorter_when : (asked : List ℕ → Bool) (b : ℕ) (bs : List ℕ) (goes_on : Bool)
    → continues b ≡ goes_on
    → (some_rest asked (without_continuing bs) ≡ true → some_rest asked bs ≡ true)
    → some_rest asked (without_continuing (b ∷ bs)) ≡ true
    → some_rest asked (b ∷ bs) ≡ true
of_shorter_when asked b bs true g behind e = right_or (asked (b ∷ bs)) _ (behind (simp g at e))
of_shorter_when asked b bs false g behind e = simp g at e

of_shorter : (asked : List ℕ → Bool) (text : List ℕ)
    → some_rest asked (without_continuing text) ≡ true
    → some_rest asked text ≡ true
of_shorter asked [] e = e
of_shorter asked (b ∷ bs) e =
    of_shorter_when asked b bs (continues b) refl (of_shorter asked bs) e

behind_first_when : (asked : List ℕ → Bool) (b : ℕ) (bs : List ℕ) (goes_on : Bool)
    → continues b ≡ goes_on
    → some_rest asked (without_continuing bs) ≡ true
    → some_rest asked (without_continuing (b ∷ bs)) ≡ true
behind_first_when asked b bs true g e = simp g e
behind_first_when asked b bs false g e =
    simp g (right_or (asked (b ∷ bs)) _ (of_shorter asked bs e))

-- behind a character at some place there is what is left behind the first
after_characters : (asked : List ℕ → Bool) (text : List ℕ)
    → some_rest (fits_front AnyCharacter asked) text ≡ true
    → some_rest asked (without_continuing text) ≡ true
after_characters asked [] e = absurd (cc)
after_characters asked (b ∷ bs) e =
    behind_first_when asked b bs (continues b) refl (either _ _ _
    (itself_is asked (without_continuing bs)) (after_characters asked bs) e)

after_bytes : (byte : ℕ) (asked : List ℕ → Bool) (text : List ℕ)
    → some_rest (fits_front (JustByte byte) asked) text ≡ true → some_rest asked text ≡ true
after_bytes byte asked [] e = absurd (cc)
after_bytes byte asked (b ∷ bs) e =
    right_or (asked (b ∷ bs)) _ (either _ _ _
    (λ f. itself_is asked bs (last_of_both (folded b == folded byte) (asked bs) f))
    (after_bytes byte asked bs) e)

differs : (x y : ℕ) → (x ≡ y → ⊥) → (x == y) ≡ false
differs x y e = grind (arith, nat_tests)

equals : (x y : ℕ) → x ≡ y → (x == y) ≡ true
equals x y e = grind (arith, nat_tests)

byte_asked : (byte : ℕ) (asked : List ℕ → Bool) → (byte ≡ 37 → ⊥) → (byte ≡ 95 → ⊥)
    → (text : List ℕ)
    → fits_front (wildcard byte) asked text ≡ fits_front (JustByte byte) asked text
byte_asked byte asked p q text = simp (differs byte 37 p, differs byte 95 q) refl

asks_byte : (byte : ℕ) (asked : List ℕ → Bool) → (byte ≡ 37 → ⊥) → (byte ≡ 95 → ⊥)
    → fits_front (wildcard byte) asked ≡ fits_front (JustByte byte) asked
asks_byte byte asked p q i text = byte_asked byte asked p q text i

pub fits_byte : (text : List ℕ) (byte : ℕ) → 1 ≤ length text → (byte ≡ 37 → ⊥) → (byte ≡ 95 → ⊥)
    → folded (get_or text 0 0) ≡ folded byte → (pattern : List ℕ)
    → Leaves text (byte ∷ pattern) (take (length text - 1) (drop 1 text)) pattern
fits_byte [] byte h p q f pattern = absurd (omega arith)
fits_byte (b ∷ bs) byte h p q f pattern =
    rw (take_all (length (b ∷ bs) - 1) bs (omega arith)) (record {
      same = simp (differs byte 37 p, differs byte 95 q, equals (folded b) (folded byte) f) refl;
      later = λ e. either _ _ _
          (λ f. itself_is (λ rest. like rest pattern) bs
          (last_of_both (folded b == folded byte) _ f))
          (after_bytes byte (λ rest. like rest pattern) bs)
          (subst (λ asked. some_rest asked (b ∷ bs) ≡ true)
          (asks_byte byte (λ rest. like rest pattern) p q) e);
    })

pub fits_character : (text : List ℕ) → 1 ≤ length text → (pattern : List ℕ)
    → Leaves text (95 ∷ pattern)
    (without_continuing (take (length text - 1) (drop 1 text))) pattern
fits_character [] h pattern = absurd (omega arith)
fits_character (b ∷ bs) h pattern =
    rw (take_all (length (b ∷ bs) - 1) bs (omega arith)) (record {
      same = refl;
      later = λ e. either _ _ _
          (itself_is (λ rest. like rest pattern) (without_continuing bs))
          (after_characters (λ rest. like rest pattern) bs) e;
    })

both_ways : (a b : Bool) → (a ≡ true → b ≡ true) → (b ≡ true → a ≡ true) → a ≡ b
both_ways true b f g = sym (f refl)
both_ways false true f g = g refl
both_ways false false f g = refl

some_of_some : (asked : List ℕ → Bool) (text : List ℕ)
    → some_rest (some_rest asked) text ≡ true → some_rest asked text ≡ true
some_of_some asked [] e = e
some_of_some asked (b ∷ bs) e =
    either _ _ _ (λ f. f) (λ f. right_or (asked (b ∷ bs)) _ (some_of_some asked bs f)) e

-- a segment that fits and is followed by `%` needs no later place
pub first_place_serves : (from pattern rest behind : List ℕ) → Leaves from pattern rest behind
    → is_at_percent behind ≡ true → (length behind == 0) ≡ false
    → like from (37 ∷ pattern) ≡ like rest behind
first_place_serves from pattern rest [] left p h = absurd (cc)
first_place_serves from pattern rest (c ∷ more) left p h =
    let percent : c ≡ 37 = grind (arith, nat_tests) in
    subst (λ c. Leaves from pattern rest (c ∷ more)
    → like from (37 ∷ pattern) ≡ like rest (c ∷ more)) (sym percent)
    (λ left. both_ways _ _
    (λ e. some_of_some (λ rest. like rest more) rest (left.later e))
    (λ e. itself_is (λ rest. like rest pattern) from (left.same ∙ e))) left

pub whole_text_serves : (from pattern rest behind : List ℕ) → Leaves from pattern rest behind
    → (length behind == 0) ≡ true → (length rest == 0) ≡ true
    → like from (37 ∷ pattern) ≡ like rest behind
whole_text_serves from pattern [] [] left p h = itself_is (λ rest. like rest pattern) from left.same
whole_text_serves from pattern rest (c ∷ more) left p h = absurd (grind (arith, nat_tests))
whole_text_serves from pattern (b ∷ bs) [] left p h = absurd (grind (arith, nat_tests))
