-- Words of a text, byte by byte, and the numbers that they are.
use Rattle.std.proofs.Common.{◌≡◌, ℕ, zero, suc, ◌+◌, ◌-◌, ◌^◌, ◌<◌, ◌≤◌, Bool, true, false, ◌==◌}
use Rattle.std.proofs.Common.{cond, refl, arith, ap, sym, ◌∙◌, List, [], ◌∷◌, ◌++◌, length, take}
use Rattle.std.proofs.Common.{drop, get_or, Option, Some, None, append_assoc, append-nil}
use Rattle.std.proofs.Common.{add-one, nat_eq}
use Rattle.std.proofs.Common.{◌||◌}
use Rattle.sql_meaning.specs.Numbers.{digits_up_to}
use Rattle.std.specs.Cmp.Lexicographic.{pointwise, texts_ties}
use Rattle.std.proofs.lemmas.Bool.{eq-eqb}
use Rattle.std.proofs.lemmas.Bool.Decides.{nat_tests}
use Rattle.std.proofs.lemmas.List.{length-map}
use Rattle.std.proofs.Math.Seq.{drop-cons}
use Rattle.plan_choice.specs.GivenFigures.{has_word}
use Rattle.plan_choice.specs.GivenFigures.{Counts, before_words, words_of, read_counts, with_number}
use Rattle.stat_figures.specs.GivenCounts.{numbers_of, number_before}
use Rattle.stat_figures.specs.Words.{behind_start, lent_words}
use denote.Ref.{Bor}

none_case : (b : Bool) (byte : ℕ) (word : List ℕ) (words : List (List ℕ))
    → behind_start [] (cond b ([] ∷ word ∷ words) ((byte ∷ word) ∷ words))
    ≡ cond b ([] ∷ word ∷ words) ((byte ∷ word) ∷ words)
none_case true byte word words = refl
none_case false byte word words = refl

before_none : (byte : ℕ) (words : List (List ℕ))
    → behind_start [] (before_words byte words) ≡ before_words byte words
before_none byte [] = refl
before_none byte (word ∷ words) = none_case (byte == 32) byte word words

-- words that begin at their start
pub behind_none : (text : List ℕ) → behind_start [] (words_of text) ≡ words_of text
behind_none [] = refl
behind_none (byte ∷ bytes) = before_none byte (words_of bytes)

-- there is a word
some_words : (text : List ℕ) → 0 < length (words_of text)
some_words [] = omega arith
some_words (byte ∷ bytes) = go byte (words_of bytes)
  where
    each : (b : Bool) (byte : ℕ) (word : List ℕ) (words : List (List ℕ))
        → 0 < length (cond b ([] ∷ word ∷ words) ((byte ∷ word) ∷ words))
    each true byte word words = omega arith
    each false byte word words = omega arith

    go : (byte : ℕ) (words : List (List ℕ)) → 0 < length (before_words byte words)
    go byte [] = omega arith
    go byte (word ∷ words) = each (byte == 32) byte word words

space_case : (start : List ℕ) (done words : List (List ℕ)) (byte : ℕ) → 0 < length words
    → (byte == 32) ≡ true
    → done ++ behind_start start (before_words byte words) ≡ (done ++ start ∷ []) ++ words
space_case start done [] byte some e = absurd (omega arith)
space_case start done (word ∷ words) byte some e =
    rw e
    (ap (λ w. done ++ (w ∷ word ∷ words)) (append-nil start)
    ∙ sym (append_assoc done (start ∷ []) (word ∷ words)))

-- a space ends a word
pub space_step : (start : List ℕ) (done : List (List ℕ)) (byte : ℕ) (bytes : List ℕ)
    → (byte == 32) ≡ true
    → done ++ behind_start start (words_of (byte ∷ bytes))
    ≡ (done ++ start ∷ []) ++ behind_start [] (words_of bytes)
space_step start done byte bytes e =
    space_case start done (words_of bytes) byte (some_words bytes) e
    ∙ ap (λ ws. (done ++ start ∷ []) ++ ws) (sym (behind_none bytes))

byte_case : (start : List ℕ) (words : List (List ℕ)) (byte : ℕ) → 0 < length words
    → (byte == 32) ≡ false
    → behind_start start (before_words byte words) ≡ behind_start (start ++ byte ∷ []) words
byte_case start [] byte some e = absurd (omega arith)
byte_case start (word ∷ words) byte some e =
    rw e (ap (λ w. w ∷ words) (sym (append_assoc start (byte ∷ []) word)))

-- any other byte goes on
pub byte_step : (start : List ℕ) (byte : ℕ) (bytes : List ℕ) → (byte == 32) ≡ false
    → behind_start start (words_of (byte ∷ bytes))
    ≡ behind_start (start ++ byte ∷ []) (words_of bytes)
byte_step start byte bytes e = byte_case start (words_of bytes) byte (some_words bytes) e

-- too few words
none_with : (o : Option ℕ) → with_number o None ≡ None
none_with None = refl
none_with (Some n) = refl

pub too_few : (n : ℕ) (words : List (List ℕ)) → length words < n → read_counts n words ≡ None
too_few zero words h = absurd (omega arith)
too_few (suc n) [] h = refl
too_few (suc n) (word ∷ words) h =
    ap (with_number (digits_up_to (2 ^ 63 - 1) word)) (too_few n words (omega arith))
    ∙ none_with (digits_up_to (2 ^ 63 - 1) word)

abbrev pub with_rest : List (List ℕ) → Option (List ℕ) → Option Counts
with_rest rest None = None
with_rest rest (Some ns) = Some (record { numbers = ns; rest = rest })

rest_case : (rest : List (List ℕ)) (o : Option ℕ) (ns : Option (List ℕ))
    → with_number o (with_rest rest ns) ≡ with_rest rest (number_before o ns)
rest_case rest None ns = refl
rest_case rest (Some n) None = refl
rest_case rest (Some n) (Some ns) = refl

-- so many words, and those behind them
pub read_by_numbers : (n : ℕ) (words : List (List ℕ)) → n ≤ length words
    → read_counts n words ≡ with_rest (drop n words) (numbers_of (take n words))
read_by_numbers zero words h = refl
read_by_numbers (suc n) [] h = absurd (omega arith)
read_by_numbers (suc n) (word ∷ words) h =
    ap (with_number (digits_up_to (2 ^ 63 - 1) word)) (read_by_numbers n words (omega arith))
    ∙ rest_case (drop n words) (digits_up_to (2 ^ 63 - 1) word) (numbers_of (take n words))

abbrev pub behind_numbers : List ℕ → Option (List ℕ) → Option (List ℕ)
behind_numbers ns None = None
behind_numbers ns (Some ms) = Some (ns ++ ms)

other_byte : (a b : ℕ) → (a ≡ b → ⊥) → (a == b) ≡ false
other_byte a b h = grind (arith, nat_tests)

take_here : (xs : List ℕ) (i : ℕ) → i < length xs
    → take (suc i) xs ≡ take i xs ++ get_or xs i 0 ∷ []
take_here [] i l = absurd (omega arith)
take_here (x ∷ xs) zero l = refl
take_here (x ∷ xs) (suc i) l = ap (λ l. x ∷ l) (take_here xs i (omega arith))

take_byte : (xs : List ℕ) (s i : ℕ) → s ≤ i → i < length xs
    → take (i + 1 - s) (drop s xs) ≡ take (i - s) (drop s xs) ++ get_or xs i 0 ∷ []
take_byte [] s i h l = absurd (omega arith)
take_byte (x ∷ xs) zero i h l =
    ap (λ n. take n (x ∷ xs)) (more i) ∙ take_here (x ∷ xs) i l
    ∙ ap (λ n. take n (x ∷ xs) ++ get_or (x ∷ xs) i 0 ∷ []) (less i)
  where
    more : (i : ℕ) → i + 1 - 0 ≡ suc i
    more i = omega arith

    less : (i : ℕ) → i ≡ i - 0
    less i = omega arith
take_byte (x ∷ xs) (suc s) zero h l = absurd (omega arith)
take_byte (x ∷ xs) (suc s) (suc i) h l =
    ap (λ n. take n (drop s xs)) (more i s)
    ∙ take_byte xs s i (omega arith) (omega arith)
    ∙ ap (λ n. take n (drop s xs) ++ get_or xs i 0 ∷ []) (less i s)
  where
    more : (i s : ℕ) → suc i + 1 - suc s ≡ i + 1 - s
    more i s = omega arith

    less : (i s : ℕ) → i - s ≡ suc i - suc s
    less i s = omega arith

-- one byte further, where it is a space
pub spaced : (text start : List ℕ) (done new : List (List ℕ)) (i s t : ℕ) → i < length text
    → s ≤ i → get_or text i 0 ≡ 32 → start ≡ take (i - s) (drop s text)
    → new ≡ done ++ start ∷ [] → t ≡ i + 1
    → done ++ behind_start (take (i - s) (drop s text)) (words_of (drop i text)) ≡ words_of text
    → new ++ behind_start (take (i + 1 - t) (drop t text)) (words_of (drop (i + 1) text))
    ≡ words_of text
spaced text start done new i s t l h space from is at before =
    let past : i + 1 - t ≡ 0 = omega (arith, at) in
    let none : take (i + 1 - t) (drop t text) ≡ [] = ap (λ n. take n (drop t text)) past in
    let cut : drop i text ≡ get_or text i 0 ∷ drop (i + 1) text =
    rw add-one (drop-cons text i 0 l) in
    ap (λ ws. ws ++ behind_start (take (i + 1 - t) (drop t text)) (words_of (drop (i + 1) text))) is
    ∙ ap (λ p. (done ++ start ∷ []) ++ behind_start p (words_of (drop (i + 1) text))) none
    ∙ ap (λ p. (done ++ p ∷ []) ++ behind_start [] (words_of (drop (i + 1) text))) from
    ∙ sym
    (ap (λ bs. done ++ behind_start (take (i - s) (drop s text)) (words_of bs)) cut
    ∙ space_step (take (i - s) (drop s text)) done (get_or text i 0) (drop (i + 1) text)
    (eq-eqb (get_or text i 0) 32 space))
    ∙ before

-- and where it isn't
pub went_on : (text : List ℕ) (done new : List (List ℕ)) (i s t : ℕ) → i < length text → s ≤ i
    → (get_or text i 0 ≡ 32 → ⊥) → new ≡ done → t ≡ s
    → done ++ behind_start (take (i - s) (drop s text)) (words_of (drop i text)) ≡ words_of text
    → new ++ behind_start (take (i + 1 - t) (drop t text)) (words_of (drop (i + 1) text))
    ≡ words_of text
went_on text done new i s t l h other is at before =
    let cut : drop i text ≡ get_or text i 0 ∷ drop (i + 1) text =
    rw add-one (drop-cons text i 0 l) in
    let rest = drop (i + 1) text in
    ap (λ ws. ws ++ behind_start (take (i + 1 - t) (drop t text)) (words_of rest)) is
    ∙ ap (λ u. done ++ behind_start (take (i + 1 - u) (drop u text)) (words_of rest)) at
    ∙ ap (λ p. done ++ behind_start p (words_of rest)) (take_byte text s i h l)
    ∙ sym
    (ap (λ bs. done ++ behind_start (take (i - s) (drop s text)) (words_of bs)) cut
    ∙ ap (λ ws. done ++ ws)
    (byte_step (take (i - s) (drop s text)) (get_or text i 0) rest
    (other_byte (get_or text i 0) 32 other)))
    ∙ before

-- words that are lent
pub has_next : (word : List ℕ) (words : List (Bor (List ℕ))) (i : ℕ) (d : Bor (List ℕ))
    → i < length words
    → has_word word (lent_words (drop i words))
    ≡ (pointwise nat_eq (get_or words i d).now word
    || has_word word (lent_words (drop (i + 1) words)))
has_next word words i d h =
    let cut : drop i words ≡ get_or words i d ∷ drop (i + 1) words =
    rw add-one (drop-cons words i d h) in
    ap (λ ws. has_word word (lent_words ws)) cut
    ∙ ap (λ b. b || has_word word (lent_words (drop (i + 1) words)))
    (sym (texts_ties (get_or words i d).now word))

lent_first : (n : ℕ) (words : List (Bor (List ℕ)))
    → lent_words (take n words) ≡ take n (lent_words words)
lent_first zero words = refl
lent_first (suc n) [] = refl
lent_first (suc n) (word ∷ words) = ap (λ ws. word.now ∷ ws) (lent_first n words)

lent_later : (n : ℕ) (words : List (Bor (List ℕ)))
    → lent_words (drop n words) ≡ drop n (lent_words words)
lent_later zero words = refl
lent_later (suc n) [] = refl
lent_later (suc n) (word ∷ words) = lent_later n words

-- the counts of words that are cut in two
pub counts_by : (n : ℕ) (words front back : List (Bor (List ℕ))) (all : List (List ℕ))
    (numbers : Option (List ℕ)) → n ≤ length words → lent_words words ≡ all
    → front ≡ take n words → back ≡ drop n words → numbers ≡ numbers_of (lent_words front)
    → read_counts n all ≡ with_rest (lent_words back) numbers
counts_by n words front back all numbers h e f g k =
    ap (read_counts n) (sym e)
    ∙ read_by_numbers n (lent_words words) (simp length-map (omega arith))
    ∙ ap (λ ws. with_rest ws (numbers_of (take n (lent_words words)))) (sym (lent_later n words))
    ∙ ap (λ ws. with_rest (lent_words ws) (numbers_of (take n (lent_words words)))) (sym g)
    ∙ ap (λ ws. with_rest (lent_words back) (numbers_of ws)) (sym (lent_first n words))
    ∙ ap (λ ws. with_rest (lent_words back) (numbers_of (lent_words ws))) (sym f)
    ∙ ap (with_rest (lent_words back)) (sym k)

pub too_few_lent : (n : ℕ) (words : List (Bor (List ℕ))) (all : List (List ℕ)) → length words < n
    → lent_words words ≡ all → None ≡ read_counts n all
too_few_lent n words all h e =
    sym (too_few n (lent_words words) (simp length-map (omega arith)))
    ∙ ap (read_counts n) e
