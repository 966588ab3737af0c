-- The run of a symbol is the longest front that is one of the symbols.
use Rattle.std.proofs.Common.{◌≡◌, ℕ, ◌==◌, ◌||◌, cond, Bool, true, false}
use Rattle.std.proofs.Common.{Option, None, Some, List, [], ◌∷◌, refl, ap, sym, subst, ◌∙◌}
use Rattle.sql_tokens.specs.Pieces.{symbol_len}
use Rattle.token_laws.specs.Form.{longest}
use Rattle.token_laws.specs.Forms.{is, exactly, one_of, symbols, symbol}
use Rattle.token_laws.proofs.Longest.{of_nothing, of_byte, of_either, never, more, most}
use Rattle.token_laws.proofs.Runs.{some_len}
use Rattle.token_laws.proofs.Quotes.{same_is}

-- the length of a word where the bytes begin with it
abbrev front_len : List ℕ → List ℕ → Option ℕ
front_len [] bs = Some 0
front_len (c ∷ cs) [] = None
front_len (c ∷ cs) (b ∷ bs) = more (cond (b == c) (front_len cs bs) None)

exactly_is : (word bs : List ℕ) → longest (exactly word) bs ≡ front_len word bs
exactly_is [] bs = of_nothing bs
exactly_is (c ∷ cs) [] = refl
exactly_is (c ∷ cs) (b ∷ bs) =
    of_byte (is c) (exactly cs) b bs
    ∙ ap (λ n. more (cond (b == c) n None)) (exactly_is cs bs)

-- the length of the longest of some words with which the bytes begin
abbrev longest_of : List (List ℕ) → List ℕ → Option ℕ
longest_of [] bs = None
longest_of (word ∷ words) bs = most (front_len word bs) (longest_of words bs)

one_of_is : (words : List (List ℕ)) (bs : List ℕ) → longest (one_of words) bs ≡ longest_of words bs
one_of_is [] bs = never bs
one_of_is (word ∷ words) bs =
    of_either (exactly word) (one_of words) bs
    ∙ rw (exactly_is word bs, one_of_is words bs) refl

-- what holds at one byte and at all others holds at each
by_byte : (k : ℕ) (P : ℕ → Type 0) (b : ℕ) → P k → ((b == k) ≡ false → P b) → P b
by_byte k P b one others = at (b == k) refl
  where
    at : (v : Bool) → (b == k) ≡ v → P b
    at true e = subst (λ (c : ℕ). P c) (sym (same_is b k e)) one
    at false e = others e

-- the run is as long as the longest symbol, where this byte stands first
abbrev Found : ℕ → Type 0
Found b = (bs : List ℕ) → longest_of symbols (b ∷ bs) ≡ some_len (symbol_len (b ∷ bs))

-- the length of a symbol of two bytes, by whether the second fits
abbrev second : Bool → Option ℕ
second v = more (more (cond v (Some 0) None))

minus : Found 45
unfolding symbol_len
minus [] = refl
minus (c ∷ []) = at (c == 62)
  where
    at :
        (v : Bool)
        → most (Some 1) (most (second v) (most (more (more (cond v None None))) None))
        ≡ some_len (cond v (cond false 3 2) 1)
    at true = refl
    at false = refl
minus (c ∷ d ∷ bs) = at (c == 62) (d == 62)
  where
    at :
        (v w : Bool)
        → most (Some 1) (most (second v)
        (most (more (more (cond v (more (cond w (Some 0) None)) None))) None))
        ≡ some_len (cond v (cond w 3 2) 1)
    at true true = refl
    at true false = refl
    at false true = refl
    at false false = refl

equals : Found 61
unfolding symbol_len
equals [] = refl
equals (c ∷ cs) = at (c == 61)
  where
    at : (v : Bool) → most (Some 1) (most (second v) None) ≡ some_len (cond v 2 1)
    at true = refl
    at false = refl

less : Found 60
unfolding symbol_len
less [] = refl
less (c ∷ cs) = at (c == 62) (c == 61) (c == 60)
  where
    at :
        (v w x : Bool)
        → most (second v) (most (Some 1)
        (most (second w) (most (second x) None)))
        ≡ some_len (cond (w || v || x) 2 1)
    at true true true = refl
    at true true false = refl
    at true false true = refl
    at true false false = refl
    at false true true = refl
    at false true false = refl
    at false false true = refl
    at false false false = refl

greater : Found 62
unfolding symbol_len
greater [] = refl
greater (c ∷ cs) = at (c == 61) (c == 62)
  where
    at :
        (v w : Bool)
        → most (Some 1) (most (second v)
        (most (second w) None))
        ≡ some_len (cond (v || w) 2 1)
    at true true = refl
    at true false = refl
    at false true = refl
    at false false = refl

not_equal : Found 33
unfolding symbol_len
not_equal [] = refl
not_equal (c ∷ cs) = at (c == 61)
  where
    at : (v : Bool) → most (second v) None ≡ some_len (cond v 2 0)
    at true = refl
    at false = refl

bar : Found 124
unfolding symbol_len
bar [] = refl
bar (c ∷ cs) = at (c == 124)
  where
    at :
        (v : Bool)
        → most (second v) (most (Some 1) None) ≡ some_len (cond v 2 1)
    at true = refl
    at false = refl

found : (b : ℕ) → Found b
unfolding symbol_len
found b =
    by_byte 45 Found b minus (λ n45. by_byte 61 Found b equals (λ n61.
    by_byte 60 Found b less (λ n60. by_byte 62 Found b greater (λ n62.
    by_byte 33 Found b not_equal (λ n33. by_byte 124 Found b bar (λ n124.
    by_byte 40 Found b (λ bs. refl) (λ n40. by_byte 41 Found b (λ bs. refl) (λ n41.
    by_byte 44 Found b (λ bs. refl) (λ n44. by_byte 59 Found b (λ bs. refl) (λ n59.
    by_byte 46 Found b (λ bs. refl) (λ n46. by_byte 43 Found b (λ bs. refl) (λ n43.
    by_byte 42 Found b (λ bs. refl) (λ n42. by_byte 47 Found b (λ bs. refl) (λ n47.
    by_byte 37 Found b (λ bs. refl) (λ n37. by_byte 38 Found b (λ bs. refl) (λ n38.
    by_byte 126 Found b (λ bs. refl) (λ n126. λ bs.
    rw (n45, n61, n60, n62, n33, n124, n40, n41, n44, n59, n46, n43, n42, n47, n37, n38, n126)
    refl)))))))))))))))))

pub symbol_is : (b : ℕ) (bs : List ℕ) → longest symbol (b ∷ bs) ≡ some_len (symbol_len (b ∷ bs))
symbol_is b bs = one_of_is symbols (b ∷ bs) ∙ found b bs
