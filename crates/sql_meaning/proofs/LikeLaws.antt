-- A text that is like a pattern stands between the pattern's bounds.
use Rattle.std.specs.declared.cmp.Ordering.TheVariants.{Less, Equal}
use Rattle.std.specs.Ordering.{nat_cmp, ordering_then}
use Rattle.std.specs.Cmp.{nat_cmp_is}
use Rattle.std.specs.Cmp.Lexicographic.{slice_cmp}
use Rattle.std.specs.Option.{option_map}
use Rattle.std.proofs.Common.{◌≡◌, ◌≢◌, ◌≤◌, ◌+◌, ◌==◌, ℕ, Bool, true, false, ◌&&◌, cond, List, []}
use Rattle.std.specs.Prelude.{IfSome}
use Rattle.std.specs.List.{AllByRecursion}
use Rattle.std.proofs.Common.{◌||◌, ◌∷◌, ◌++◌, Option, Some, None, refl, ap, ap₂, sym, ◌∙◌, subst}
use Rattle.std.proofs.Common.{arith}
use Rattle.std.proofs.lemmas.Bool.{eqb-true}
use Rattle.std.proofs.lemmas.Bool.Decides.{nat_tests}
use Rattle.list_laws.proofs.Bools.{and_left, and_right}
use Rattle.sql_meaning.specs.Letters.{folded, folded_bytes}
use Rattle.sql_meaning.specs.Values.{Text, Nocase, Before}
use Rattle.sql_meaning.specs.Likes.{Wildcard, AnyBytes, AnyCharacter, JustByte, wildcard}
use Rattle.sql_meaning.specs.Likes.{fits_front}
use Rattle.sql_meaning.specs.Likes.{like, front_with, plain_front, raised, Range, range_from}
use Rattle.sql_meaning.specs.Likes.{continues, without_continuing, some_rest, no_bytes}
use Rattle.sql_meaning.specs.LikeLaws.{LikesStandInBounds, LikesIgnoreCase, CharactersStayWhole}
use Rattle.sql_meaning.proofs.Terms.{some_is}

folded_twice : (b : ℕ) → folded (folded b) ≡ folded b
folded_twice b = grind (arith, nat_tests)

folded_above : (b : ℕ) → b ≤ folded b
folded_above b = grind (arith, nat_tests)

-- the text begins with the pattern's front
pub record BeginsWith (front text : List ℕ) : Type 0 where
  pub rest : List ℕ
  pub is : text ≡ front ++ rest

front_step : (w : Wildcard) (ps text : List ℕ)
    → ((t : List ℕ) → like t ps ≡ true → BeginsWith (plain_front ps) (folded_bytes t))
    → fits_front w (λ rest. like rest ps) text ≡ true
    → BeginsWith (front_with w (plain_front ps)) (folded_bytes text)
front_step AnyBytes ps text ih h = record { rest = folded_bytes text; is = refl }
front_step AnyCharacter ps text ih h = record { rest = folded_bytes text; is = refl }
front_step (JustByte byte) ps [] ih h = absurd (cc)
front_step (JustByte byte) ps (b ∷ bs) ih h =
    let later = ih bs (and_right (folded b == folded byte) _ h) in
    record {
      rest = later.rest;
      is =
          ap₂ (λ x (xs : List ℕ). x ∷ xs)
          (eqb-true (folded b) (folded byte) (and_left _ (like bs ps) h)) later.is;
    }

begins : (text pattern : List ℕ) → like text pattern ≡ true
    → BeginsWith (plain_front pattern) (folded_bytes text)
begins text [] h = record { rest = folded_bytes text; is = refl }
begins text (p ∷ ps) h = front_step (wildcard p) ps text (λ t g. begins t ps g) h

step_folded : (w : Wildcard) (rest : List ℕ) → folded_bytes rest ≡ rest
    → folded_bytes (front_with w rest) ≡ front_with w rest
step_folded AnyBytes rest h = refl
step_folded AnyCharacter rest h = refl
step_folded (JustByte byte) rest h =
    ap₂ (λ x (xs : List ℕ). x ∷ xs) (folded_twice byte) h

front_folded : (pattern : List ℕ) → folded_bytes (plain_front pattern) ≡ plain_front pattern
front_folded [] = refl
front_folded (p ∷ ps) = step_folded (wildcard p) (plain_front ps) (front_folded ps)

tied : (b : ℕ) → nat_cmp b b ≡ Equal
tied b = sym (nat_cmp_is b b Equal refl)

-- a text isn't before what it begins with
not_before : (front rest : List ℕ) → slice_cmp nat_cmp (front ++ rest) front ≢ Less
not_before [] [] e = absurd (cc)
not_before [] (r ∷ rest) e = absurd (cc)
not_before (b ∷ front) rest e =
    not_before front rest
    (sym (ap (λ o. ordering_then o (slice_cmp nat_cmp (front ++ rest) front)) (tied b)) ∙ e)

last_case : (b : ℕ) (rest high : List ℕ) (last : Bool) → folded b ≡ b
    → cond last None (Some ((b + 1) ∷ [])) ≡ Some high
    → slice_cmp nat_cmp (b ∷ rest) (folded_bytes high) ≡ Less
last_case b rest high true f e = absurd (cc)
last_case b rest high false f e =
    subst (λ (h : List ℕ). slice_cmp nat_cmp (b ∷ rest) (folded_bytes h) ≡ Less)
    (some_is ((b + 1) ∷ []) high e)
    (ap (λ o. ordering_then o (slice_cmp nat_cmp rest []))
    (sym (nat_cmp_is b (folded (b + 1)) Less (omega (arith, folded_above (b + 1))))))

more_case : (b : ℕ) (text high : List ℕ) (o : Option (List ℕ)) → folded b ≡ b
    → ((later : List ℕ) → o ≡ Some later → slice_cmp nat_cmp text (folded_bytes later) ≡ Less)
    → option_map (λ rest. b ∷ rest) o ≡ Some high
    → slice_cmp nat_cmp (b ∷ text) (folded_bytes high) ≡ Less
more_case b text high None f ih e = absurd (cc)
more_case b text high (Some later) f ih e =
    subst (λ (h : List ℕ). slice_cmp nat_cmp (b ∷ text) (folded_bytes h) ≡ Less)
    (some_is (b ∷ later) high e)
    (ap (λ c. ordering_then (nat_cmp b c) (slice_cmp nat_cmp text (folded_bytes later))) f
    ∙ ap (λ o. ordering_then o (slice_cmp nat_cmp text (folded_bytes later))) (tied b)
    ∙ ih later refl)

head_is : (b c : ℕ) (bs cs : List ℕ) → (b ∷ bs) ≡ (c ∷ cs) → b ≡ c
head_is b c bs cs e = cc

tail_is : (b c : ℕ) (bs cs : List ℕ) → (b ∷ bs) ≡ (c ∷ cs) → bs ≡ cs
tail_is b c bs cs e = cc

-- and is before what that becomes once it is raised
before_raised : (front rest high : List ℕ) → folded_bytes front ≡ front → raised front ≡ Some high
    → slice_cmp nat_cmp (front ++ rest) (folded_bytes high) ≡ Less
before_raised [] rest high f e = absurd (cc)
before_raised (b ∷ []) rest high f e =
    last_case b rest high (b == 255) (head_is (folded b) b [] [] f) e
before_raised (b ∷ c ∷ cs) rest high f e =
    more_case b (c ∷ cs ++ rest) high (raised (c ∷ cs))
    (head_is (folded b) b (folded_bytes (c ∷ cs)) (c ∷ cs) f)
    (λ later g. before_raised (c ∷ cs) rest later
    (tail_is (folded b) b (folded_bytes (c ∷ cs)) (c ∷ cs) f) g) e

high_case : (o : Option (List ℕ)) (P : List ℕ → Type 0)
    → ((high : List ℕ) → o ≡ Some high → P high) → IfSome o P
high_case None P f = tt
high_case (Some high) P f = f high refl

within : (text front : List ℕ) (range : Range) → BeginsWith front (folded_bytes text)
    → folded_bytes front ≡ front → range_from front ≡ Some range
    → (Before Nocase (Text text) (Text range.low) → ⊥)
    × IfSome range.high (λ high. Before Nocase (Text text) (Text high))
within text [] range w f e = absurd (cc)
within text (b ∷ bs) range w f e =
    subst
    (λ (r : Range). (Before Nocase (Text text) (Text r.low) → ⊥)
    × IfSome r.high (λ high. Before Nocase (Text text) (Text high)))
    (some_is (record { low = b ∷ bs; high = raised (b ∷ bs) }) range e) (
      λ before. not_before (b ∷ bs) w.rest
          (sym (ap₂ (slice_cmp nat_cmp) w.is f) ∙ before),
      high_case (raised (b ∷ bs)) _
          (λ high g. ap (λ t. slice_cmp nat_cmp t (folded_bytes high)) w.is
          ∙ before_raised (b ∷ bs) w.rest high f g),
    )

pub likes_stand_in_bounds : LikesStandInBounds
likes_stand_in_bounds = λ text pattern range h e.
    within text (plain_front pattern) range (begins text pattern h) (front_folded pattern) e

continues_folded : (b : ℕ) → continues (folded b) ≡ continues b
continues_folded b = grind (arith, nat_tests)

without_folded : (text : List ℕ)
    → without_continuing (folded_bytes text) ≡ folded_bytes (without_continuing text)
without_folded [] = refl
without_folded (b ∷ bs) =
    ap (λ c. cond c (without_continuing (folded_bytes bs)) (folded b ∷ folded_bytes bs))
    (continues_folded b)
    ∙ either (continues b) (without_folded bs)
  where
    either : (c : Bool)
        → without_continuing (folded_bytes bs) ≡ folded_bytes (without_continuing bs)
        → cond c (without_continuing (folded_bytes bs)) (folded b ∷ folded_bytes bs)
        ≡ folded_bytes (cond c (without_continuing bs) (b ∷ bs))
    either true ih = ih
    either false ih = refl

rest_folded : (test : List ℕ → Bool) (text : List ℕ)
    → ((t : List ℕ) → test (folded_bytes t) ≡ test t)
    → some_rest test (folded_bytes text) ≡ some_rest test text
rest_folded test [] f = refl
rest_folded test (b ∷ bs) f = ap₂ (λ x y. x || y) (f (b ∷ bs)) (rest_folded test bs f)

fits_folded : (w : Wildcard) (test : List ℕ → Bool) (text : List ℕ)
    → ((t : List ℕ) → test (folded_bytes t) ≡ test t)
    → fits_front w test (folded_bytes text) ≡ fits_front w test text
fits_folded AnyBytes test text f = rest_folded test text f
fits_folded AnyCharacter test [] f = refl
fits_folded AnyCharacter test (b ∷ bs) f =
    ap test (without_folded bs) ∙ f (without_continuing bs)
fits_folded (JustByte byte) test [] f = refl
fits_folded (JustByte byte) test (b ∷ bs) f =
    ap₂ (λ c y. (c == folded byte) && y) (folded_twice b) (f bs)

none_folded : (text : List ℕ) → no_bytes (folded_bytes text) ≡ no_bytes text
none_folded [] = refl
none_folded (b ∷ bs) = refl

pub likes_ignore_case : LikesIgnoreCase
likes_ignore_case text [] = none_folded text
likes_ignore_case text (p ∷ ps) =
    fits_folded (wildcard p) (λ rest. like rest ps) text (λ t. likes_ignore_case t ps)

without_more : (more rest : List ℕ) → AllByRecursion (λ b. continues b ≡ true) more
    → without_continuing rest ≡ rest → without_continuing (more ++ rest) ≡ rest
without_more [] rest h e = e
without_more (b ∷ bs) rest h e =
    ap (λ c. cond c (without_continuing (bs ++ rest)) (b ∷ bs ++ rest)) h.0
    ∙ without_more bs rest h.1 e

pub characters_stay_whole : CharactersStayWhole
characters_stay_whole = λ byte more rest pattern h e.
    ap (λ t. like t pattern) (without_more more rest h e)
