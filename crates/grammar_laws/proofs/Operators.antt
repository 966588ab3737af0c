-- The pattern of operators on numbers.
use Rattle.std.proofs.Common.{◌≡◌, Bool, true, false, not, ◌&&◌, ◌||◌, inl, inr, Option, None, Some}
use Rattle.std.proofs.Common.{List, [], ◌∷◌, refl, subst}
use Rattle.sql_value.specs.declared.keywords.Keyword.TheVariants as keyword
use Rattle.sql_tokens.specs.declared.symbols.Symbol.TheVariants as symbol
use Rattle.sql_tokens.specs.declared.terminal.Terminal.{Terminal}
use Rattle.sql_lex.specs.Looks.{is_keyword, is_symbol, is_keyword_among, is_symbol_among, is_number}
use Rattle.sql_lex.specs.Looks.{is_name, is_free_word, is_literal, is_operand_end}
use Rattle.sql_lex.specs.Patterns.{fits, fits_arithmetic}
use Rattle.sql_lex.specs.declared.constructs.Foreign.TheVariants as foreign
use Rattle.sql_lexemes.specs.TokenLexemes.{symbol_mark}
use Rattle.grammar_laws.proofs.Scan.{Class, Kind, Phase, may_come, phase_behind}
use Rattle.grammar_laws.proofs.Scan.{mark_class, symbol_class, terminal_class}
use Rattle.grammar_laws.proofs.Scan as scan
use Rattle.grammar_laws.proofs.Terminals.{symbol_is, operand_end_is, ends, means, class_means}
use Rattle.grammar_laws.proofs.Places.{or_left, or_right}
use Rattle.grammar_laws.proofs.Places.{Never, Taken, Behind, either, both, isnt, seen, no_symbols}
use Rattle.grammar_laws.proofs.Places.{false_true}
use Rattle.grammar_laws.proofs.Neighbours.{behind_name, is_such}

-- The terminals before which a `*` stands.

abbrev precedes_star : Class → Bool
precedes_star scan.Comma = true
precedes_star scan.Dot = true
precedes_star scan.Select = true
precedes_star scan.All = true
precedes_star _ = false

no_star_behind_name :
    (k : Kind) (q : Phase) (bs : List Bool)
    → may_come k (phase_behind q scan.Name) bs scan.Star ≡ true → ⊥
unfolding may_come
no_star_behind_name k q bs = behind_name k q bs scan.Star false_true false_true

no_star_behind_not :
    (k : Kind) (q : Phase) (bs : List Bool)
    → may_come k (phase_behind q scan.Not) bs scan.Star ≡ true → ⊥
unfolding may_come phase_behind
no_star_behind_not k scan.AfterIs bs e = cc
no_star_behind_not k _ bs e = cc

star_behind :
    (k : Kind) (q : Phase) (bs : List Bool) (c : Class)
    → may_come k (phase_behind q c) bs scan.Star ≡ true → precedes_star c ≡ true
unfolding may_come phase_behind
star_behind k q bs scan.Name e = absurd (no_star_behind_name k q bs e)
star_behind k q bs scan.Not e = absurd (no_star_behind_not k q bs e)
star_behind k q bs scan.Comma e = refl
star_behind k q bs scan.Dot e = refl
star_behind k q bs scan.Select e = refl
star_behind k q bs scan.All e = refl
star_behind k q bs _ e = cc

abbrev may_precede_star : Option Terminal → Bool
may_precede_star before =
    is_keyword_among (keyword.Select ∷ keyword.All ∷ []) before
    || is_symbol_among (symbol.Comma ∷ symbol.Point ∷ symbol.OpenParenthesis ∷ []) before

star_says :
    (c : Class) (b : Terminal) → precedes_star c ≡ true → means c b ≡ true
    → may_precede_star (Some b) ≡ true
star_says scan.Comma b e m =
    or_right (is_keyword_among (keyword.Select ∷ keyword.All ∷ []) (Some b)) _
    (or_left (is_symbol symbol.Comma (Some b)) _ m)
star_says scan.Dot b e m =
    or_right (is_keyword_among (keyword.Select ∷ keyword.All ∷ []) (Some b)) _
    (or_right (is_symbol symbol.Comma (Some b)) _ (or_left (is_symbol symbol.Point (Some b)) _ m))
star_says scan.Select b e m =
    or_left _ (is_symbol_among (symbol.Comma ∷ symbol.Point ∷ symbol.OpenParenthesis ∷ []) (Some b))
    (or_left (is_keyword keyword.Select (Some b)) _ m)
star_says scan.All b e m =
    or_left _ (is_symbol_among (symbol.Comma ∷ symbol.Point ∷ symbol.OpenParenthesis ∷ []) (Some b))
    (or_right (is_keyword keyword.Select (Some b)) _
    (or_left (is_keyword keyword.All (Some b)) _ m))
star_says _ b e m = cc

not_begun_star : (k : Kind) (bs : List Bool) → may_come k scan.Begin bs scan.Star ≡ true → ⊥
unfolding may_come
not_begun_star scan.Query bs e = cc
not_begun_star scan.Change bs e = cc
not_begun_star scan.Removal bs e = cc

star_placed :
    (k : Kind) (p : Phase) (bs : List Bool) (before : Option Terminal) → Behind p before
    → may_come k p bs scan.Star ≡ true → may_precede_star before ≡ true
star_placed k p bs None b h =
    absurd (not_begun_star k bs (subst (λ q. may_come k q bs scan.Star ≡ true) b h))
star_placed k p bs (Some t) b h =
    let c = terminal_class t in
    star_says c t (star_behind k b.0 bs c (subst (λ q. may_come k q bs scan.Star ≡ true) b.1 h))
    (class_means t)

-- No sign behind the end of an operand.

abbrev is_sign : Class → Bool
is_sign scan.Plus = true
is_sign scan.Minus = true
is_sign _ = false

no_sign_behind_name :
    (k : Kind) (q : Phase) (bs : List Bool) (s : Class) → is_sign s ≡ true
    → may_come k (phase_behind q scan.Name) bs s ≡ true → ⊥
unfolding may_come phase_behind
no_sign_behind_name k scan.Fresh bs scan.Plus i e = cc
no_sign_behind_name k scan.Fresh bs scan.Minus i e = cc
no_sign_behind_name k scan.Anew bs scan.Plus i e = cc
no_sign_behind_name k scan.Anew bs scan.Minus i e = cc
no_sign_behind_name k _ bs scan.Plus i e = cc
no_sign_behind_name k _ bs scan.Minus i e = cc
no_sign_behind_name k _ bs _ i e = false_true i

no_sign_ended :
    (k : Kind) (bs : List Bool) (s : Class) → is_sign s ≡ true → may_come k scan.Ended bs s ≡ true
    → ⊥
unfolding may_come
no_sign_ended k bs scan.Plus i e = cc
no_sign_ended k bs scan.Minus i e = cc
no_sign_ended k bs _ i e = cc

no_sign :
    (k : Kind) (q : Phase) (bs : List Bool) (c s : Class) → ends c ≡ true → is_sign s ≡ true
    → may_come k (phase_behind q c) bs s ≡ true → ⊥
unfolding phase_behind
no_sign k q bs scan.Name s n i e = no_sign_behind_name k q bs s i e
no_sign k q bs scan.Text s n i e = no_sign_ended k bs s i e
no_sign k q bs scan.Value s n i e = no_sign_ended k bs s i e
no_sign k q bs scan.Number s n i e = no_sign_ended k bs s i e
no_sign k q bs scan.Null s n i e = no_sign_ended k bs s i e
no_sign k q bs scan.Close s n i e = no_sign_ended k bs s i e
no_sign k q bs _ s n i e = false_true n

none_ends : is_operand_end None ≡ true → ⊥
unfolding is_operand_end is_name is_free_word is_literal is_keyword is_symbol
none_ends e = cc

sign_placed :
    (k : Kind) (p : Phase) (bs : List Bool) (before : Option Terminal) (s : Class) → Behind p before
    → is_sign s ≡ true → is_operand_end before ≡ true → may_come k p bs s ≡ true → ⊥
sign_placed k p bs None s b i n h = none_ends n
sign_placed k p bs (Some t) s b i n h =
    no_sign k b.0 bs (terminal_class t) s (operand_end_is t n) i
    (subst (λ q. may_come k q bs s ≡ true) b.1 h)

-- A number behind `-`.

not_ended_minus : scan.Behind scan.AfterMinus → ⊥
not_ended_minus b = elim b [ ]

number_is : (c : Class) → scan.is_number c ≡ true → c ≡ scan.Number
number_is scan.Number e = refl
number_is _ e = cc

abbrev first_of_rest : List Terminal → Option Terminal
first_of_rest [] = None
first_of_rest (u ∷ us) = Some u

number_behind :
    (k : Kind) (bs : List Bool) (ts : List Terminal) → Taken k scan.AfterMinus bs ts
    → is_number (first_of_rest ts) ≡ true
unfolding may_come
number_behind k bs [] h = absurd (not_ended_minus h)
number_behind k bs (u ∷ us) h = is_such scan.Number u (number_is (terminal_class u) h.0)

-- the four forms of the pattern, where `next` stands behind
stray :
    (k : Kind) (p : Phase) (bs : List Bool) (before : Option Terminal) (t : Terminal)
    (ts : List Terminal)
    → Behind p before → Taken k p bs (t ∷ ts)
    → ((is_symbol_among (symbol.Slash ∷ symbol.Percent ∷ []) (Some t)
    || (is_symbol symbol.Star (Some t) && not (may_precede_star before))
    || (is_symbol_among (symbol.Plus ∷ symbol.Minus ∷ []) (Some t) && is_operand_end before)
    || (is_symbol symbol.Minus (Some t) && not (is_number (first_of_rest ts)))) ≡ true) → ⊥
unfolding symbol_class symbol_mark mark_class phase_behind
stray k p bs before t ts b h e =
    let divides = is_symbol_among (symbol.Slash ∷ symbol.Percent ∷ []) (Some t) in
    let star = is_symbol symbol.Star (Some t) && not (may_precede_star before) in
    let sign = is_symbol_among (symbol.Plus ∷ symbol.Minus ∷ [])
    (Some t) && is_operand_end before in
    let minus = is_symbol symbol.Minus (Some t) && not (is_number (first_of_rest ts)) in
    elim (either (divides || star || sign) minus e) [
      | inr w ↦
          let are = both (is_symbol symbol.Minus (Some t)) (not (is_number (first_of_rest ts))) w in
          isnt (is_number (first_of_rest ts)) are.1
          (number_behind k _ ts (seen k p bs t ts scan.Minus (symbol_is symbol.Minus t are.0) h).1)
      | inl w ↦ elim (either (divides || star) sign w) [
        | inr w ↦
            let are = both (is_symbol_among (symbol.Plus ∷ symbol.Minus ∷ []) (Some t))
            (is_operand_end before) w in
            elim (either (is_symbol symbol.Plus (Some t))
            (is_symbol symbol.Minus (Some t) || false) are.0) [
              | inl plus ↦
                  sign_placed k p bs before scan.Plus b refl are.1
                  (seen k p bs t ts scan.Plus (symbol_is symbol.Plus t plus) h).0
              | inr more ↦ elim (either (is_symbol symbol.Minus (Some t)) false more) [
                | inl less ↦
                    sign_placed k p bs before scan.Minus b refl are.1
                    (seen k p bs t ts scan.Minus (symbol_is symbol.Minus t less) h).0
                | inr none ↦ false_true none
              ]
            ]
        | inl w ↦ elim (either divides star w) [
          | inl w ↦
              no_symbols k p bs (symbol.Slash ∷ symbol.Percent ∷ []) t (refl, (refl, tt)) h.0 w
          | inr w ↦
              let are = both (is_symbol symbol.Star (Some t)) (not (may_precede_star before)) w in
              isnt (may_precede_star before) are.1
              (star_placed k p bs before b
              (seen k p bs t ts scan.Star (symbol_is symbol.Star t are.0) h).0)
        ]
      ]
    ]

pub no_arithmetic : (k : Kind) (first : Option Terminal) → Never k first foreign.Arithmetic
unfolding fits fits_arithmetic
no_arithmetic k first p bs before t [] b h e = stray k p bs before t [] b h e
no_arithmetic k first p bs before t (u ∷ us) b h e = stray k p bs before t (u ∷ us) b h e
