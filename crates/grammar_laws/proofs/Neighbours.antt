-- Patterns of terminals that stand beside each other.
use Rattle.std.proofs.Common.{◌≡◌, Bool, true, false, not, ◌&&◌, ◌||◌, ◌⊎◌, inl, inr, Option, Some}
use Rattle.std.proofs.Common.{List, [], ◌∷◌, refl, sym, subst}
use Rattle.sql_value.specs.declared.keywords.Keyword.TheVariants as keyword
use Rattle.sql_value.specs.Reserved.{is_reserved_word}
use Rattle.sql_tokens.specs.declared.symbols.Symbol.TheVariants as symbol
use Rattle.sql_tokens.specs.declared.terminal.Terminal.{Terminal}
use Rattle.sql_lex.specs.Looks.{is_keyword, is_symbol, is_keyword_among}
use Rattle.sql_lex.specs.Looks.{is_free_word}
use Rattle.sql_lex.specs.Patterns.{fits, fits_subquery, fits_window_function, fits_is}
use Rattle.sql_lex.specs.declared.constructs.Foreign.TheVariants as foreign
use Rattle.sql_lexemes.specs.TokenLexemes.{keyword_mark, symbol_mark}
use Rattle.grammar_laws.proofs.Scan.{Class, Kind, Phase, may_come, phase_behind, stack_behind}
use Rattle.grammar_laws.proofs.Scan.{mark_class, keyword_class, symbol_class, terminal_class}
use Rattle.grammar_laws.proofs.Scan as scan
use Rattle.grammar_laws.proofs.Terminals.{keyword_is, symbol_is, free_word_is}
use Rattle.grammar_laws.proofs.Terminals.{means, class_means}
use Rattle.grammar_laws.proofs.Places.{both_true}
use Rattle.grammar_laws.proofs.Places.{Never, Taken, either, both, second_false, false_true, isnt}
use Rattle.grammar_laws.proofs.Places.{comes, seen, among_is}
use Rattle.grammar_laws.proofs.Places.{no_word, no_words}

-- what a terminal is, by its class
pub is_such : (c : Class) (t : Terminal) → terminal_class t ≡ c → means c t ≡ true
is_such c t e = subst (λ d. means d t ≡ true) e (class_means t)

-- the scan doesn't end there
not_ended_in : scan.Behind scan.AfterIn → ⊥
not_ended_in b = elim b [ ]

not_ended_is : scan.Behind scan.AfterIs → ⊥
not_ended_is b = elim b [ ]

not_ended_is_not : scan.Behind scan.AfterIsNot → ⊥
not_ended_is_not b = elim b [ ]

-- no parenthesis behind a name

pub behind_name :
    (k : Kind) (p : Phase) (bs : List Bool) (c : Class)
    → (may_come k scan.Named bs c ≡ true → ⊥) → (may_come k scan.Ended bs c ≡ true → ⊥)
    → may_come k (phase_behind p scan.Name) bs c ≡ true → ⊥
unfolding phase_behind
behind_name k scan.Fresh bs c named ended = named
behind_name k scan.Anew bs c named ended = named
behind_name k _ bs c named ended = ended

uncalled :
    (k : Kind) (p : Phase) (bs : List Bool)
    → may_come k (phase_behind p scan.Name) bs scan.Open ≡ true → ⊥
unfolding may_come
uncalled k p bs = behind_name k p bs scan.Open false_true false_true

no_call :
    (k : Kind) (p : Phase) (bs : List Bool) (t u : Terminal) (ts : List Terminal)
    → terminal_class t ≡ scan.Name → Taken k p bs (t ∷ u ∷ ts)
    → is_symbol symbol.OpenParenthesis (Some u) ≡ true → ⊥
unfolding symbol_class symbol_mark mark_class
no_call k p bs t u ts e h there =
    let rest = seen k p bs t (u ∷ ts) scan.Name e h in
    uncalled k p _ (seen k _ _ u ts scan.Open (symbol_is symbol.OpenParenthesis u there) rest.1).0

pub no_function : (k : Kind) (first : Option Terminal) → Never k first foreign.Function
unfolding fits is_symbol
no_function k first p bs before t [] b h e = second_false (is_free_word (Some t)) e
no_function k first p bs before t (u ∷ ts) b h e =
    let w = both (is_free_word (Some t)) (is_symbol symbol.OpenParenthesis (Some u)) e in
    no_call k p bs t u ts (free_word_is t w.0) h w.1

pub no_cast : (k : Kind) (first : Option Terminal) → Never k first foreign.Cast
unfolding fits is_symbol keyword_class keyword_mark is_reserved_word
no_cast k first p bs before t [] b h e = second_false (is_keyword keyword.Cast (Some t)) e
no_cast k first p bs before t (u ∷ ts) b h e =
    let w = both (is_keyword keyword.Cast (Some t)) (is_symbol symbol.OpenParenthesis (Some u)) e in
    no_call k p bs t u ts (keyword_is keyword.Cast t w.0) h w.1

pub no_window_function : (k : Kind) (first : Option Terminal) → Never k first foreign.WindowFunction
unfolding fits fits_window_function is_symbol is_keyword keyword_class keyword_mark is_reserved_word
no_window_function k first p bs before t [] b h e =
    elim (either (is_keyword keyword.Window (Some t))
    (is_symbol symbol.CloseParenthesis (Some t) && false && false) e) [
      | inl w ↦ no_word k p bs keyword.Window t refl h.0 w
      | inr w ↦ second_false (is_symbol symbol.CloseParenthesis (Some t) && false) w
    ]
no_window_function k first p bs before t (u ∷ []) b h e =
    let over = is_keyword_among (keyword.Over ∷ keyword.Filter ∷ []) (Some u) in
    elim (either (is_keyword keyword.Window (Some t))
    (is_symbol symbol.CloseParenthesis (Some t) && over && false) e) [
      | inl w ↦ no_word k p bs keyword.Window t refl h.0 w
      | inr w ↦ second_false (is_symbol symbol.CloseParenthesis (Some t) && over) w
    ]
no_window_function k first p bs before t (u ∷ v ∷ ts) b h e =
    let over = is_keyword_among (keyword.Over ∷ keyword.Filter ∷ []) (Some u) in
    let behind = is_symbol symbol.OpenParenthesis (Some v) in
    elim (either (is_keyword keyword.Window (Some t))
    (is_symbol symbol.CloseParenthesis (Some t) && over && behind) e) [
      | inl w ↦ no_word k p bs keyword.Window t refl h.0 w
      | inr w ↦
          let last = both (is_symbol symbol.CloseParenthesis (Some t) && over) behind w in
          let name = both (is_symbol symbol.CloseParenthesis (Some t)) over last.0 in
          no_call k _ _ u v ts
          (among_is scan.Name (keyword.Over ∷ keyword.Filter ∷ []) u
          (refl, (refl, tt)) name.1) h.1 last.1
    ]

-- SELECT, IN and IS

no_select : (k : Kind) (bs : List Bool) → may_come k scan.Anew bs scan.Select ≡ true → ⊥
unfolding may_come
no_select k bs e = cc

unqueried :
    (k : Kind) (p : Phase) (bs : List Bool) (t : Terminal) (ts : List Terminal)
    → is_symbol symbol.OpenParenthesis (Some t) ≡ true → Taken k p bs (t ∷ ts) → (u : Terminal)
    (us : List Terminal)
    → ts ≡ u ∷ us
    → is_keyword_among (keyword.Select ∷ keyword.With ∷ keyword.Values ∷ []) (Some u) ≡ true → ⊥
unfolding symbol_class symbol_mark mark_class phase_behind keyword_class keyword_mark
    is_reserved_word
unqueried k p bs t ts there h u us e query =
    let rest = seen k p bs t ts scan.Open (symbol_is symbol.OpenParenthesis t there) h in
    let next = subst (λ r. Taken k scan.Anew (stack_behind p scan.Open bs) r) e rest.1 in
    elim (either (is_keyword keyword.Select (Some u))
    (is_keyword_among (keyword.With ∷ keyword.Values ∷ []) (Some u)) query) [
      | inl w ↦ no_select k _ (comes k scan.Anew _ keyword.Select u next.0 w)
      | inr w ↦
          no_words k scan.Anew _ (keyword.With ∷ keyword.Values ∷ []) u (refl, (refl, tt)) next.0 w
    ]

open_is : (c : Class) → scan.is_open c ≡ true → c ≡ scan.Open
open_is scan.Open e = refl
open_is _ e = cc

listed_in :
    (k : Kind) (p : Phase) (bs : List Bool) (t : Terminal) (ts : List Terminal)
    → is_keyword keyword.In (Some t) ≡ true → Taken k p bs (t ∷ ts)
    → (u : Terminal) × (us : List Terminal) × (ts ≡ u ∷ us) ×
    (is_symbol symbol.OpenParenthesis (Some u) ≡ true)
unfolding keyword_class keyword_mark mark_class phase_behind may_come
listed_in k p bs t [] there h =
    absurd (not_ended_in (seen k p bs t [] scan.In (keyword_is keyword.In t there) h).1)
listed_in k p bs t (u ∷ us) there h =
    let rest = seen k p bs t (u ∷ us) scan.In (keyword_is keyword.In t there) h in
    (u, us, refl, is_such scan.Open u (open_is (terminal_class u) rest.1.0))

pub no_subquery : (k : Kind) (first : Option Terminal) → Never k first foreign.Subquery
unfolding fits fits_subquery is_symbol is_keyword keyword_class keyword_mark is_reserved_word
no_subquery k first p bs before t [] b h e =
    let inside = is_symbol symbol.OpenParenthesis (Some t) && false in
    let exists = is_keyword keyword.Exists (Some t) in
    let listed = is_keyword keyword.In (Some t) && true in
    elim (either (inside || exists) listed e) [
      | inl w ↦ elim (either inside exists w) [
        | inl w ↦ second_false (is_symbol symbol.OpenParenthesis (Some t)) w
        | inr w ↦ no_word k p bs keyword.Exists t refl h.0 w
      ]
      | inr w ↦
          let there = listed_in k p bs t [] (both (is_keyword keyword.In (Some t)) true w).0 h in
          cc (there.2)
    ]
no_subquery k first p bs before t (u ∷ us) b h e =
    let query = is_keyword_among (keyword.Select ∷ keyword.With ∷ keyword.Values ∷ []) (Some u) in
    let inside = is_symbol symbol.OpenParenthesis (Some t) && query in
    let exists = is_keyword keyword.Exists (Some t) in
    let bare = not (is_symbol symbol.OpenParenthesis (Some u)) in
    elim (either (inside || exists) (is_keyword keyword.In (Some t) && bare) e) [
      | inl w ↦ elim (either inside exists w) [
        | inl w ↦
            let both_are = both (is_symbol symbol.OpenParenthesis (Some t)) query w in
            unqueried k p bs t (u ∷ us) both_are.0 h u us refl both_are.1
        | inr w ↦ no_word k p bs keyword.Exists t refl h.0 w
      ]
      | inr w ↦
          let both_are = both (is_keyword keyword.In (Some t)) bare w in
          let there = listed_in k p bs t (u ∷ us) both_are.0 h in
          let same : u ≡ there.0 = cc (there.2) in
          isnt (is_symbol symbol.OpenParenthesis (Some u)) both_are.1
          (subst (λ v. is_symbol symbol.OpenParenthesis (Some v) ≡ true) (sym same) there.3)
    ]

pub no_distinct : (k : Kind) (first : Option Terminal) → Never k first foreign.Distinct
unfolding fits is_keyword keyword_class keyword_mark is_reserved_word
no_distinct k first p bs before t [] b h e = second_false (is_keyword keyword.Select (Some t)) e
no_distinct k first p bs before t (u ∷ us) b h e =
    no_word k _ _ keyword.Distinct u refl h.1.0
    (both (is_keyword keyword.Select (Some t)) (is_keyword keyword.Distinct (Some u)) e).1

null_is : (c : Class) → scan.is_null c ≡ true → c ≡ scan.Null
null_is scan.Null e = refl
null_is _ e = cc

null_or_not_is : (c : Class) → scan.is_null_or_not c ≡ true → (c ≡ scan.Null) ⊎ (c ≡ scan.Not)
null_or_not_is scan.Null e = inl refl
null_or_not_is scan.Not e = inr refl
null_or_not_is _ e = cc

not_null : (a b : Bool) → not (a || b) ≡ true → (a ≡ true → ⊥) × (b ≡ true → ⊥)
not_null true b e = cc
not_null false true e = cc
not_null false false e = (false_true, false_true)

pub no_is : (k : Kind) (first : Option Terminal) → Never k first foreign.Is
unfolding fits fits_is keyword_class keyword_mark mark_class phase_behind may_come
no_is k first p bs before t [] b h e =
    let there = keyword_is keyword.Is t (both (is_keyword keyword.Is (Some t)) _ e).0 in
    not_ended_is (seen k p bs t [] scan.Is there h).1
no_is k first p bs before t (u ∷ []) b h e =
    let no = both (is_keyword keyword.Is (Some t)) _ e in
    let rest = seen k p bs t (u ∷ []) scan.Is (keyword_is keyword.Is t no.0) h in
    let apart = not_null (is_keyword keyword.Null (Some u)) _ no.1 in
    elim (null_or_not_is (terminal_class u) rest.1.0) [
      | inl w ↦ apart.0 (is_such scan.Null u w)
      | inr w ↦
          not_ended_is_not
          (seen k scan.AfterIs (stack_behind p scan.Is bs) u [] scan.Not w rest.1).1
    ]
no_is k first p bs before t (u ∷ v ∷ vs) b h e =
    let no = both (is_keyword keyword.Is (Some t)) _ e in
    let rest = seen k p bs t (u ∷ v ∷ vs) scan.Is (keyword_is keyword.Is t no.0) h in
    let apart = not_null (is_keyword keyword.Null (Some u)) _ no.1 in
    elim (null_or_not_is (terminal_class u) rest.1.0) [
      | inl w ↦ apart.0 (is_such scan.Null u w)
      | inr w ↦
          let behind = seen k scan.AfterIs (stack_behind p scan.Is bs) u
          (v ∷ vs) scan.Not w rest.1 in
          let null = is_such scan.Null v (null_is (terminal_class v) behind.1.0) in
          apart.1 (both_true (is_keyword keyword.Not (Some u)) (is_keyword keyword.Null (Some v))
          (is_such scan.Not u w) null)
    ]
