-- Patterns of the tables behind FROM, JOIN and UPDATE, and of names in three parts.
use Rattle.std.proofs.Common.{◌≡◌, Bool, true, false, ◌&&◌, inl, inr, Option, Some, List, [], ◌∷◌}
use Rattle.std.proofs.Common.{refl, sym, subst}
use Rattle.sql_value.specs.declared.keywords.Keyword.{Keyword}
use Rattle.sql_value.specs.declared.keywords.Keyword.TheVariants as keyword
use Rattle.sql_tokens.specs.declared.symbols.Symbol.TheVariants as symbol
use Rattle.sql_tokens.specs.declared.terminal.Terminal.{Terminal}
use Rattle.sql_lex.specs.Looks.{is_keyword, is_symbol, is_keyword_among, is_name, is_free_word}
use Rattle.sql_lex.specs.Patterns.{fits, fits_qualified_table}
use Rattle.sql_lex.specs.declared.constructs.Foreign.TheVariants as foreign
use Rattle.sql_lexemes.specs.TokenLexemes.{keyword_mark, symbol_mark}
use Rattle.grammar_laws.proofs.Scan.{Class, Kind, Phase, may_come, phase_behind, stack_behind}
use Rattle.grammar_laws.proofs.Scan.{mark_class, keyword_class, symbol_class, terminal_class}
use Rattle.grammar_laws.proofs.Scan as scan
use Rattle.grammar_laws.proofs.Terminals.{keyword_is, symbol_is, name_is}
use Rattle.grammar_laws.proofs.Places.{both_true}
use Rattle.grammar_laws.proofs.Places.{Never, Taken, either, both, second_false, seen}

-- words behind which a table stands
abbrev calls : Class → Bool
calls scan.From = true
calls scan.Calling = true
calls scan.Update = true
calls _ = false

abbrev AreCalls : List Keyword → Type 0
AreCalls [] = Unit {0}
AreCalls (w ∷ ws) = (calls (keyword_class w) ≡ true) × AreCalls ws

call_is :
    (ws : List Keyword) (t : Terminal) → AreCalls ws → is_keyword_among ws (Some t) ≡ true
    → calls (terminal_class t) ≡ true
call_is [] t are e = cc
call_is (w ∷ ws) t are e =
    elim (either (is_keyword w (Some t)) (is_keyword_among ws (Some t)) e) [
      | inl one ↦ subst (λ c. calls c ≡ true) (sym (keyword_is w t one)) are.0
      | inr more ↦ call_is ws t are.1 more
    ]

labels : (p : Phase) (c : Class) → calls c ≡ true → phase_behind p c ≡ scan.Label
unfolding phase_behind
labels p scan.From e = refl
labels p scan.Calling e = refl
labels p scan.Update e = refl
labels p _ e = cc

-- what stands behind such a word
called :
    (k : Kind) (p : Phase) (bs : List Bool) (ws : List Keyword) (t : Terminal) (ts : List Terminal)
    → AreCalls ws
    → Taken k p bs (t ∷ ts) → is_keyword_among ws (Some t) ≡ true
    → Taken k scan.Label (stack_behind p (terminal_class t) bs) ts
called k p bs ws t ts are h e =
    subst (λ q. Taken k q (stack_behind p (terminal_class t) bs) ts)
    (labels p (terminal_class t) (call_is ws t are e)) h.1

no_open : (k : Kind) (bs : List Bool) → may_come k scan.Label bs scan.Open ≡ true → ⊥
unfolding may_come
no_open k bs e = cc

pub no_parenthesized_join :
    (k : Kind) (first : Option Terminal) → Never k first foreign.ParenthesizedJoin
unfolding fits is_symbol keyword_class keyword_mark symbol_class symbol_mark
    mark_class
no_parenthesized_join k first p bs before t [] b h e =
    second_false (is_keyword_among (keyword.From ∷ keyword.Join ∷ []) (Some t)) e
no_parenthesized_join k first p bs before t (u ∷ us) b h e =
    let ws : List Keyword = keyword.From ∷ keyword.Join ∷ [] in
    let are = both (is_keyword_among ws (Some t)) (is_symbol symbol.OpenParenthesis (Some u)) e in
    let rest = called k p bs ws t (u ∷ us) (refl, (refl, tt)) h are.0 in
    no_open k _
    (seen k scan.Label (stack_behind p (terminal_class t) bs) u us scan.Open
    (symbol_is symbol.OpenParenthesis u are.1) rest).0

no_dot : (k : Kind) (bs : List Bool) → may_come k scan.Ended bs scan.Dot ≡ true → ⊥
unfolding may_come
no_dot k bs e = cc

-- a name where only a name may stand, and a point
unpointed :
    (k : Kind) (p : Phase) (bs : List Bool) (u v : Terminal) (vs : List Terminal)
    → phase_behind p scan.Name ≡ scan.Ended → Taken k p bs (u ∷ v ∷ vs)
    → (is_name (Some u) && is_symbol symbol.Point (Some v)) ≡ true → ⊥
unfolding symbol_class symbol_mark mark_class
unpointed k p bs u v vs ended h e =
    let are = both (is_name (Some u)) (is_symbol symbol.Point (Some v)) e in
    let rest = seen k p bs u (v ∷ vs) scan.Name (name_is u are.0) h in
    let next = subst (λ q. Taken k q (stack_behind p scan.Name bs) (v ∷ vs)) ended rest.1 in
    no_dot k _
    (seen k scan.Ended (stack_behind p scan.Name bs) v vs scan.Dot
    (symbol_is symbol.Point v are.1) next).0

three_names :
    (k : Kind) (p : Phase) (bs : List Bool) (t u v w : Terminal) (ws : List Terminal)
    → Taken k p bs (t ∷ u ∷ v ∷ w ∷ ws)
    → (is_name (Some t) && is_symbol symbol.Point (Some u) && is_name (Some v)
    && is_symbol symbol.Point (Some w)) ≡ true
    → ⊥
unfolding symbol_class symbol_mark mark_class phase_behind
three_names k p bs t u v w ws h e =
    let last = both (is_name (Some t) && is_symbol symbol.Point (Some u) && is_name (Some v))
    (is_symbol symbol.Point (Some w)) e in
    let name = both (is_name (Some t) && is_symbol symbol.Point (Some u))
    (is_name (Some v)) last.0 in
    let point = both (is_name (Some t)) (is_symbol symbol.Point (Some u)) name.0 in
    let q = phase_behind p (terminal_class t) in
    let cs = stack_behind p (terminal_class t) bs in
    let rest = seen k q cs u (v ∷ w ∷ ws) scan.Dot (symbol_is symbol.Point u point.1) h.1 in
    unpointed k scan.Dotted (stack_behind q scan.Dot cs) v w ws refl rest.1
    (both_true (is_name (Some v)) (is_symbol symbol.Point (Some w)) name.1 last.1)

pub no_qualified_table :
    (k : Kind) (first : Option Terminal) → Never k first foreign.QualifiedTable
unfolding fits fits_qualified_table is_symbol is_name is_free_word keyword_class keyword_mark
    mark_class phase_behind
no_qualified_table k first p bs before t [] b h e =
    elim (either
    (is_keyword_among (keyword.From ∷ keyword.Join ∷ keyword.Update ∷ [])
    (Some t) && false && false)
    (is_name (Some t) && false && false && false && false) e) [
      | inl w ↦
          second_false
          (is_keyword_among (keyword.From ∷ keyword.Join ∷ keyword.Update ∷ []) (Some t) && false) w
      | inr w ↦ second_false (is_name (Some t) && false && false && false) w
    ]
no_qualified_table k first p bs before t (u ∷ []) b h e =
    let called_so = is_keyword_among (keyword.From ∷ keyword.Join ∷ keyword.Update ∷ [])
    (Some t) && is_name (Some u) in
    let named_so = is_name (Some t) && is_symbol symbol.Point (Some u) && false && false in
    elim (either (called_so && false) (named_so && false) e) [
      | inl w ↦ second_false called_so w
      | inr w ↦ second_false named_so w
    ]
no_qualified_table k first p bs before t (u ∷ v ∷ []) b h e =
    let ws : List Keyword = keyword.From ∷ keyword.Join ∷ keyword.Update ∷ [] in
    let named_so = is_name (Some t) && is_symbol symbol.Point (Some u) && is_name
    (Some v) && false in
    elim (either
    (is_keyword_among ws (Some t) && is_name (Some u) && is_symbol symbol.Point (Some v))
    (named_so && false) e) [
      | inl w ↦
          let last = both (is_keyword_among ws (Some t) && is_name (Some u))
          (is_symbol symbol.Point (Some v)) w in
          let name = both (is_keyword_among ws (Some t)) (is_name (Some u)) last.0 in
          unpointed k scan.Label (stack_behind p (terminal_class t) bs) u v [] refl
          (called k p bs ws t (u ∷ v ∷ []) (refl, (refl, (refl, tt))) h name.0)
          (both_true (is_name (Some u)) (is_symbol symbol.Point (Some v)) name.1 last.1)
      | inr w ↦ second_false named_so w
    ]
no_qualified_table k first p bs before t (u ∷ v ∷ x ∷ []) b h e =
    let ws : List Keyword = keyword.From ∷ keyword.Join ∷ keyword.Update ∷ [] in
    let four = is_name (Some t) && is_symbol symbol.Point (Some u) && is_name
    (Some v) && is_symbol symbol.Point (Some x) in
    elim (either
    (is_keyword_among ws (Some t) && is_name (Some u) && is_symbol symbol.Point (Some v))
    (four && false) e) [
      | inl w ↦
          let last = both (is_keyword_among ws (Some t) && is_name (Some u))
          (is_symbol symbol.Point (Some v)) w in
          let name = both (is_keyword_among ws (Some t)) (is_name (Some u)) last.0 in
          unpointed k scan.Label (stack_behind p (terminal_class t) bs) u v (x ∷ []) refl
          (called k p bs ws t (u ∷ v ∷ x ∷ []) (refl, (refl, (refl, tt))) h name.0)
          (both_true (is_name (Some u)) (is_symbol symbol.Point (Some v)) name.1 last.1)
      | inr w ↦ three_names k p bs t u v x [] h (both four false w).0
    ]
no_qualified_table k first p bs before t (u ∷ v ∷ x ∷ y ∷ ys) b h e =
    let ws : List Keyword = keyword.From ∷ keyword.Join ∷ keyword.Update ∷ [] in
    let four = is_name (Some t) && is_symbol symbol.Point (Some u) && is_name
    (Some v) && is_symbol symbol.Point (Some x) in
    elim (either
    (is_keyword_among ws (Some t) && is_name (Some u) && is_symbol symbol.Point (Some v))
    (four && is_name (Some y)) e) [
      | inl w ↦
          let last = both (is_keyword_among ws (Some t) && is_name (Some u))
          (is_symbol symbol.Point (Some v)) w in
          let name = both (is_keyword_among ws (Some t)) (is_name (Some u)) last.0 in
          unpointed k scan.Label (stack_behind p (terminal_class t) bs) u v (x ∷ y ∷ ys) refl
          (called k p bs ws t (u ∷ v ∷ x ∷ y ∷ ys) (refl, (refl, (refl, tt))) h name.0)
          (both_true (is_name (Some u)) (is_symbol symbol.Point (Some v)) name.1 last.1)
      | inr w ↦ three_names k p bs t u v x (y ∷ ys) h (both four (is_name (Some y)) w).0
    ]
