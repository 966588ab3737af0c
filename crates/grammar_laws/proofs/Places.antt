-- Tests of places that hold nowhere in a statement that the scan takes.
use Rattle.std.proofs.Common.{◌≡◌, Bool, true, false, not, ◌&&◌, ◌||◌, ◌⊎◌, inl, inr, Option, None}
use Rattle.std.proofs.Common.{Some, List, [], ◌∷◌, refl, ◌∙◌, subst}
use Rattle.std.specs.List.{list_any}
use Rattle.sql_value.specs.declared.keywords.Keyword.{Keyword}
use Rattle.sql_tokens.specs.declared.symbols.Symbol.{Symbol}
use Rattle.sql_tokens.specs.declared.terminal.Terminal.{Terminal}
use Rattle.sql_lex.specs.Looks.{is_keyword, is_symbol, is_keyword_among, is_symbol_among}
use Rattle.sql_lex.specs.Patterns.{fits}
use Rattle.sql_lex.specs.Contexts.{context_of, fits_in}
use Rattle.sql_lex.specs.declared.constructs.Foreign.{Foreign}
use Rattle.grammar_laws.proofs.Scan.{Class, Kind, Phase, Takes, may_come, phase_behind}
use Rattle.grammar_laws.proofs.Scan.{stack_behind}
use Rattle.grammar_laws.proofs.Scan.{keyword_class, symbol_class, terminal_class}
use Rattle.grammar_laws.proofs.Scan as scan
use Rattle.grammar_laws.proofs.Terminals.{TakesFirst, no_other, keyword_is, symbol_is}

pub not_true : (b : Bool) → (b ≡ true → ⊥) → b ≡ false
not_true true contrary = absurd (contrary refl)
not_true false contrary = refl

pub either : (a b : Bool) → (a || b) ≡ true → (a ≡ true) ⊎ (b ≡ true)
either true b e = inl refl
either false b e = inr e

pub both : (a b : Bool) → (a && b) ≡ true → (a ≡ true) × (b ≡ true)
both true b e = (refl, e)
both false b e = cc

pub both_true : (a b : Bool) → a ≡ true → b ≡ true → (a && b) ≡ true
both_true a b e f = rw (e, f) refl

pub or_left : (a b : Bool) → a ≡ true → (a || b) ≡ true
or_left a b e = rw e refl

pub or_right : (a b : Bool) → b ≡ true → (a || b) ≡ true
or_right true b e = refl
or_right false b e = e

pub isnt : (a : Bool) → not a ≡ true → a ≡ true → ⊥
isnt true e f = cc
isnt false e f = cc

pub false_true : false ≡ true → ⊥
false_true e = cc

pub second_false : (a : Bool) → (a && false) ≡ true → ⊥
second_false true e = cc
second_false false e = cc

neither : (a b : Bool) → a ≡ false → b ≡ false → (a || b) ≡ false
neither a b e f = rw (e, f) refl

abbrev pub Taken : Kind → Phase → List Bool → List Terminal → Type 0
Taken k p bs ts = Takes terminal_class k p bs ts

-- what stands before a place, as the scan sees it
abbrev pub Behind : Phase → Option Terminal → Type 0
Behind p None = p ≡ scan.Begin
Behind p (Some t) = (q : Phase) × (p ≡ phase_behind q (terminal_class t))

-- the test holds at no place of a statement that begins so
abbrev pub NeverAt :
    {P : Type 0} → (Option Terminal → Option Terminal → List Terminal → P) → Kind → Option Terminal
    → (P → Bool) → Type 0
NeverAt context k first test =
    (p : Phase) (bs : List Bool) (before : Option Terminal) (t : Terminal) (ts : List Terminal)
    → Behind p before → Taken k p bs (t ∷ ts) → test (context first before (t ∷ ts)) ≡ true → ⊥

-- a construct stands at no place of a statement that begins so
abbrev pub Never : Kind → Option Terminal → Foreign → Type 0
Never k first f = NeverAt context_of k first (fits f)

fits_nowhere :
    (k : Kind) (first : Option Terminal) (test : _) → NeverAt context_of k first test
    → (p : Phase) (bs : List Bool) (before : Option Terminal) (ts : List Terminal)
    → Behind p before → Taken k p bs ts → fits_in first before ts test ≡ false
fits_nowhere k first test never p bs before [] b h = refl
fits_nowhere k first test never p bs before (t ∷ ts) b h =
    let c = terminal_class t in
    neither _ _ (not_true _ (never p bs before t ts b h))
    (fits_nowhere k first test never (phase_behind p c) (stack_behind p c bs) (Some t) ts
    (p, refl) h.1)

pub nowhere :
    (k : Kind) (first : Option Terminal) (test : _) → NeverAt context_of k first test
    → (ts : List Terminal) → Taken k scan.Begin [] ts → fits_in first None ts test ≡ false
nowhere k first test never ts h = fits_nowhere k first test never scan.Begin [] None ts refl h

-- all of these have this class
abbrev pub HaveClass : {X : Type 0} → (X → Class) → Class → List X → Type 0
HaveClass class c [] = Unit {0}
HaveClass class c (x ∷ xs) = (class x ≡ c) × HaveClass class c xs

one_is :
    {X : Type 0} (class : X → Class) (stands : X → Option Terminal → Bool)
    → ((x : X) (t : Terminal) → stands x (Some t) ≡ true → terminal_class t ≡ class x) → (c : Class)
    (xs : List X) (t : Terminal) → HaveClass class c xs
    → list_any (λ x. stands x (Some t)) xs ≡ true → terminal_class t ≡ c
one_is class stands is c [] t have e = cc
one_is class stands is c (x ∷ xs) t have e =
    elim (either (stands x (Some t)) _ e) [
      | inl one ↦ is x t one ∙ have.0
      | inr more ↦ one_is class stands is c xs t have.1 more
    ]

-- one of these words stands there, and all have this class
pub among_is :
    (c : Class) (ws : List Keyword) (t : Terminal) → HaveClass keyword_class c ws
    → is_keyword_among ws (Some t) ≡ true → terminal_class t ≡ c
among_is = one_is keyword_class is_keyword keyword_is

-- a word of this class comes there
pub comes :
    (k : Kind) (p : Phase) (bs : List Bool) (w : Keyword) (t : Terminal)
    → may_come k p bs (terminal_class t) ≡ true → is_keyword w (Some t) ≡ true
    → may_come k p bs (keyword_class w) ≡ true
comes k p bs w t h e = subst (λ c. may_come k p bs c ≡ true) (keyword_is w t e) h

-- what the grammar hasn't
absent :
    (k : Kind) (p : Phase) (bs : List Bool) (t : Terminal) → terminal_class t ≡ scan.Other
    → may_come k p bs (terminal_class t) ≡ true → ⊥
absent k p bs t other h = no_other k p bs (subst (λ c. may_come k p bs c ≡ true) other h)

pub no_word :
    (k : Kind) (p : Phase) (bs : List Bool) (w : Keyword) (t : Terminal)
    → keyword_class w ≡ scan.Other
    → may_come k p bs (terminal_class t) ≡ true → is_keyword w (Some t) ≡ true → ⊥
no_word k p bs w t other h e = absent k p bs t (keyword_is w t e ∙ other) h

pub no_words :
    (k : Kind) (p : Phase) (bs : List Bool) (ws : List Keyword) (t : Terminal)
    → HaveClass keyword_class scan.Other ws
    → may_come k p bs (terminal_class t) ≡ true → is_keyword_among ws (Some t) ≡ true → ⊥
no_words k p bs ws t others h e = absent k p bs t (among_is scan.Other ws t others e) h

pub no_symbol :
    (k : Kind) (p : Phase) (bs : List Bool) (s : Symbol) (t : Terminal)
    → symbol_class s ≡ scan.Other
    → may_come k p bs (terminal_class t) ≡ true → is_symbol s (Some t) ≡ true → ⊥
no_symbol k p bs s t other h e = absent k p bs t (symbol_is s t e ∙ other) h

pub no_symbols :
    (k : Kind) (p : Phase) (bs : List Bool) (ss : List Symbol) (t : Terminal)
    → HaveClass symbol_class scan.Other ss
    → may_come k p bs (terminal_class t) ≡ true → is_symbol_among ss (Some t) ≡ true → ⊥
no_symbols k p bs ss t others h e =
    absent k p bs t (one_is symbol_class is_symbol symbol_is scan.Other ss t others e) h

-- the scan goes on behind a terminal of this class
pub seen :
    (k : Kind) (p : Phase) (bs : List Bool) (t : Terminal) (ts : List Terminal) (c : Class)
    → terminal_class t ≡ c → Taken k p bs (t ∷ ts) → TakesFirst k p bs c ts
seen k p bs t ts c e h = subst (λ d. TakesFirst k p bs d ts) e h
