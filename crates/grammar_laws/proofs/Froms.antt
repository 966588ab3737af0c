-- A query has a FROM.
use Rattle.std.proofs.Common.{◌≡◌, ℕ, Bool, true, false, not, ◌&&◌, inl, inr, Some, List, []}
use Rattle.std.proofs.Common.{◌∷◌, ◌++◌, map, refl, sym, ◌∙◌, subst}
use Rattle.std.specs.List.{list_any}
use Rattle.sql_value.specs.declared.keywords.Keyword.TheVariants as keyword
use Rattle.sql_tokens.specs.declared.terminal.Terminal.{Terminal}
use Rattle.sql_tokens.specs.declared.token.Token.{Token}
use Rattle.sql_tokens.specs.Terminals.{terminal_of}
use Rattle.sql_tree.specs.Statements.{StatementTree}
use Rattle.sql_lex.specs.Looks.{is_keyword}
use Rattle.sql_lex.specs.Patterns.{lacks_from}
use Rattle.sql_read.specs.declared.lexeme.Mark.TheVariants as mark
use Rattle.sql_read.specs.Lexemes.{Lexeme}
use Rattle.sql_read.specs.Lexemes as lexeme
use Rattle.sql_lexemes.specs.Parameters.{Met}
use Rattle.sql_parse.specs.Statements.{IsSpelled}
use Rattle.sql_parse.specs.Statements as s
use Rattle.sql_lexemes.specs.TokenLexemes.{keyword_mark, lexeme_at, met_after, lexemes_from}
use Rattle.grammar_laws.proofs.Scan.{Class, mark_class, lexeme_class, keyword_class}
use Rattle.grammar_laws.proofs.Scan as scan
use Rattle.grammar_laws.proofs.Terminals.{keyword_is, same_class, means, class_means}
use Rattle.grammar_laws.proofs.Places.{or_right}
use Rattle.grammar_laws.proofs.Places.{either, not_true, both, isnt}

abbrev is_from : Class → Bool
is_from scan.From = true
is_from _ = false

abbrev has_from : List Lexeme → Bool
has_from ts = list_any (λ l. is_from (lexeme_class l)) ts

behind : (fs ts : List Lexeme) → has_from ts ≡ true → has_from (fs ++ ts) ≡ true
behind [] ts e = e
behind (f ∷ fs) ts e = or_right (is_from (lexeme_class f)) _ (behind fs ts e)

at_from : (ts : List Lexeme) → has_from (lexeme.Fixed mark.From ∷ ts) ≡ true
unfolding lexeme_class mark_class
at_from ts = refl

-- the first lexeme is of the grammar; behind SELECT there is a FROM
abbrev IsWithFrom : List Lexeme → Type 0
IsWithFrom [] = Unit {0}
IsWithFrom (l ∷ ls) =
    (lexeme_class l ≡ scan.Select → has_from ls ≡ true) × (lexeme_class l ≡ scan.Other → ⊥)

with_from : {ts : List Lexeme} {tree : StatementTree} → IsSpelled ts tree → IsWithFrom ts
unfolding lexeme_class mark_class
with_from (s.select {qs = qs} {is = is} {ss = ss} {fs = fs} {ks = ks} {cs = cs} q i t f o c e) =
    let tail : List Lexeme = ss ++ (fs ++ (ks ++ cs)) in
    rw e (
      λ h. behind qs (is ++ lexeme.Fixed mark.From ∷ tail)
          (behind is (lexeme.Fixed mark.From ∷ tail) (at_from tail)),
      λ h. cc,
    )
with_from (s.update t u f e) = rw e (λ h. cc, λ h. cc)
with_from (s.delete t f e) = rw e (λ h. cc, λ h. cc)

abbrev has_from_word : List Terminal → Bool
has_from_word ts = list_any (λ t. is_keyword keyword.From (Some t)) ts

from_is : (c : Class) → is_from c ≡ true → c ≡ scan.From
from_is scan.From e = refl
from_is _ e = cc

other_apart : scan.Other ≡ scan.From → ⊥
other_apart e = cc

from_word :
    (text : List ℕ) (met : Met) (t : Token) → is_from (lexeme_class (lexeme_at text met t)) ≡ true →
    is_keyword keyword.From (Some (terminal_of text t)) ≡ true
unfolding lexeme_at
from_word text met t e =
    let u = terminal_of text t in
    let from = from_is (lexeme_class (lexeme_at text met t)) e in
    elim (same_class u _ _ met) [
      | inl same ↦ subst (λ c. means c u ≡ true) (sym same ∙ from) (class_means u)
      | inr other ↦ absurd (other_apart (sym other ∙ from))
    ]

from_stands :
    (text : List ℕ) (met : Met) (tokens : List Token)
    → has_from (lexemes_from text met tokens) ≡ true
    → has_from_word (map (terminal_of text) tokens) ≡ true
from_stands text met [] e = cc
from_stands text met (t ∷ ts) e =
    elim (either (is_from (lexeme_class (lexeme_at text met t)))
    (has_from (lexemes_from text (met_after text met t) ts)) e) [
      | inl here ↦ rw (from_word text met t here) refl
      | inr later ↦
          or_right (is_keyword keyword.From (Some (terminal_of text t))) _
          (from_stands text (met_after text met t) ts later)
    ]

-- no query lacks its FROM
pub no_query_without_from :
    (text : List ℕ) (met : Met) (tokens : List Token) (tree : StatementTree)
    → IsSpelled (lexemes_from text met tokens) tree
    → lacks_from (map (terminal_of text) tokens) ≡ false
unfolding lexeme_at is_keyword keyword_class keyword_mark mark_class
no_query_without_from text met [] tree spelled = refl
no_query_without_from text met (t ∷ ts) tree spelled =
    let u = terminal_of text t in
    let later = map (terminal_of text) ts in
    let with = with_from spelled in
    not_true (is_keyword keyword.Select (Some u) && not (has_from_word (u ∷ later))) (λ e.
    let are = both (is_keyword keyword.Select (Some u)) (not (has_from_word (u ∷ later))) e in
    elim (same_class u _ _ met) [
      | inl same ↦
          let from = from_stands text (met_after text met t) ts
          (with.0 (same ∙ keyword_is keyword.Select u are.0)) in
          isnt (has_from_word (u ∷ later)) are.1
          (or_right (is_keyword keyword.From (Some u)) _ from)
      | inr other ↦ with.1 other
    ])
