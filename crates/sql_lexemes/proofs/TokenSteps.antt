-- One more token as a lexeme.
use Rattle.std.proofs.Common.{◌≡◌, ℕ, ◌+◌, ◌<◌, List, [], ◌∷◌, ◌++◌, length, map, drop, drop-cons}
use Rattle.std.proofs.Common.{get_or, add-one, ap, sym, ◌∙◌, append_assoc}
use Rattle.std.proofs.lemmas.List.{map-append}
use Rattle.sql_tokens.specs.declared.token.Token.{Token}
use Rattle.sql_read.specs.declared.lexeme.Lexeme.{Lexeme as BorrowedLexeme}
use Rattle.sql_read.specs.Lexemes.{Lexeme, lexeme_of, seen}
use Rattle.sql_lexemes.specs.Parameters.{Met}
use Rattle.sql_lexemes.specs.TokenLexemes.{lexeme_at, met_after, lexemes_from}

pub goes_on : (text : List ℕ) (met later : Met) (items longer : List BorrowedLexeme)
    (l : BorrowedLexeme)
    (tokens : List Token) (i : ℕ) (d : Token) → i < length tokens →
    (lexeme_of l ≡ lexeme_at text met (get_or tokens i d))
    × (later ≡ met_after text met (get_or tokens i d)) →
    longer ≡ items ++ l ∷ [] → (whole : List Lexeme)
    → seen items ++ lexemes_from text met (drop i tokens) ≡ whole →
    seen longer ++ lexemes_from text later (drop (i + 1) tokens) ≡ whole
unfolding seen
goes_on text met later items longer l tokens i d h e is whole kept =
    let front = map lexeme_of items in
    let t = get_or tokens i d in
    let rest = drop (i + 1) tokens in
    let split : drop i tokens ≡ t ∷ rest =
    drop-cons tokens i d h ∙ ap (λ k. t ∷ drop k tokens) (sym (add-one i)) in
    ap (λ q. map lexeme_of q ++ lexemes_from text later rest) is
    ∙ ap (λ q. q ++ lexemes_from text later rest) (map-append lexeme_of items (l ∷ []))
    ∙ append_assoc front (lexeme_of l ∷ []) (lexemes_from text later rest)
    ∙ ap (λ z. front ++ z ∷ lexemes_from text later rest) e.0
    ∙ ap (λ m. front ++ lexeme_at text met t ∷ lexemes_from text m rest) e.1
    ∙ ap (λ q. front ++ lexemes_from text met q) (sym split)
    ∙ kept
