-- Constructs by words and symbols that the grammar hasn't at all.
use Rattle.std.proofs.Common.{◌≡◌, Bool, true, false, Option, List, [], ◌∷◌, refl}
use Rattle.sql_value.specs.declared.keywords.Keyword.{Keyword}
use Rattle.sql_value.specs.declared.keywords.Keyword.TheVariants as keyword
use Rattle.sql_value.specs.Reserved.{is_reserved_word}
use Rattle.sql_tokens.specs.declared.symbols.Symbol.{Symbol}
use Rattle.sql_tokens.specs.declared.symbols.Symbol.TheVariants as symbol
use Rattle.sql_tokens.specs.declared.terminal.Terminal.{Terminal}
use Rattle.sql_lex.specs.Looks.{is_keyword, is_keyword_among, is_symbol_among}
use Rattle.sql_lex.specs.Patterns.{fits}
use Rattle.sql_lex.specs.Contexts.{context_of}
use Rattle.sql_lex.specs.declared.constructs.Foreign.{Foreign}
use Rattle.sql_lex.specs.declared.constructs.Foreign.TheVariants as foreign
use Rattle.sql_lexemes.specs.TokenLexemes.{keyword_mark, symbol_mark}
use Rattle.grammar_laws.proofs.Scan.{Kind, keyword_class, symbol_class}
use Rattle.grammar_laws.proofs.Scan as scan
use Rattle.grammar_laws.proofs.Places.{Never, NeverAt, HaveClass}
use Rattle.grammar_laws.proofs.Places.{no_word, no_words, no_symbol, no_symbols}

abbrev pub is_other_word : Foreign → Bool
is_other_word foreign.CompoundSelect = true
is_other_word foreign.Case = true
is_other_word foreign.LikeEscape = true
is_other_word foreign.Glob = true
is_other_word foreign.Regexp = true
is_other_word foreign.Match = true
is_other_word foreign.CurrentTime = true
is_other_word foreign.GroupBy = true
is_other_word foreign.Concatenation = true
is_other_word foreign.BitOperator = true
is_other_word foreign.JsonOperator = true
is_other_word foreign.RightJoin = true
is_other_word foreign.FullJoin = true
is_other_word foreign.NaturalJoin = true
is_other_word foreign.Using = true
is_other_word foreign.IndexedBy = true
is_other_word foreign.Returning = true
is_other_word foreign.NullsFirstOrLast = true
is_other_word _ = false

module _ (k : Kind) (first : Option Terminal) where
  word :
      (w : Keyword) → keyword_class w ≡ scan.Other
      → NeverAt context_of k first (λ context. is_keyword w context.here)
  word w other p bs before t ts b h e = no_word k p bs w t other h.0 e

  words :
      (ws : List Keyword) → HaveClass keyword_class scan.Other ws
      → NeverAt context_of k first (λ context. is_keyword_among ws context.here)
  words ws others p bs before t ts b h e = no_words k p bs ws t others h.0 e

  symbols :
      (ss : List Symbol) → HaveClass symbol_class scan.Other ss
      → NeverAt context_of k first (λ context. is_symbol_among ss context.here)
  symbols ss others p bs before t ts b h e = no_symbols k p bs ss t others h.0 e

  pub no_other_word : (f : Foreign) → is_other_word f ≡ true → Never k first f
  unfolding fits keyword_class keyword_mark is_reserved_word symbol_class symbol_mark
  no_other_word foreign.CompoundSelect o =
      words (keyword.Union ∷ keyword.Intersect ∷ keyword.Except ∷ []) (refl, (refl, (refl, tt)))
  no_other_word foreign.Case o = word keyword.Case refl
  no_other_word foreign.LikeEscape o = word keyword.Escape refl
  no_other_word foreign.Glob o = word keyword.Glob refl
  no_other_word foreign.Regexp o = word keyword.Regexp refl
  no_other_word foreign.Match o = word keyword.Match refl
  no_other_word foreign.CurrentTime o =
      words (keyword.CurrentDate ∷ keyword.CurrentTime ∷ keyword.CurrentTimestamp ∷ [])
      (refl, (refl, (refl, tt)))
  no_other_word foreign.GroupBy o =
      words (keyword.Group ∷ keyword.Having ∷ []) (refl, (refl, tt))
  no_other_word foreign.Concatenation o =
      λ p bs before t ts b h e. no_symbol k p bs symbol.Concatenation t refl h.0 e
  no_other_word foreign.BitOperator o =
      symbols
      (symbol.BitOr ∷ symbol.BitAnd ∷ symbol.ShiftLeft ∷ symbol.ShiftRight ∷ symbol.BitNot ∷ [])
      (refl, (refl, (refl, (refl, (refl, tt)))))
  no_other_word foreign.JsonOperator o =
      symbols (symbol.Arrow ∷ symbol.LongArrow ∷ []) (refl, (refl, tt))
  no_other_word foreign.RightJoin o = word keyword.Right refl
  no_other_word foreign.FullJoin o = word keyword.Full refl
  no_other_word foreign.NaturalJoin o = word keyword.Natural refl
  no_other_word foreign.Using o = word keyword.Using refl
  no_other_word foreign.IndexedBy o = word keyword.Indexed refl
  no_other_word foreign.Returning o = word keyword.Returning refl
  no_other_word foreign.NullsFirstOrLast o = word keyword.Nulls refl
  no_other_word _ o = cc o
