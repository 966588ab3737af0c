-- That each piece has the form of its kind.
use Rattle.std.specs.Prelude.{ℕ, ◌≡◌, ◌⊎◌, Option, None, Some, List, ◌∷◌}
use Rattle.sql_tokens.specs.Pieces.{piece_at}
use Rattle.sql_tokens.specs.declared.token.TokenKind.{TokenKind}
use Rattle.sql_tokens.specs.declared.token.TokenKind.TheVariants as kind
use Rattle.token_laws.specs.Forms.{word}
use Rattle.token_laws.specs.Kinds.{IsLongest, IsSkipped, IsNumber, IsBetweenQuotes, IsQuoted}
use Rattle.token_laws.specs.Kinds.{IsBlob, IsParameter, IsSymbol}
use Rattle.token_laws.specs.BadTokens.{IsUnclosed, IsUnpairedBlob, IsJoinedNumber}
use Rattle.token_laws.specs.BadTokens.{IsWrongParameter}
use Rattle.token_laws.specs.Table.{BeginsNothing}

-- a form that went wrong, or one byte that begins none
abbrev pub IsBad : List ℕ → ℕ → Type 0
IsBad bytes n =
    IsUnclosed bytes n ⊎ (IsUnpairedBlob bytes n ⊎ (IsJoinedNumber bytes n
    ⊎ (IsWrongParameter bytes n ⊎ ((n ≡ 1) × BeginsNothing bytes))))

-- where the piece at the front is of this kind, its bytes are this
abbrev pub OfKind : Option TokenKind → (List ℕ → ℕ → Type 0) → Type 0
OfKind k IsForm =
    (b : ℕ) (bs : List ℕ)
    → (piece_at (b ∷ bs)).kind ≡ k
    → IsForm (b ∷ bs) (piece_at (b ∷ bs)).len

abbrev pub SkippedIsSpaceOrComment : Type 0
SkippedIsSpaceOrComment = OfKind None IsSkipped

abbrev pub WordIsLongest : Type 0
WordIsLongest = OfKind (Some kind.Word) (IsLongest word)

abbrev pub NumberIsLongest : Type 0
NumberIsLongest = OfKind (Some kind.Number) IsNumber

abbrev pub TextIsBetweenQuotes : Type 0
TextIsBetweenQuotes = OfKind (Some kind.Text) (IsBetweenQuotes 39)

abbrev pub QuotedIsBetweenQuotes : Type 0
QuotedIsBetweenQuotes = OfKind (Some kind.Quoted) IsQuoted

abbrev pub BlobIsOfPairs : Type 0
BlobIsOfPairs = OfKind (Some kind.Blob) IsBlob

abbrev pub ParameterIsLongest : Type 0
ParameterIsLongest = OfKind (Some kind.Parameter) IsParameter

abbrev pub SymbolIsLongest : Type 0
SymbolIsLongest = OfKind (Some kind.Symbol) IsSymbol

abbrev pub BadWentWrong : Type 0
BadWentWrong = OfKind (Some kind.Bad) IsBad
