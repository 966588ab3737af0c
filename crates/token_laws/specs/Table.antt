-- The table of tokens. At each place of a text stands the first rule that fits there.
use Rattle.std.specs.Prelude.{ℕ, ◌≡◌, ◌⊎◌, Option, None, Some, List, [], ◌∷◌}
use Rattle.sql_tokens.specs.PieceType.{Piece}
use Rattle.sql_tokens.specs.declared.token.TokenKind.{TokenKind}
use Rattle.sql_tokens.specs.declared.token.TokenKind.TheVariants as kind
use Rattle.token_laws.specs.Forms.{spaces, line_comment, word}
use Rattle.token_laws.specs.Kinds.{IsLongest, IsComment, IsBetweenQuotes, IsBlob, IsQuoted}
use Rattle.token_laws.specs.Kinds.{IsNumber, IsParameter, IsSymbol}
use Rattle.token_laws.specs.BadTokens.{IsUnclosed, IsUnpairedBlob, IsJoinedNumber}
use Rattle.token_laws.specs.BadTokens.{IsWrongParameter}
use Rattle.token_laws.specs.Rules.{Rule}
use Rattle.token_laws.specs.Rules as rule

-- The order counts where two rules fit: a blob, also one that went wrong, begins as a word does,
-- and a number as a point.
abbrev pub table : List Rule
table =
    rule.spaces ∷ rule.line_comment ∷ rule.block_comment ∷ rule.text ∷ rule.blob
    ∷ rule.unpaired_blob ∷ rule.quoted ∷ rule.unclosed ∷ rule.word ∷ rule.number
    ∷ rule.joined_number ∷ rule.parameter ∷ rule.wrong_parameter ∷ rule.symbol ∷ []

-- the kind of token that a rule is; none where it is skipped
abbrev pub kind_of : Rule → Option TokenKind
kind_of rule.spaces = None
kind_of rule.line_comment = None
kind_of rule.block_comment = None
kind_of rule.text = Some kind.Text
kind_of rule.blob = Some kind.Blob
kind_of rule.unpaired_blob = Some kind.Bad
kind_of rule.quoted = Some kind.Quoted
kind_of rule.unclosed = Some kind.Bad
kind_of rule.word = Some kind.Word
kind_of rule.number = Some kind.Number
kind_of rule.joined_number = Some kind.Bad
kind_of rule.parameter = Some kind.Parameter
kind_of rule.wrong_parameter = Some kind.Bad
kind_of rule.symbol = Some kind.Symbol

-- The bytes begin with a rule's form, which takes so many of them. Most forms take the longest
-- front that has them. A form between quotes ends at the first quote that isn't doubled, and a
-- block comment at its first `*/`.
abbrev pub BeginsWith : Rule → List ℕ → ℕ → Type 0
BeginsWith rule.spaces = IsLongest spaces
BeginsWith rule.line_comment = IsLongest line_comment
BeginsWith rule.block_comment = IsComment
BeginsWith rule.text = IsBetweenQuotes 39
BeginsWith rule.blob = IsBlob
BeginsWith rule.unpaired_blob = IsUnpairedBlob
BeginsWith rule.quoted = IsQuoted
BeginsWith rule.unclosed = IsUnclosed
BeginsWith rule.word = IsLongest word
BeginsWith rule.number = IsNumber
BeginsWith rule.joined_number = IsJoinedNumber
BeginsWith rule.parameter = IsParameter
BeginsWith rule.wrong_parameter = IsWrongParameter
BeginsWith rule.symbol = IsSymbol

-- the piece is of the first of these rules that fits; where none fits it is one bad byte
abbrev pub IsFirst : List Rule → List ℕ → Piece → Type 0
IsFirst [] bytes p = (p.kind ≡ Some kind.Bad) × (p.len ≡ 1)
IsFirst (rule ∷ rules) bytes p =
    ((p.kind ≡ kind_of rule) × BeginsWith rule bytes p.len)
    ⊎ (((n : ℕ) → ¬ BeginsWith rule bytes n) × IsFirst rules bytes p)

-- no rule fits
abbrev pub BeginsNothing : List ℕ → Type 0
BeginsNothing bytes = (rule : Rule) (n : ℕ) → ¬ BeginsWith rule bytes n
