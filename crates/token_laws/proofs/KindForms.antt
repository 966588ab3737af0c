-- Each piece has the form of its kind, since that is what each rule says.
use Rattle.std.proofs.Common.{◌≡◌, ℕ, ◌⊎◌, inl, inr, Option, None, Some, List, [], ◌∷◌, subst}
use Rattle.std.proofs.Common.{sym}
use Rattle.sql_tokens.specs.PieceType.{Piece}
use Rattle.sql_tokens.specs.Pieces.{piece_at}
use Rattle.sql_tokens.specs.declared.token.TokenKind.{TokenKind}
use Rattle.sql_tokens.specs.declared.token.TokenKind.TheVariants as kind
use Rattle.token_laws.specs.Forms.{word}
use Rattle.token_laws.specs.KindLaws.{IsBad}
use Rattle.token_laws.specs.Kinds.{IsLongest, IsSkipped, IsNumber, IsBetweenQuotes, IsQuoted}
use Rattle.token_laws.specs.Kinds.{IsBlob, IsParameter, IsSymbol}
use Rattle.token_laws.specs.Rules.{Rule}
use Rattle.token_laws.specs.Rules as rule
use Rattle.token_laws.specs.Table.{table, kind_of, BeginsWith, BeginsNothing, IsFirst}
use Rattle.token_laws.proofs.FirstRules.{piece_first}

-- what a piece of a kind is
abbrev pub HasForm : List ℕ → Option TokenKind → ℕ → Type 0
HasForm bytes None n = IsSkipped bytes n
HasForm bytes (Some kind.Word) n = IsLongest word bytes n
HasForm bytes (Some kind.Number) n = IsNumber bytes n
HasForm bytes (Some kind.Text) n = IsBetweenQuotes 39 bytes n
HasForm bytes (Some kind.Quoted) n = IsQuoted bytes n
HasForm bytes (Some kind.Parameter) n = IsParameter bytes n
HasForm bytes (Some kind.Blob) n = IsBlob bytes n
HasForm bytes (Some kind.Symbol) n = IsSymbol bytes n
HasForm bytes (Some kind.Bad) n = IsBad bytes n

rule_form :
    (r : Rule) (bytes : List ℕ) (n : ℕ) → BeginsWith r bytes n → HasForm bytes (kind_of r) n
rule_form rule.spaces bytes n h = inl h
rule_form rule.line_comment bytes n h = inr (inl h)
rule_form rule.block_comment bytes n h = inr (inr h)
rule_form rule.text bytes n h = h
rule_form rule.blob bytes n h = h
rule_form rule.unpaired_blob bytes n h = inr (inl h)
rule_form rule.quoted bytes n h = h
rule_form rule.unclosed bytes n h = inl h
rule_form rule.word bytes n h = h
rule_form rule.number bytes n h = h
rule_form rule.joined_number bytes n h = inr (inr (inl h))
rule_form rule.parameter bytes n h = h
rule_form rule.wrong_parameter bytes n h = inr (inr (inr (inl h)))
rule_form rule.symbol bytes n h = h

-- none of these rules fits
abbrev NoneFits : List Rule → List ℕ → Type 0
NoneFits [] bytes = Unit {0}
NoneFits (r ∷ rules) bytes = ((n : ℕ) → BeginsWith r bytes n → ⊥) × NoneFits rules bytes

-- the table has each rule
nothing_begins : (bytes : List ℕ) → NoneFits table bytes → BeginsNothing bytes
nothing_begins bytes h rule.spaces = h.0
nothing_begins bytes h rule.line_comment = h.1.0
nothing_begins bytes h rule.block_comment = h.1.1.0
nothing_begins bytes h rule.text = h.1.1.1.0
nothing_begins bytes h rule.blob = h.1.1.1.1.0
nothing_begins bytes h rule.unpaired_blob = h.1.1.1.1.1.0
nothing_begins bytes h rule.quoted = h.1.1.1.1.1.1.0
nothing_begins bytes h rule.unclosed = h.1.1.1.1.1.1.1.0
nothing_begins bytes h rule.word = h.1.1.1.1.1.1.1.1.0
nothing_begins bytes h rule.number = h.1.1.1.1.1.1.1.1.1.0
nothing_begins bytes h rule.joined_number = h.1.1.1.1.1.1.1.1.1.1.0
nothing_begins bytes h rule.parameter = h.1.1.1.1.1.1.1.1.1.1.1.0
nothing_begins bytes h rule.wrong_parameter = h.1.1.1.1.1.1.1.1.1.1.1.1.0
nothing_begins bytes h rule.symbol = h.1.1.1.1.1.1.1.1.1.1.1.1.1.0

-- a piece is of a rule, or none fits
rule_or_none :
    (rules : List Rule) (bytes : List ℕ) (p : Piece)
    → IsFirst rules bytes p
    → HasForm bytes p.kind p.len
    ⊎ (NoneFits rules bytes × ((p.kind ≡ Some kind.Bad) × (p.len ≡ 1)))
rule_or_none [] bytes p h = inr (tt, h)
rule_or_none (r ∷ rules) bytes p (inl h) =
    inl (subst (λ (k : Option TokenKind). HasForm bytes k p.len) (sym (h.0))
    (rule_form r bytes p.len h.1))
rule_or_none (r ∷ rules) bytes p (inr h) = at (rule_or_none rules bytes p h.1)
  where
    at :
        (HasForm bytes p.kind p.len
        ⊎ (NoneFits rules bytes × ((p.kind ≡ Some kind.Bad) × (p.len ≡ 1))))
        → HasForm bytes p.kind p.len
        ⊎ (NoneFits (r ∷ rules) bytes × ((p.kind ≡ Some kind.Bad) × (p.len ≡ 1)))
    at (inl f) = inl f
    at (inr n) = inr ((h.0, n.0), n.1)

has_form : (bytes : List ℕ) (p : Piece) → IsFirst table bytes p → HasForm bytes p.kind p.len
has_form bytes p h = at (rule_or_none table bytes p h)
  where
    at :
        (HasForm bytes p.kind p.len
        ⊎ (NoneFits table bytes × ((p.kind ≡ Some kind.Bad) × (p.len ≡ 1))))
        → HasForm bytes p.kind p.len
    at (inl f) = f
    at (inr n) =
        subst (λ (k : Option TokenKind). HasForm bytes k p.len) (sym (n.1.0))
        (inr (inr (inr (inr (n.1.1, nothing_begins bytes n.0)))))

-- so a piece of this kind has this form
pub of_kind :
    (k : Option TokenKind) (b : ℕ) (bs : List ℕ)
    → (piece_at (b ∷ bs)).kind ≡ k
    → HasForm (b ∷ bs) k (piece_at (b ∷ bs)).len
of_kind k b bs e =
    subst (λ (j : Option TokenKind). HasForm (b ∷ bs) j (piece_at (b ∷ bs)).len) e
    (has_form (b ∷ bs) (piece_at (b ∷ bs)) (piece_first b bs))
