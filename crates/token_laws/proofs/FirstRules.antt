-- The piece at a place is of the first rule that fits there.
use Rattle.std.proofs.Common.{◌≡◌, ℕ, ◌+◌, ◌==◌, ◌&&◌, ◌||◌, cond, not}
use Rattle.std.proofs.Common.{inl, inr, Bool, true, false, List, [], ◌∷◌}
use Rattle.std.proofs.Common.{drop, refl, ap, ◌∙◌}
use Rattle.std.specs.List.{prefix_len}
use Rattle.sql_tokens.specs.Characters.{is_space_byte, is_word_start, is_word_byte}
use Rattle.sql_tokens.specs.PieceType.{Piece}
use Rattle.sql_tokens.specs.Runs.{begins, comment_len}
use Rattle.sql_tokens.specs.Pieces.{token, quoted_at, blob_at, bracket_at, number_len}
use Rattle.sql_tokens.specs.Pieces.{symbol_len, symbol_at, other_at, piece_from, piece_at}
use Rattle.sql_tokens.specs.declared.token.TokenKind.TheVariants as kind
use Rattle.token_laws.specs.Forms.{spaces, line_comment, word}
use Rattle.token_laws.specs.Forms.{symbol}
use Rattle.token_laws.specs.Kinds.{IsLongest, IsComment, begins_comment}
use Rattle.token_laws.specs.Rules.{Rule}
use Rattle.token_laws.specs.Rules as rule
use Rattle.token_laws.specs.Table.{table, IsFirst}
use Rattle.token_laws.proofs.Comments.{comment_rest}
use Rattle.token_laws.proofs.FirstBrackets.{bracket_first}
use Rattle.token_laws.proofs.FirstNumbers.{some_len_is, number_first, numbered_first, named_first}
use Rattle.token_laws.proofs.FirstQuotes.{behind_spaces, behind_lines, behind_text, behind_blobs}
use Rattle.token_laws.proofs.FirstQuotes.{behind_quoted, behind_word, behind_numbers}
use Rattle.token_laws.proofs.FirstQuotes.{text_first, blob_first, quoted_first, longest_is}
use Rattle.token_laws.proofs.Booleans.{left_of, right_of}
use Rattle.token_laws.proofs.Numbers.{number_is}
use Rattle.token_laws.proofs.Openers.{opens, unfit}
use Rattle.token_laws.proofs.Runs.{spaces_are, word_is, line_is, some_len}
use Rattle.token_laws.proofs.Symbols.{symbol_is}

-- one of two pieces
chosen :
    (rules : List Rule) (all : List ℕ) (v : Bool) (p q : Piece)
    → (v ≡ true → IsFirst rules all p)
    → (v ≡ false → IsFirst rules all q)
    → IsFirst rules all (cond v p q)
chosen rules all true p q h g = h refl
chosen rules all false p q h g = g refl

spaces_fit :
    (b : ℕ) (bs : List ℕ)
    → is_space_byte b ≡ true
    → IsLongest spaces (b ∷ bs) (1 + prefix_len is_space_byte bs)
spaces_fit b bs t = longest_is spaces (b ∷ bs) _ (spaces_are b bs ∙ rw t refl)

word_fits :
    (b : ℕ) (bs : List ℕ)
    → is_word_start b ≡ true
    → IsLongest word (b ∷ bs) (1 + prefix_len is_word_byte bs)
word_fits b bs t = longest_is word (b ∷ bs) _ (word_is b bs ∙ rw t refl)

line_fits :
    (b : ℕ) (bs : List ℕ)
    → (b == 45 && begins 45 bs) ≡ true
    → IsLongest line_comment (b ∷ bs) (2 + prefix_len (λ c. not (c == 10)) (drop 1 bs))
line_fits b [] t = let no_byte : false ≡ true = right_of (b == 45) false t in absurd (cc)
line_fits b (c ∷ cs) t =
    let first = left_of (b == 45) (c == 45) t in
    let next = right_of (b == 45) (c == 45) t in
    longest_is line_comment (b ∷ c ∷ cs) _ (line_is b c cs ∙ rw (first, next) refl)

comment_fits :
    (b : ℕ) (bs : List ℕ)
    → (b == 47 && begins 42 bs) ≡ true
    → IsComment (b ∷ bs) (2 + comment_len (drop 1 bs))
comment_fits b bs t = (
  left_of (b == 47) (begins 42 bs) t,
  right_of (b == 47) (begins 42 bs) t,
  (comment_len (drop 1 bs), (refl, comment_rest (drop 1 bs))),
)

symbol_first :
    (b : ℕ) (bs : List ℕ)
    → begins_comment (b ∷ bs) ≡ false
    → (b == 63) ≡ false
    → (b == 58 || b == 64 || b == 36) ≡ false
    → IsFirst behind_numbers (b ∷ bs) (symbol_at (b ∷ bs))
unfolding symbol_at
symbol_first b bs comment numbered named =
    inr (
      unfit rule.parameter b bs (rw (numbered, named) refl),
      inr (
        unfit rule.wrong_parameter b bs numbered,
        at (symbol_len (b ∷ bs)) _ refl refl,
      ),
    )
  where
    at :
        (n : ℕ) (v : Bool)
        → (n == 0) ≡ v
        → symbol_len (b ∷ bs) ≡ n
        → IsFirst (rule.symbol ∷ []) (b ∷ bs) (cond v (token kind.Bad 1) (token kind.Symbol n))
    at n true e s = inr (unfit rule.symbol b bs (rw (s, e) refl), (refl, refl))
    at n false e s =
        inl (
          refl,
          (
            comment,
            longest_is symbol (b ∷ bs) n
                (symbol_is b bs ∙ ap some_len s ∙ some_len_is n e),
          ),
        )

-- a rule that the first bytes open, or the rules behind it
rule_or_behind :
    (r : Rule) (rules : List Rule) (b : ℕ) (bs : List ℕ) (p q : Piece)
    → (opens r b bs ≡ true → IsFirst (r ∷ rules) (b ∷ bs) p)
    → (opens r b bs ≡ false → IsFirst rules (b ∷ bs) q)
    → IsFirst (r ∷ rules) (b ∷ bs) (cond (opens r b bs) p q)
rule_or_behind r rules b bs p q fits behind =
    chosen (r ∷ rules) (b ∷ bs) (opens r b bs) p q fits (λ h. inr (unfit r b bs h, behind h))

no_number_first :
    (b : ℕ) (bs : List ℕ) (p : Piece)
    → (number_len (b ∷ bs) == 0) ≡ true
    → IsFirst behind_numbers (b ∷ bs) p
    → IsFirst behind_word (b ∷ bs) p
no_number_first b bs p none rest =
    let unopened : not (number_len (b ∷ bs) == 0) ≡ false = rw none refl in
    inr (unfit rule.number b bs unopened, inr (unfit rule.joined_number b bs unopened, rest))

other_first :
    (b : ℕ) (bs : List ℕ)
    → begins_comment (b ∷ bs) ≡ false
    → IsFirst behind_word (b ∷ bs) (other_at (b ∷ bs))
unfolding other_at
other_first b bs comment =
    chosen behind_word (b ∷ bs) (number_len (b ∷ bs) == 0) _ _
    (λ none. no_number_first b bs _ none
    (chosen behind_numbers (b ∷ bs) (b == 63) _ _ (numbered_first b bs)
    (λ mark. chosen behind_numbers (b ∷ bs) (b == 58 || b == 64 || b == 36) _ _
    (named_first b bs) (λ sign. symbol_first b bs comment mark sign))))
    (λ some. number_first (number_len (b ∷ bs)) (b ∷ bs)
    (number_is (b ∷ bs) ∙ some_len_is (number_len (b ∷ bs)) some))

-- a blob's rules, or those behind them
blobs_or_behind :
    (b : ℕ) (bs : List ℕ) (q : Piece)
    → (opens rule.blob b bs ≡ false → IsFirst behind_blobs (b ∷ bs) q)
    → IsFirst behind_text (b ∷ bs) (cond (opens rule.blob b bs) (blob_at (b ∷ bs)) q)
blobs_or_behind b bs q behind =
    chosen behind_text (b ∷ bs) (opens rule.blob b bs) _ q (blob_first b bs)
    (λ h. inr (unfit rule.blob b bs h, inr (unfit rule.unpaired_blob b bs h, behind h)))

-- the rules of quoted names and of what isn't closed, or those behind them
quotes_or_behind :
    (b : ℕ) (bs : List ℕ) (q : Piece)
    → (b == 39) ≡ false
    → opens rule.blob b bs ≡ false
    → IsFirst behind_quoted (b ∷ bs) q
    → IsFirst behind_blobs (b ∷ bs)
    (cond (b == 34 || b == 96) (quoted_at kind.Quoted b (b ∷ bs))
    (cond (b == 91) (bracket_at (b ∷ bs)) q))
quotes_or_behind b bs q text blob behind =
    chosen behind_blobs (b ∷ bs) (b == 34 || b == 96) _ _ (quoted_first b bs)
    (λ quoted. chosen behind_blobs (b ∷ bs) (b == 91) _ q (bracket_first b bs)
    (λ bracket. let unquoted : opens rule.quoted b bs ≡ false = rw (quoted, bracket) refl in
    let closed : opens rule.unclosed b bs ≡ false = rw (text, blob, unquoted) refl in
    inr (unfit rule.quoted b bs unquoted, inr (unfit rule.unclosed b bs closed, behind))))

pub piece_first : (b : ℕ) (bs : List ℕ) → IsFirst table (b ∷ bs) (piece_at (b ∷ bs))
unfolding piece_at piece_from
piece_first b bs =
    rule_or_behind rule.spaces behind_spaces b bs _ _ (λ t. inl (refl, spaces_fit b bs t))
    (λ space. rule_or_behind rule.line_comment behind_lines b bs _ _
    (λ t. inl (refl, line_fits b bs t))
    (λ line. rule_or_behind rule.block_comment (rule.text ∷ behind_text) b bs _ _
    (λ t. inl (refl, comment_fits b bs t))
    (λ block. rule_or_behind rule.text behind_text b bs _ _ (text_first b bs)
    (λ text. blobs_or_behind b bs _
    (λ blob. quotes_or_behind b bs _ text blob
    (rule_or_behind rule.word behind_word b bs _ _ (λ t. inl (refl, word_fits b bs t))
    (λ word. other_first b bs (rw (line, block) refl))))))))
