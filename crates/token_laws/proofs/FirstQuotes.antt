-- What stands first where a quote or a bracket does.
use Rattle.std.proofs.Common.{◌≡◌, ℕ, ◌+◌, ◌%◌, ◌==◌, ◌&&◌, ◌||◌, cond, ◌⊎◌}
use Rattle.std.proofs.Common.{inl, inr, Bool, true, false, Option, None, Some, List, [], ◌∷◌}
use Rattle.std.proofs.Common.{length, take, drop, refl, ap, sym, subst, ◌∙◌, arith}
use Rattle.std.proofs.Math.Seq.{take-append_seam}
use Rattle.std.specs.List.{prefix_len}
use Rattle.std.specs.Char.{is_ascii_hexdigit}
use Rattle.sql_tokens.specs.PieceType.{Piece}
use Rattle.sql_tokens.specs.Runs.{begins, inside_len}
use Rattle.sql_tokens.specs.Pieces.{token, piece_or, quoted_at, blob_at}
use Rattle.sql_tokens.specs.declared.token.TokenKind.TheVariants as kind
use Rattle.token_laws.specs.Form.{Form, longest}
use Rattle.token_laws.specs.Forms.{is, doubled, pairs, Closed}
use Rattle.token_laws.specs.Kinds.{IsLongest, IsBetweenQuotes, IsQuoted, IsBlobOf}
use Rattle.token_laws.specs.BadTokens.{IsOpen, OpensQuoted, OpensBlob, OpensBracket}
use Rattle.token_laws.specs.Rules.{Rule}
use Rattle.token_laws.specs.Rules as rule
use Rattle.token_laws.specs.Table.{IsFirst}
use Rattle.token_laws.proofs.Blobs.{all_even, pairs_are}
use Rattle.token_laws.proofs.Booleans.{left_of, right_of}
use Rattle.token_laws.proofs.Longest.{longest_within, passes, no_longer}
use Rattle.token_laws.proofs.OneLength.{closed_len, closed_once}
use Rattle.token_laws.proofs.Openers.{unfit, front_byte}
use Rattle.token_laws.proofs.Quotes.{found, same_is}

pub longest_is : (f : Form) (bs : List ℕ) (n : ℕ) → longest f bs ≡ Some n → IsLongest f bs n
longest_is f bs n e =
    (longest_within f bs n e, passes f bs n e, λ m lt le. no_longer f bs n m e lt le)

-- the rules of the table behind some of them
abbrev pub behind_numbers : List Rule
behind_numbers = rule.parameter ∷ rule.wrong_parameter ∷ rule.symbol ∷ []

abbrev pub behind_word : List Rule
behind_word = rule.number ∷ rule.joined_number ∷ behind_numbers

abbrev pub behind_quoted : List Rule
behind_quoted = rule.word ∷ behind_word

abbrev pub behind_blobs : List Rule
behind_blobs = rule.quoted ∷ rule.unclosed ∷ behind_quoted

abbrev pub behind_text : List Rule
behind_text = rule.blob ∷ rule.unpaired_blob ∷ behind_blobs

abbrev pub behind_lines : List Rule
behind_lines = rule.block_comment ∷ rule.text ∷ behind_text

abbrev pub behind_spaces : List Rule
behind_spaces = rule.line_comment ∷ behind_lines

-- a quoted form's piece, or the bad one where nothing closes it
closed_or_open :
    (rules : List Rule) (all : List ℕ) (n : ℕ) (x : Option ℕ) (f : ℕ → Piece)
    → ((m : ℕ) → x ≡ Some m → IsFirst rules all (f m))
    → (x ≡ None → IsFirst rules all (token kind.Bad n))
    → IsFirst rules all (piece_or x f (token kind.Bad n))
closed_or_open rules all n None f h g = g refl
closed_or_open rules all n (Some m) f h g = h m refl

stays_open : (q : ℕ) (bs : List ℕ) → inside_len q bs ≡ None → IsOpen q bs
stays_open q bs e m c = absurd (cc (closed_len q bs m c, e))

text_at :
    (bs : List ℕ)
    → IsFirst (rule.text ∷ behind_text) (39 ∷ bs) (quoted_at kind.Text 39 (39 ∷ bs))
unfolding quoted_at
text_at bs =
    closed_or_open (rule.text ∷ behind_text) (39 ∷ bs) _ (inside_len 39 bs) _
    (λ m e. inl (refl, (refl, (m, (refl, found 39 bs m e)))))
    (λ e. let open_there = stays_open 39 bs e in
    inr (
      λ n f. open_there (f.1.0) f.1.1.1,
      inr (
        unfit rule.blob 39 bs refl,
        inr (
          unfit rule.unpaired_blob 39 bs refl,
          inr (
            unfit rule.quoted 39 bs refl,
            inl (refl, (refl, inl (refl, open_there))),
          ),
        ),
      ),
    ))

pub text_first :
    (b : ℕ) (bs : List ℕ)
    → (b == 39) ≡ true
    → IsFirst (rule.text ∷ behind_text) (b ∷ bs) (quoted_at kind.Text 39 (b ∷ bs))
text_first b bs t =
    subst
    (λ (c : ℕ). IsFirst (rule.text ∷ behind_text) (c ∷ bs) (quoted_at kind.Text 39 (c ∷ bs)))
    (sym (same_is b 39 t)) (text_at bs)

-- blobs
inside_pairs :
    (bytes : List ℕ) (m : ℕ) (c : Closed 39 bytes m)
    → pairs (take (length (doubled 39 c.value)) bytes)
    ≡ all_even (prefix_len is_ascii_hexdigit bytes) (length (doubled 39 c.value))
inside_pairs bytes m c =
    ap (λ xs. pairs (take n xs)) c.made
    ∙ ap pairs (take-append_seam (doubled 39 c.value) (39 ∷ c.rest))
    ∙ pairs_are (doubled 39 c.value) c.rest
    ∙ ap (λ xs. all_even (prefix_len is_ascii_hexdigit xs) n) (sym c.made)
  where
    n : ℕ
    n = length (doubled 39 c.value)

no_quote : (b : ℕ) → (b == 120 || b == 88) ≡ true → (b == 34 || b == 96 || b == 91) ≡ false
no_quote b h = grind arith

blob_closed :
    (b : ℕ) (bs : List ℕ) (n : ℕ) (v : Bool)
    → (b == 120 || b == 88) ≡ true
    → begins 39 bs ≡ true
    → Closed 39 (drop 1 bs) (n + 1)
    → pairs (take n (drop 1 bs)) ≡ v
    → IsFirst behind_text (b ∷ bs) (token (cond v kind.Blob kind.Bad) (n + 1 + 2))
blob_closed b bs n true h g c e =
    let len : n + 1 + 2 ≡ n + 3 = omega arith in inl (refl, (h, g, (n, (len, c, e))))
blob_closed b bs n false h g c e =
    let len : n + 1 + 2 ≡ n + 3 = omega arith in
    inr (λ k f. unpaired k f, inl (refl, (h, g, (n, (len, c, e)))))
  where
    unpaired : (k : ℕ) → IsBlobOf true (b ∷ bs) k → ⊥
    unpaired k f =
        let ends : f.2.0 + 1 ≡ n + 1 =
        closed_once 39 (drop 1 bs) (f.2.0 + 1) (n + 1) (f.2.1.1) c in
        let same : f.2.0 ≡ n = omega (arith, ends) in
        absurd (cc (same, f.2.1.2, e))

pub blob_first :
    (b : ℕ) (bs : List ℕ)
    → ((b == 120 || b == 88) && begins 39 bs) ≡ true
    → IsFirst behind_text (b ∷ bs) (blob_at (b ∷ bs))
unfolding blob_at
blob_first b bs t =
    closed_or_open behind_text (b ∷ bs) _ (inside_len 39 (drop 1 bs)) _
    (λ m e. closes m (found 39 (drop 1 bs) m e))
    (λ e. let open_there = stays_open 39 (drop 1 bs) e in
    inr (
      λ n f. open_there (f.2.0 + 1) f.2.1.1,
      inr (
        λ n f. open_there (f.2.0 + 1) f.2.1.1,
        inr (
          unfit rule.quoted b bs (no_quote b x),
          inl (refl, (refl, inr (inl (x, q, open_there)))),
        ),
      ),
    ))
  where
    x : (b == 120 || b == 88) ≡ true
    x = left_of (b == 120 || b == 88) (begins 39 bs) t

    q : begins 39 bs ≡ true
    q = right_of (b == 120 || b == 88) (begins 39 bs) t

    digits : ℕ
    digits = prefix_len is_ascii_hexdigit (drop 1 bs)

    closes :
        (m : ℕ)
        → Closed 39 (drop 1 bs) m
        → IsFirst behind_text (b ∷ bs)
        (token (cond (digits % 2 == 0 && m == digits + 1) kind.Blob kind.Bad) (m + 2))
    closes m c =
        let n = length (doubled 39 c.value) in
        let there : Closed 39 (drop 1 bs) (length (doubled 39 c.value) + 1) =
        subst (λ (k : ℕ). Closed 39 (drop 1 bs) k) c.len c in
        subst
        (λ (k : ℕ). IsFirst behind_text (b ∷ bs)
        (token (cond (digits % 2 == 0 && k == digits + 1) kind.Blob kind.Bad) (k + 2)))
        (sym c.len)
        (blob_closed b bs (length (doubled 39 c.value)) _ x q there (inside_pairs (drop 1 bs) m c))

-- quoted names
quoted_at_quote :
    (q : ℕ) (bs : List ℕ)
    → (q == q) ≡ true
    → ((n : ℕ) → IsBetweenQuotes q (q ∷ bs) n → IsQuoted (q ∷ bs) n)
    → ((n : ℕ) → IsQuoted (q ∷ bs) n → IsBetweenQuotes q (q ∷ bs) n)
    → (OpensQuoted q (q ∷ bs)
    → (OpensQuoted 39 (q ∷ bs) ⊎ (OpensBlob (q ∷ bs) ⊎ (OpensQuoted 34 (q ∷ bs)
    ⊎ (OpensQuoted 96 (q ∷ bs) ⊎ OpensBracket (q ∷ bs))))))
    → IsFirst behind_blobs (q ∷ bs) (quoted_at kind.Quoted q (q ∷ bs))
unfolding quoted_at
quoted_at_quote q bs own is_one is_only is_open =
    closed_or_open behind_blobs (q ∷ bs) _ (inside_len q bs) _
    (λ m e. inl (refl, is_one (m + 1) (own, (m, (refl, found q bs m e)))))
    (λ e. let open_there = stays_open q bs e in
    inr (
      λ n f. let g = is_only n f in open_there (g.1.0) g.1.1.1,
      inl (refl, (refl, is_open (own, open_there))),
    ))

only_double : (bs : List ℕ) (n : ℕ) → IsQuoted (34 ∷ bs) n → IsBetweenQuotes 34 (34 ∷ bs) n
only_double bs n (inl h) = h
only_double bs n (inr (inl h)) = absurd (cc (h.0))
only_double bs n (inr (inr h)) = absurd (cc (front_byte (is 91) _ 34 bs n h.1))

only_back : (bs : List ℕ) (n : ℕ) → IsQuoted (96 ∷ bs) n → IsBetweenQuotes 96 (96 ∷ bs) n
only_back bs n (inl h) = absurd (cc (h.0))
only_back bs n (inr (inl h)) = h
only_back bs n (inr (inr h)) = absurd (cc (front_byte (is 91) _ 96 bs n h.1))

pub quoted_first :
    (b : ℕ) (bs : List ℕ)
    → (b == 34 || b == 96) ≡ true
    → IsFirst behind_blobs (b ∷ bs) (quoted_at kind.Quoted b (b ∷ bs))
quoted_first b bs t = at (b == 34) refl (b == 96) refl t
  where
    at :
        (v : Bool)
        → (b == 34) ≡ v
        → (w : Bool)
        → (b == 96) ≡ w
        → (v || w) ≡ true
        → IsFirst behind_blobs (b ∷ bs) (quoted_at kind.Quoted b (b ∷ bs))
    at true e w f h =
        subst (λ (c : ℕ). IsFirst behind_blobs (c ∷ bs) (quoted_at kind.Quoted c (c ∷ bs)))
        (sym (same_is b 34 e))
        (quoted_at_quote 34 bs refl (λ n g. inl g) (only_double bs) (λ o. inr (inr (inl o))))
    at false e true f h =
        subst (λ (c : ℕ). IsFirst behind_blobs (c ∷ bs) (quoted_at kind.Quoted c (c ∷ bs)))
        (sym (same_is b 96 f))
        (quoted_at_quote 96 bs refl (λ n g. inr (inl g)) (only_back bs)
        (λ o. inr (inr (inr (inl o)))))
    at false e false f h = absurd (cc)
