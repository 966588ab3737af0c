-- Entries of a list, one by one.
use Rattle.std.proofs.Common.{◌≡◌, ℕ, zero, suc, ◌+◌, ◌<◌, ◌==◌, ◌&&◌, Bool, List, [], ◌∷◌, ◌++◌}
use Rattle.std.proofs.Common.{length, map, drop, get_or, Option, None, Some, option_map, refl, ap}
use Rattle.std.proofs.Common.{sym, ◌∙◌, arith, Bor}
use Rattle.sql_tokens.specs.declared.token.Token.{Token}
use Rattle.schema_text.specs.Lists.{with_first}
use Rattle.schema_text.specs.Entries.{entry_of, entries_of, is_last}
use Rattle.schema_text.specs.declared.entries.EntryText.{EntryText}
use Rattle.schema_text.proofs.Traversal.{pushed}

abbrev seen : List (Bor (List Token)) → List (List Token)
seen parts = map (λ part. part.now) parts

last_is : (parts : List (Bor (List Token))) → is_last (seen parts) ≡ (length parts == 0)
last_is [] = refl
last_is (p ∷ ps) = grind arith

at_end : (i n : ℕ) → (suc i == suc n) ≡ (i == n)
at_end i n = grind arith

next : (text : List ℕ) (may : Bool) (parts : List (Bor (List Token))) (i : ℕ) (d : Bor (List Token))
    → i < length parts
    → entries_of text may (seen (drop i parts))
    ≡ with_first (entry_of text (may && (i + 1 == length parts)) (get_or parts i d).now)
    (entries_of text may (seen (drop (i + 1) parts)))
next text may [] i d h = absurd (omega (arith, h))
next text may (p ∷ ps) zero d h =
    let one : (0 + 1 == length (p ∷ ps)) ≡ (length ps == 0) = grind arith in
    ap (λ b. with_first (entry_of text (may && b) p.now) (entries_of text may (seen ps)))
    (last_is ps ∙ sym one)
next text may (p ∷ ps) (suc i) d h =
    let n : suc i + 1 ≡ suc (i + 1) = omega arith in
    rw (n, at_end (i + 1) (length ps)) (next text may ps i d (omega (arith, h)))

module _ (text : List ℕ) (may : Bool) (parts : List (Bor (List Token))) (i : ℕ)
    (d : Bor (List Token)) (done : List EntryText) (all : Option (List EntryText))
    (so_far : all ≡ option_map (λ es. done ++ es) (entries_of text may (seen (drop i parts))))
    (h : i < length parts) where
  pub stops : (m : Bool) → m ≡ (may && (i + 1 == length parts))
      → None ≡ entry_of text m (get_or parts i d).now → None ≡ all
  stops m is e =
      sym (so_far ∙ ap (option_map (λ es. done ++ es)) (next text may parts i d h
      ∙ ap (λ o. with_first o (entries_of text may (seen (drop (i + 1) parts))))
      (ap (λ b. entry_of text b (get_or parts i d).now) (sym is) ∙ sym e)))

  pub goes : (m : Bool) → m ≡ (may && (i + 1 == length parts)) → (y : EntryText)
      → Some y ≡ entry_of text m (get_or parts i d).now
      → (more : List EntryText) → more ≡ done ++ y ∷ []
      → all ≡ option_map (λ es. more ++ es) (entries_of text may (seen (drop (i + 1) parts)))
  goes m is y e more same =
      so_far ∙ ap (option_map (λ es. done ++ es)) (next text may parts i d h
      ∙ ap (λ o. with_first o (entries_of text may (seen (drop (i + 1) parts))))
      (ap (λ b. entry_of text b (get_or parts i d).now) (sym is) ∙ sym e))
      ∙ pushed done y (entries_of text may (seen (drop (i + 1) parts)))
      ∙ ap (λ (front : List EntryText). option_map (λ es. front ++ es)
      (entries_of text may (seen (drop (i + 1) parts)))) (sym same)
