-- What a quoted text's run is: up to the first quote that is not doubled.
use Rattle.std.proofs.Common.{◌≡◌, ℕ, ◌+◌, Bool, true, false, cond, ◌==◌, ◌++◌, List, [], ◌∷◌, None}
use Rattle.std.proofs.Common.{Some, option_map, length, refl, ap, sym, ◌∙◌, arith, rules}
use Rattle.std.specs.Prelude.{Option}
use Rattle.sql_tokens.specs.Runs.{begins, inside_len}
use Rattle.token_laws.specs.Forms.{doubled, Closed}

pub same_is : (b q : ℕ) → (b == q) ≡ true → b ≡ q
same_is b q h = grind arith

pub same_byte : (q : ℕ) → (q == q) ≡ true
same_byte q = search rules

one_less : (x : Option ℕ) (n : ℕ) → option_map (λ k. k + 1) x ≡ Some n
    → (m : ℕ) × ((x ≡ Some m) × (n ≡ m + 1))
one_less None n h = absurd (cc)
one_less (Some m) n h = let e : m + 1 ≡ n = cc in (m, (refl, sym e))

-- the first byte closes
closes : (q b : ℕ) (rest : List ℕ) (n : ℕ) → (b == q) ≡ true → begins q rest ≡ false → n ≡ 1
    → Closed q (b ∷ rest) n
closes q b rest n h e is =
    record {
      value = [];
      rest = rest;
      made = ap (λ c. c ∷ rest) (same_is b q h);
      ends = e;
      len = is;
    }

-- a byte that is no quote stands before
before : (q b : ℕ) (bs : List ℕ) (m n : ℕ) → (b == q) ≡ false → n ≡ m + 1 → Closed q bs m
    → Closed q (b ∷ bs) n
before q b bs m n h is c = record {
  value = b ∷ c.value;
  rest = c.rest;
  made = ap (λ x. b ∷ x) c.made
      ∙ ap (λ v. cond v (q ∷ q ∷ doubled q c.value) (b ∷ doubled q c.value) ++ (q ∷ c.rest))
      (sym h);
  ends = c.ends;
  len = let a = ap (λ v. length (cond v (q ∷ q ∷ doubled q c.value) (b ∷ doubled q c.value)))
      (sym h) in let l = c.len in omega (arith, a, l, is);
}

-- a doubled quote stands before
pair_before : (q b d : ℕ) (bs : List ℕ) (m n : ℕ) → (b == q) ≡ true → (d == q) ≡ true
    → n ≡ m + 1 + 1 → Closed q bs m → Closed q (b ∷ d ∷ bs) n
pair_before q b d bs m n h g is c = record {
  value = q ∷ c.value;
  rest = c.rest;
  made = ap (λ x. x ∷ d ∷ bs) (same_is b q h) ∙ ap (λ x. q ∷ x ∷ bs) (same_is d q g)
      ∙ ap (λ x. q ∷ q ∷ x) c.made
      ∙ ap (λ v. cond v (q ∷ q ∷ doubled q c.value) (q ∷ doubled q c.value) ++ (q ∷ c.rest))
      (sym (same_byte q));
  ends = c.ends;
  len = let a = ap (λ v. length (cond v (q ∷ q ∷ doubled q c.value) (q ∷ doubled q c.value)))
      (sym (same_byte q)) in let l = c.len in omega (arith, a, l, is);
}

pub found : (q : ℕ) (bs : List ℕ) (n : ℕ) → inside_len q bs ≡ Some n → Closed q bs n
found q [] n e = absurd (cc)
found q (b ∷ []) n e = at (b == q) refl e
  where
    at : (v : Bool) → (b == q) ≡ v → option_map (λ k. k + 1) (cond v (Some 0) None) ≡ Some n
        → Closed q (b ∷ []) n
    at true h s = let one : 0 + 1 ≡ n = cc in closes q b [] n h refl (omega arith)
    at false h s = absurd (cc)
found q (b ∷ d ∷ bs) n e = at (b == q) refl (d == q) refl e (found q (d ∷ bs)) (found q bs)
  where
    at : (v : Bool) → (b == q) ≡ v → (w : Bool) → (d == q) ≡ w
        → option_map (λ k. k + 1)
        (cond v (cond w (option_map (λ k. k + 1) (inside_len q bs)) (Some 0))
        (inside_len q (d ∷ bs))) ≡ Some n
        → ((m : ℕ) → inside_len q (d ∷ bs) ≡ Some m → Closed q (d ∷ bs) m)
        → ((m : ℕ) → inside_len q bs ≡ Some m → Closed q bs m) → Closed q (b ∷ d ∷ bs) n
    at true h true g s one two =
        let x = one_less (option_map (λ k. k + 1) (inside_len q bs)) n s in
        let y = one_less (inside_len q bs) x.0 x.1.0 in
        pair_before q b d bs y.0 n h g (x.1.1 ∙ ap (λ k. k + 1) y.1.1) (two y.0 y.1.0)
    at true h false g s one two = let is : 0 + 1 ≡ n = cc in closes q b (d ∷ bs) n h g (omega arith)
    at false h w g s one two = let x = one_less (inside_len q (d ∷ bs)) n s in
        before q b (d ∷ bs) x.0 n h x.1.1 (one x.0 x.1.0)
