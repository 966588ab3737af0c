-- What the longest front of a form is, by the form's parts.
use Rattle.std.proofs.Common.{◌≡◌, ℕ, zero, suc, ◌+◌, ◌<◌, ◌≤◌, max, cond, Bool, true, false, ◌||◌}
use Rattle.std.proofs.Common.{◌&&◌, List, [], ◌∷◌, None, Some, length, take, drop, refl, ap, sym}
use Rattle.std.proofs.Common.{◌∙◌, arith, inl, inr, ◌⊎◌}
use Rattle.std.specs.Prelude.{Option}
use Rattle.std.specs.List.{prefix_len}
use Rattle.token_laws.specs.Form.{Form, nothing, byte_then, run_then, either, longer, longest}

-- forms that pass the same byte strings
pub agree : (f g : Form) → ((q : List ℕ) → f q ≡ g q) → (bs : List ℕ) → longest f bs ≡ longest g bs
agree f g h [] = ap (λ e. cond e (Some 0) None) (h [])
agree f g h (b ∷ bs) = rw (h [], agree (λ q. f (b ∷ q)) (λ q. g (b ∷ q)) (λ q. h (b ∷ q)) bs) refl

pub never : (bs : List ℕ) → longest (λ q. false) bs ≡ None
never [] = refl
never (b ∷ bs) = rw (never bs) refl

pub of_nothing : (bs : List ℕ) → longest nothing bs ≡ Some 0
of_nothing [] = refl
of_nothing (b ∷ bs) = rw (never bs) refl

-- one more
abbrev pub more : Option ℕ → Option ℕ
more x = longer false x

and_form : (t : Bool) (f : Form) (bs : List ℕ)
    → longest (λ q. t && f q) bs ≡ cond t (longest f bs) None
and_form true f bs = refl
and_form false f bs = never bs

pub of_byte : (t : ℕ → Bool) (f : Form) (b : ℕ) (bs : List ℕ)
    → longest (byte_then t f) (b ∷ bs) ≡ more (cond (t b) (longest f bs) None)
of_byte t f b bs = ap more (and_form (t b) f bs)

-- the longer of two
abbrev pub most : Option ℕ → Option ℕ → Option ℕ
most None y = y
most (Some m) None = Some m
most (Some m) (Some n) = Some (max m n)

most_longer : (d e : Bool) (x y : Option ℕ)
    → longer (d || e) (most x y) ≡ most (longer d x) (longer e y)
most_longer true true None None = refl
most_longer true false None None = refl
most_longer false true None None = refl
most_longer false false None None = refl
most_longer true e None (Some n) = ap Some (omega arith)
most_longer false e None (Some n) = refl
most_longer true true (Some m) None = ap Some (omega arith)
most_longer false true (Some m) None = ap Some (omega arith)
most_longer true false (Some m) None = refl
most_longer false false (Some m) None = refl
most_longer d e (Some m) (Some n) = ap Some (omega arith)

most_empty : (d e : Bool)
    → cond (d || e) (Some 0) None ≡ most (cond d (Some 0) None) (cond e (Some 0) None)
most_empty true true = refl
most_empty true false = refl
most_empty false true = refl
most_empty false false = refl

pub of_either : (f g : Form) (bs : List ℕ)
    → longest (either f g) bs ≡ most (longest f bs) (longest g bs)
of_either f g [] = most_empty (f []) (g [])
of_either f g (b ∷ bs) =
    ap (longer (f [] || g [])) (of_either (λ q. f (b ∷ q)) (λ q. g (b ∷ q)) bs)
    ∙ most_longer (f []) (g []) _ _

empty_some : (e : Bool) (n : ℕ) → cond e (Some 0) None ≡ Some n → (e ≡ true) × (n ≡ 0)
empty_some true n h = (refl, cc)
empty_some false n h = absurd (cc)

empty_none : (e : Bool) → cond {A = Option ℕ} e (Some 0) None ≡ None → e ≡ false
empty_none true h = absurd (cc)
empty_none false h = refl

longer_some : (e : Bool) (x : Option ℕ) (n : ℕ) → longer e x ≡ Some n
    → ((x ≡ None) × (n ≡ 0) × (e ≡ true)) ⊎ ((m : ℕ) × ((x ≡ Some m) × (n ≡ suc m)))
longer_some true None n h = inl (refl, cc, refl)
longer_some false None n h = absurd (cc)
longer_some e (Some m) n h = let same : 1 + m ≡ n = cc in inr (m, (refl, omega arith))

longer_none : (e : Bool) (x : Option ℕ) → longer e x ≡ None → (x ≡ None) × (e ≡ false)
longer_none true None h = absurd (cc)
longer_none false None h = (refl, refl)
longer_none e (Some m) h = absurd (cc)

-- what is found lies within the bytes
pub longest_within : (f : Form) (bs : List ℕ) (n : ℕ) → longest f bs ≡ Some n → n ≤ length bs
longest_within f [] n e = let z = (empty_some (f []) n e).1 in omega (arith, z)
longest_within f (b ∷ bs) n e =
    elim (longer_some (f []) _ n e) [
      | inl w ↦ let z = w.1 in omega (arith, z)
      | inr w ↦
          let le = longest_within (λ q. f (b ∷ q)) bs w.0 w.1.0 in
          let z = w.1.1 in
          omega (arith, le, z)
    ]

-- what is found has the form
pub passes : (f : Form) (bs : List ℕ) (n : ℕ) → longest f bs ≡ Some n → f (take n bs) ≡ true
passes f [] zero e = (empty_some (f []) zero e).0
passes f [] (suc n) e = (empty_some (f []) (suc n) e).0
passes f (b ∷ bs) n e =
    elim (longer_some (f []) _ n e) [
      | inl w ↦ rw (w.1) (w.2)
      | inr w ↦ rw (w.1.1) (passes (λ q. f (b ∷ q)) bs w.0 w.1.0)
    ]

-- where none is found no front has the form
pub none_passes : (f : Form) (bs : List ℕ) (m : ℕ) → longest f bs ≡ None → m ≤ length bs
    → f (take m bs) ≡ false
none_passes f [] zero e le = empty_none (f []) e
none_passes f [] (suc m) e le = absurd (omega arith)
none_passes f (b ∷ bs) zero e le = (longer_none (f []) _ e).1
none_passes f (b ∷ bs) (suc m) e le =
    none_passes (λ q. f (b ∷ q)) bs m (longer_none (f []) _ e).0 (omega arith)

-- no longer front has the form
pub no_longer : (f : Form) (bs : List ℕ) (n m : ℕ) → longest f bs ≡ Some n → n < m → m ≤ length bs
    → f (take m bs) ≡ false
no_longer f [] n m e lt le = absurd (omega arith)
no_longer f (b ∷ bs) n zero e lt le = absurd (omega arith)
no_longer f (b ∷ bs) n (suc m) e lt le =
    elim (longer_some (f []) _ n e) [
      | inl w ↦ none_passes (λ q. f (b ∷ q)) bs m w.0 (omega arith)
      | inr w ↦ let is = w.1.1 in
          no_longer (λ q. f (b ∷ q)) bs w.0 m w.1.0 (omega arith) (omega arith)
    ]

-- so many more
abbrev pub plus : ℕ → Option ℕ → Option ℕ
plus k None = None
plus k (Some n) = Some (k + n)

plus_zero : (x : Option ℕ) → x ≡ plus 0 x
plus_zero None = refl
plus_zero (Some n) = ap Some (omega arith)

plus_longer : (e : Bool) (k : ℕ) (x : Option ℕ) → (x ≡ None → e ≡ false)
    → longer e (plus k x) ≡ plus (1 + k) x
plus_longer e k None h = rw (h refl) refl
plus_longer e k (Some n) h = ap Some (omega arith)

or_false : (e : Bool) → (e || false) ≡ e
or_false true = refl
or_false false = refl

-- A run of bytes, and then a form that does not begin with such a byte.
module _ (t : ℕ → Bool) (f : Form) (stops : (b : ℕ) (bs : List ℕ) → t b ≡ true → f (b ∷ bs) ≡ false)
  where
    of_run_at : (b : ℕ) (bs : List ℕ) (v : Bool) → t b ≡ v
        → longest (run_then t f) bs ≡ plus (prefix_len t bs) (longest f (drop (prefix_len t bs) bs))
        → longest (run_then t f) (b ∷ bs)
        ≡ plus (cond v (1 + prefix_len t bs) 0)
        (longest f (drop (cond v (1 + prefix_len t bs) 0) (b ∷ bs)))
    of_run_at b bs true e later =
        let k : ℕ = prefix_len t bs in
        let rest : drop (1 + k) (b ∷ bs) ≡ drop k bs = let one : 1 + k ≡ suc k = omega arith in
        ap (λ n. drop n (b ∷ bs)) one in
        ap (longer (f [])) (agree (λ q. run_then t f (b ∷ q)) (run_then t f)
        (λ q. rw (stops b q e, e) refl) bs ∙ later)
        ∙ plus_longer (f []) k (longest f (drop k bs))
        (λ h. none_passes f (drop k bs) 0 h (omega arith))
        ∙ ap (λ r. plus (1 + k) (longest f r)) (sym rest)
    of_run_at b bs false e later =
        ap (longer (f [])) (agree (λ q. run_then t f (b ∷ q)) (λ q. f (b ∷ q))
        (λ q. rw e (or_false (f (b ∷ q)))) bs)
        ∙ plus_zero (longest f (b ∷ bs))

    pub of_run : (bs : List ℕ)
        → longest (run_then t f) bs ≡ plus (prefix_len t bs) (longest f (drop (prefix_len t bs) bs))
    of_run [] = plus_zero (longest f [])
    of_run (b ∷ bs) = of_run_at b bs (t b) refl (of_run bs)
