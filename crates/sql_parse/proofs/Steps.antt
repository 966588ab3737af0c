-- What an answer of a reader says of its steps.
use Rattle.std.proofs.Common.{◌≡◌, ℕ, suc, zero, Bool, true, false, cond, ◌⊎◌, inl, inr, Option}
use Rattle.std.proofs.Common.{None, Some, List, [], ◌∷◌, ◌++◌, length, refl, ap, sym, ◌∙◌, subst}
use Rattle.std.proofs.Common.{append_assoc}
use denote.Enum.Bare.{same_true, true_same}
use Rattle.sql_read.specs.contracts.lexeme.Mark.{the_type}
use Rattle.sql_read.specs.declared.lexeme.Direction.{Direction}
use Rattle.sql_read.specs.declared.lexeme.Mark.{Mark}
use Rattle.sql_read.specs.Lexemes.{Lexeme}
use Rattle.sql_read.specs.Lexemes as lexeme
use Rattle.sql_read.specs.Reading.{◌>>=◌, branch, after, same_mark, name_at, Read, Reader, more_at}
use Rattle.sql_read.specs.Reading.{list_at}

pub bind_ok : {A B : Type 0} (r : Option A) (f : A → Option B) (y : B) → (r >>= f) ≡ Some y →
    (a : A) × (r ≡ Some a) × (f a ≡ Some y)
bind_ok None f y e = cc
bind_ok (Some a) f y e = (a, refl, e)

pub branch_ok : {A C : Type 0} (o : Option A) (b : C) (f : A → C) (z : C) → branch o b f ≡ z →
    ((o ≡ None) × (b ≡ z)) ⊎ ((a : A) × (o ≡ Some a) × (f a ≡ z))
branch_ok None b f z e = inl (refl, e)
branch_ok (Some a) b f z e = inr (a, refl, e)

pub given_ok : {A B : Type 0} (a c : A) (b d : B)
    → ◌≡◌ {A = Option (A × B)} (Some (a, b)) (Some (c, d)) →
    (a ≡ c) × (b ≡ d)
given_ok {A} {B} a c b d e =
    let q : ◌≡◌ {A = A × B} (a, b) (c, d) = cc in
    (ap (λ p. p.0) q, ap (λ p. p.1) q)

cond_ok : {A : Type 0} (b : Bool) (x y : A) → cond b (Some x) None ≡ Some y → (b ≡ true) × (x ≡ y)
cond_ok true x y e = (refl, cc)
cond_ok false x y e = cc

mark_ok : (a b : Mark) → same_mark a b ≡ true → a ≡ b
unfolding same_mark
mark_ok a b e = same_true the_type tt a b e

pub after_ok : (m : Mark) (ts r : List Lexeme) → after m ts ≡ Some r → ts ≡ lexeme.Fixed m ∷ r
unfolding after
after_ok m [] r e = cc
after_ok m (lexeme.Fixed first ∷ rest) r e =
    let c = cond_ok (same_mark first m) rest r e in
    let same = mark_ok first m c.0 in
    cc (same, c.1)
after_ok m (lexeme.Name bytes d ∷ rest) r e = cc
after_ok m (lexeme.Text bytes ∷ rest) r e = cc
after_ok m (lexeme.Blob bytes ∷ rest) r e = cc
after_ok m (lexeme.Int n ∷ rest) r e = cc
after_ok m (lexeme.Dec n ∷ rest) r e = cc
after_ok m (lexeme.Param n ∷ rest) r e = cc
after_ok m (lexeme.Other ∷ rest) r e = cc

same_itself : (m : Mark) → same_mark m m ≡ true
unfolding same_mark
same_itself m = true_same the_type m m refl

pub after-same : (m : Mark) (q : List Lexeme) → after m (lexeme.Fixed m ∷ q) ≡ Some q
unfolding after
after-same m q = rw (same_itself m) refl

pub name_ok : (ts : List Lexeme) (c : List ℕ) (r : List Lexeme) → name_at ts ≡ Some (c, r) →
    (d : Option Direction) × (ts ≡ lexeme.Name c d ∷ r)
unfolding name_at
name_ok [] c r e = cc
name_ok (lexeme.Fixed m ∷ rest) c r e = cc
name_ok (lexeme.Name bytes d ∷ rest) c r e =
    let is = given_ok bytes c rest r e in
    (d, cc (is.0, is.1))
name_ok (lexeme.Text bytes ∷ rest) c r e = cc
name_ok (lexeme.Blob bytes ∷ rest) c r e = cc
name_ok (lexeme.Int n ∷ rest) c r e = cc
name_ok (lexeme.Dec n ∷ rest) c r e = cc
name_ok (lexeme.Param n ∷ rest) c r e = cc
name_ok (lexeme.Other ∷ rest) c r e = cc

-- some front of the lexemes is in relation to the answer, and the rest is behind it
abbrev pub Takes : {A : Type 0} → (List Lexeme → A → Type 0) → List Lexeme → A → List Lexeme
    → Type 0
Takes R ts x rest = (front : List Lexeme) × (ts ≡ front ++ rest) × R front x

-- a reader reads only what is in this relation
abbrev pub IsSound : {A : Type 0} → (List Lexeme → A → Type 0) → Reader A → Type 0
IsSound {A} R p = (ts : List Lexeme) (x : A) (rest : List Lexeme) → p ts ≡ Some (x, rest)
    → Takes R ts x rest

-- the front, read to its end
pub here : {A : Type 0} (R : List Lexeme → A → Type 0) (front rest q : List Lexeme) (x y : A)
    → R front y →
    (y ≡ x) × (q ≡ rest) → Takes R (front ++ q) x rest
here R front rest q x y s e = (front, ap (λ r. front ++ r) e.1, subst (λ t. R front t) e.0 s)

-- what is taken in one relation is taken in another
pub under : {A B : Type 0} (R : List Lexeme → A → Type 0) (S : List Lexeme → B → Type 0)
    (ts rest : List Lexeme)
    (x : A) (y : B) → ((fs : List Lexeme) → R fs x → S fs y) → Takes R ts x rest → Takes S ts y rest
under R S ts rest x y f t = (t.0, t.1, f t.0 t.2)

-- what equal lexemes take
pub moved : {A : Type 0} (R : List Lexeme → A → Type 0) (ts q rest : List Lexeme) (x : A) → ts ≡ q
    → Takes R q x rest →
    Takes R ts x rest
moved R ts q rest x e t = (t.0, e ∙ t.1, t.2)

-- a lexeme, and what is taken behind it
pub behind : {A : Type 0} (R : List Lexeme → A → Type 0) (t : Lexeme) (ts q rest : List Lexeme)
    (x : A) → ts ≡ t ∷ q → Takes (λ fs z. R (t ∷ fs) z) q x rest → Takes R ts x rest
behind R t ts q rest x e k = (t ∷ k.0, e ∙ ap (λ r. t ∷ r) k.1, k.2)

-- what is taken, answered as another value
pub answered : {A B : Type 0} (R : List Lexeme → A → Type 0) (S : List Lexeme → B → Type 0)
    (ts q rest : List Lexeme) (x : A) (made y : B) → ((fs : List Lexeme) → R fs x → S fs made)
    → (made ≡ y) × (q ≡ rest) → Takes R ts x q → Takes S ts y rest
answered R S ts q rest x made y f is t =
    (t.0, t.1 ∙ ap (λ r. t.0 ++ r) is.1, subst (λ z. S t.0 z) is.0 (f t.0 t.2))

-- what is taken in two parts, answered as one value
pub both : {A B C : Type 0} (R : List Lexeme → A → Type 0) (S : List Lexeme → B → Type 0)
    (T : List Lexeme → C → Type 0) (ts q s rest : List Lexeme) (x : A) (y : B) (made z : C)
    → ((fs bs : List Lexeme) → R fs x → S bs y → T (fs ++ bs) made) → (made ≡ z) × (s ≡ rest)
    → Takes R ts x q → Takes S q y s → Takes T ts z rest
both R S T ts q s rest x y made z f is t k = (
  t.0 ++ k.0,
  t.1 ∙ ap (λ r. t.0 ++ r) (k.1 ∙ ap (λ r. k.0 ++ r) is.1) ∙ sym (append_assoc t.0 k.0 rest),
  subst (λ v. T (t.0 ++ k.0) v) is.0 (f t.0 k.0 t.2 k.2),
)

-- A list with a mark between each two members: what reads a member soundly reads the list so.
module _ {A : Type 0} (R : List Lexeme → A → Type 0) (L : List Lexeme → List A → Type 0) (m : Mark)
    (last : (ts : List Lexeme) (x : A) → R ts x → L ts (x ∷ []))
    (more : (fs bs : List Lexeme) (x : A) (xs : List A) → R fs x → L bs xs →
    L (fs ++ lexeme.Fixed m ∷ bs) (x ∷ xs)) (p : Reader A) (sound : IsSound R p) where
  none_more : (ts : List Lexeme) (x : A) (front : List Lexeme) (xs : List A) (rest : List Lexeme)
      → R front x → ◌≡◌ {A = Read (List A)} (Some ([], ts)) (Some (xs, rest))
      → Takes L (front ++ ts) (x ∷ xs) rest
  none_more ts x front xs rest first e =
      let is = given_ok [] xs ts rest e in
      (front, ap (λ r. front ++ r) is.1, subst (λ zs. L front (x ∷ zs)) is.0 (last front x first))

  more_ok : (n : ℕ) (ts : List Lexeme) (x : A) (front : List Lexeme) (xs : List A)
      (rest : List Lexeme) → R front x → more_at (after m) p n ts ≡ Some (xs, rest)
      → Takes L (front ++ ts) (x ∷ xs) rest
  unfolding more_at
  more_ok zero ts x front xs rest first e = none_more ts x front xs rest first e
  more_ok (suc n) ts x front xs rest first e =
      elim (branch_ok (after m ts) _ _ _ e) [
        | inl w ↦ none_more ts x front xs rest first w.1
        | inr w ↦
            let b = bind_ok (p w.0) _ _ w.2 in
            let y = b.0 in
            let d = bind_ok (more_at (after m) p n y.1) _ _ b.2 in
            let zs = d.0 in
            let t = sound w.0 y.0 y.1 b.1 in
            let ih = more_ok n y.1 y.0 t.0 zs.0 zs.1 t.2 d.1 in
            let is : ts ≡ lexeme.Fixed m ∷ (ih.0 ++ zs.1) =
            after_ok m ts w.0 w.1 ∙ ap (λ r. lexeme.Fixed m ∷ r) (t.1 ∙ ih.1) in
            let end = given_ok (y.0 ∷ zs.0) xs zs.1 rest d.2 in (
              front ++ lexeme.Fixed m ∷ ih.0,
              ap (λ r. front ++ r) is ∙ sym (append_assoc front (lexeme.Fixed m ∷ ih.0) zs.1)
                  ∙ ap (λ r. (front ++ lexeme.Fixed m ∷ ih.0) ++ r) end.1,
              subst (λ ys. L (front ++ lexeme.Fixed m ∷ ih.0) (x ∷ ys)) end.0
                  (more front ih.0 x (y.0 ∷ zs.0) first ih.2),
            )
      ]

  pub list_ok : IsSound L (list_at p (after m) p)
  unfolding list_at
  list_ok ts xs rest e =
      let b = bind_ok (p ts) _ _ e in
      let y = b.0 in
      let d = bind_ok (more_at (after m) p (length y.1) y.1) _ _ b.2 in
      let zs = d.0 in
      let t = sound ts y.0 y.1 b.1 in
      let all = more_ok (length y.1) y.1 y.0 t.0 zs.0 zs.1 t.2 d.1 in
      let end = given_ok (y.0 ∷ zs.0) xs zs.1 rest d.2 in
      (all.0, t.1 ∙ all.1 ∙ ap (λ r. all.0 ++ r) end.1, subst (λ ys. L all.0 ys) end.0 all.2)
