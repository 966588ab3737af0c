-- What is read as an expression is spelled so.
use Rattle.std.proofs.Common.{◌≡◌, ℕ, ℤ, suc, zero, Bool, true, false, inl, inr, Option, None}
use Rattle.std.proofs.Common.{Some, List, [], ◌∷◌, ◌++◌, refl, ap, sym, ◌∙◌, subst}
use Rattle.std.proofs.Common.{append_assoc}
use Rattle.sql_meaning.specs.Values.{Value}
use Rattle.sql_meaning.specs.Values as value
use Rattle.sql_tree.specs.Trees.{Tree, trees}
use Rattle.sql_tree.specs.Trees as tree
use Rattle.sql_tree.specs.declared.expression.Op.{Op}
use Rattle.sql_read.specs.declared.follow.Follow.{Follow}
use Rattle.sql_read.specs.declared.follow.Follow.TheVariants as follow
use Rattle.sql_read.specs.declared.lexeme.Direction.{Direction}
use Rattle.sql_read.specs.declared.lexeme.Mark.{Mark}
use Rattle.sql_read.specs.declared.lexeme.Mark.TheVariants as mark
use Rattle.sql_read.specs.Lexemes.{Lexeme}
use Rattle.sql_read.specs.Lexemes as lexeme
use Rattle.sql_read.specs.Reading.{◌>>=◌, after, name_at, Read, Reader, list_at}
use Rattle.sql_read.specs.Leaves.{signed, number_at, named_at, leaf_at, collated_at}
use Rattle.sql_read.specs.Expressions.{Below, joined, below, expr_at, and_at, not_at, test_at}
use Rattle.sql_read.specs.Expressions.{tested_at, one_of_at, entries_at, between_at, like_at}
use Rattle.sql_read.specs.Expressions.{right_at}
use Rattle.sql_read.specs.Expressions.{operand_at, primary_at, enclosed_at, op_at, null_at, is_at}
use Rattle.sql_read.specs.Expressions.{null_test_at, word_test_at, follow_at}
use Rattle.sql_parse.specs.Grammar.{Level, Spells, Members, IsOp, IsNullTest, IsNumber, perhaps_not}
use Rattle.sql_parse.specs.Grammar as g
use Rattle.sql_parse.proofs.Steps.{bind_ok, branch_ok, given_ok, after_ok, name_ok, Takes, IsSound}
use Rattle.sql_parse.proofs.Steps.{here, under, moved, behind, answered, list_ok}

-- Marks behind the first operand of a test.

op_took : {m : Mark} {p : Op} → IsOp m p → (ts q : List Lexeme) (o : Op) (r : List Lexeme)
    → after m ts ≡ Some q →
    ◌≡◌ {A = Option (Op × List Lexeme)} (Some (p, q)) (Some (o, r)) →
    (k : Mark) × IsOp k o × (ts ≡ lexeme.Fixed k ∷ r)
op_took {m} {p} is ts q o r next e =
    let same = given_ok p o q r e in
    (m, subst (λ z. IsOp m z) same.0 is, after_ok m ts q next ∙ ap (λ z. lexeme.Fixed m ∷ z) same.1)

op_ok : (ts : List Lexeme) (o : Op) (r : List Lexeme) → op_at ts ≡ Some (o, r) →
    (k : Mark) × IsOp k o × (ts ≡ lexeme.Fixed k ∷ r)
unfolding op_at
op_ok ts o r e =
    elim (branch_ok (after mark.Eq ts) _ _ _ e) [
      | inr w ↦ op_took g.eq ts w.0 o r w.1 w.2
      | inl w ↦ elim (branch_ok (after mark.EqEq ts) _ _ _ w.1) [
        | inr w ↦ op_took g.eq_eq ts w.0 o r w.1 w.2
        | inl w ↦ elim (branch_ok (after mark.Ne ts) _ _ _ w.1) [
          | inr w ↦ op_took g.ne ts w.0 o r w.1 w.2
          | inl w ↦ elim (branch_ok (after mark.Lt ts) _ _ _ w.1) [
            | inr w ↦ op_took g.lt ts w.0 o r w.1 w.2
            | inl w ↦ elim (branch_ok (after mark.Le ts) _ _ _ w.1) [
              | inr w ↦ op_took g.le ts w.0 o r w.1 w.2
              | inl w ↦ elim (branch_ok (after mark.Gt ts) _ _ _ w.1) [
                | inr w ↦ op_took g.gt ts w.0 o r w.1 w.2
                | inl w ↦ elim (branch_ok (after mark.Ge ts) _ _ _ w.1) [
                  | inr w ↦ op_took g.ge ts w.0 o r w.1 w.2
                  | inl w ↦ absurd (cc (w.1))
                ]
              ]
            ]
          ]
        ]
      ]
    ]

null_ok : (neg : Bool) (ts : List Lexeme) (n : Bool) (r : List Lexeme)
    → null_at neg ts ≡ Some (n, r) →
    (neg ≡ n) × (ts ≡ lexeme.Fixed mark.Null ∷ r)
unfolding null_at
null_ok neg ts n r e =
    elim (branch_ok (after mark.Null ts) _ _ _ e) [
      | inl w ↦ absurd (cc (w.1))
      | inr w ↦
          let same = given_ok neg n w.0 r w.2 in
          (same.0, after_ok mark.Null ts w.0 w.1 ∙ ap (λ z. lexeme.Fixed mark.Null ∷ z) same.1)
    ]

abbrev TakesNullTest : List Lexeme → Bool → List Lexeme → Type 0
TakesNullTest ts n r = Takes (λ ms neg. IsNullTest neg ms) ts n r

is_ok : (ts q : List Lexeme) (n : Bool) (r : List Lexeme) → after mark.Is ts ≡ Some q
    → is_at q ≡ Some (n, r) →
    TakesNullTest ts n r
unfolding is_at
is_ok ts q n r next e =
    elim (branch_ok (after mark.Not q) _ _ _ e) [
      | inl w ↦
          let k = null_ok false q n r w.1 in (
            lexeme.Fixed mark.Is ∷ lexeme.Fixed mark.Null ∷ [],
            after_ok mark.Is ts q next ∙ ap (λ z. lexeme.Fixed mark.Is ∷ z) k.1,
            subst (λ z. IsNullTest z (lexeme.Fixed mark.Is ∷ lexeme.Fixed mark.Null ∷ [])) k.0
                g.is_null,
          )
      | inr w ↦
          let k = null_ok true w.0 n r w.2 in
          let ms : List Lexeme =
          lexeme.Fixed mark.Is ∷ lexeme.Fixed mark.Not ∷ lexeme.Fixed mark.Null ∷ [] in (
            ms,
            after_ok mark.Is ts q next
                ∙ ap (λ z. lexeme.Fixed mark.Is ∷ z)
                (after_ok mark.Not q w.0 w.1 ∙ ap (λ z. lexeme.Fixed mark.Not ∷ z) k.1),
            subst (λ z. IsNullTest z ms) k.0 g.is_not_null,
          )
    ]

null_test_ok : (ts : List Lexeme) (n : Bool) (r : List Lexeme) → null_test_at ts ≡ Some (n, r)
    → TakesNullTest ts n r
unfolding null_test_at
null_test_ok ts n r e =
    elim (branch_ok (after mark.Isnull ts) _ _ _ e) [
      | inr w ↦
          let same = given_ok false n w.0 r w.2 in
          let ms : List Lexeme = lexeme.Fixed mark.Isnull ∷ [] in (
            ms,
            after_ok mark.Isnull ts w.0 w.1 ∙ ap (λ z. lexeme.Fixed mark.Isnull ∷ z) same.1,
            subst (λ z. IsNullTest z ms) same.0 g.isnull,
          )
      | inl w ↦ elim (branch_ok (after mark.Notnull ts) _ _ _ w.1) [
        | inr w ↦
            let same = given_ok true n w.0 r w.2 in
            let ms : List Lexeme = lexeme.Fixed mark.Notnull ∷ [] in (
              ms,
              after_ok mark.Notnull ts w.0 w.1 ∙ ap (λ z. lexeme.Fixed mark.Notnull ∷ z) same.1,
              subst (λ z. IsNullTest z ms) same.0 g.notnull,
            )
        | inl w ↦ elim (branch_ok (after mark.Is ts) _ _ _ w.1) [
          | inr w ↦ is_ok ts w.0 n r w.1 w.2
          | inl w ↦ elim (branch_ok (after mark.Not ts) _ _ _ w.1) [
            | inl w ↦ absurd (cc (w.1))
            | inr w ↦
                let k = null_ok true w.0 n r w.2 in
                let ms : List Lexeme = lexeme.Fixed mark.Not ∷ lexeme.Fixed mark.Null ∷ [] in (
                  ms,
                  after_ok mark.Not ts w.0 w.1 ∙ ap (λ z. lexeme.Fixed mark.Not ∷ z) k.1,
                  subst (λ z. IsNullTest z ms) k.0 g.not_null,
                )
          ]
        ]
      ]
    ]

-- the marks by which a test goes on
abbrev FollowMarks : List Lexeme → Follow → Type 0
FollowMarks ms (follow.Cmp o) = (m : Mark) × IsOp m o × (ms ≡ lexeme.Fixed m ∷ [])
FollowMarks ms (follow.Null neg) = IsNullTest neg ms
FollowMarks ms (follow.Between neg) = ms ≡ perhaps_not neg mark.Between
FollowMarks ms (follow.OneOf neg) = ms ≡ perhaps_not neg mark.In
FollowMarks ms (follow.Like neg) = ms ≡ perhaps_not neg mark.Like

word_took : (m : Mark) (neg : Bool) (went : Follow) → FollowMarks (perhaps_not neg m) went
    → (ts q : List Lexeme) (f : Follow) (r : List Lexeme) → after m ts ≡ Some q →
    ◌≡◌ {A = Option (Follow × List Lexeme)} (Some (went, q)) (Some (f, r)) →
    (k : Mark) × (ts ≡ lexeme.Fixed k ∷ r) × FollowMarks (perhaps_not neg k) f
word_took m neg went is ts q f r next e =
    let same = given_ok went f q r e in (
      m,
      after_ok m ts q next ∙ ap (λ z. lexeme.Fixed m ∷ z) same.1,
      subst (λ z. FollowMarks (perhaps_not neg m) z) same.0 is,
    )

word_test_ok : (neg : Bool) (ts : List Lexeme) (f : Follow) (r : List Lexeme)
    → word_test_at neg ts ≡ Some (f, r) →
    (k : Mark) × (ts ≡ lexeme.Fixed k ∷ r) × FollowMarks (perhaps_not neg k) f
unfolding word_test_at
word_test_ok neg ts f r e =
    elim (branch_ok (after mark.Between ts) _ _ _ e) [
      | inr w ↦ word_took mark.Between neg (follow.Between neg) refl ts w.0 f r w.1 w.2
      | inl w ↦ elim (branch_ok (after mark.Like ts) _ _ _ w.1) [
        | inr w ↦ word_took mark.Like neg (follow.Like neg) refl ts w.0 f r w.1 w.2
        | inl w ↦ elim (branch_ok (after mark.In ts) _ _ _ w.1) [
          | inr w ↦ word_took mark.In neg (follow.OneOf neg) refl ts w.0 f r w.1 w.2
          | inl w ↦ absurd (cc (w.1))
        ]
      ]
    ]

follow_ok : (ts : List Lexeme) (f : Follow) (r : List Lexeme) → follow_at ts ≡ Some (f, r)
    → Takes FollowMarks ts f r
unfolding follow_at
follow_ok ts f r e =
    elim (branch_ok (op_at ts) _ _ _ e) [
      | inr w ↦
          let same = given_ok (follow.Cmp w.0.0) f w.0.1 r w.2 in
          let k = op_ok ts w.0.0 w.0.1 w.1 in
          let t = here FollowMarks (lexeme.Fixed k.0 ∷ []) r w.0.1 f (follow.Cmp w.0.0)
          (k.0, k.1, refl) same in
          (t.0, k.2 ∙ t.1, t.2)
      | inl w ↦ elim (branch_ok (null_test_at ts) _ _ _ w.1) [
        | inr w ↦
            let same = given_ok (follow.Null w.0.0) f w.0.1 r w.2 in
            let k = null_test_ok ts w.0.0 w.0.1 w.1 in
            (k.0, k.1 ∙ ap (λ z. k.0 ++ z) same.1, subst (λ z. FollowMarks k.0 z) same.0 k.2)
        | inl w ↦ elim (branch_ok (after mark.Not ts) _ _ _ w.1) [
          | inl w ↦
              let k = word_test_ok false ts f r w.1 in
              (lexeme.Fixed k.0 ∷ [], k.1, k.2)
          | inr w ↦
              let k = word_test_ok true w.0 f r w.2 in (
                lexeme.Fixed mark.Not ∷ lexeme.Fixed k.0 ∷ [],
                after_ok mark.Not ts w.0 w.1 ∙ ap (λ z. lexeme.Fixed mark.Not ∷ z) k.1,
                k.2,
              )
        ]
      ]
    ]

-- Lists of members, of any level.
members_ok : (p : Reader Tree) (l : Level) (m : Mark) → IsSound (Spells l) p
    → IsSound (Members l m) (list_at p (after m) p)
members_ok p l m sound =
    list_ok (Spells l) (Members l m) m (λ ts x s. g.last s) (λ fs bs x xs s t. g.more s t refl) p
    sound

-- Leaves.

number_of : (neg : Bool) (n : ℕ) (make : ℤ → Value) (t : Lexeme) (ts : List Lexeme) (x : Tree)
    (rest : List Lexeme) →
    ((z : ℤ) → signed neg n ≡ Some z → IsNumber neg t (make z)) →
    ◌>>=◌ {B = Tree × List Lexeme} (signed neg n) (λ z. Some (tree.Lit (make z), ts))
    ≡ Some (x, rest) →
    (v : Value) × (ts ≡ rest) × (tree.Lit v ≡ x) × IsNumber neg t v
number_of neg n make t ts x rest is e =
    let d = bind_ok (signed neg n) _ _ e in
    let same = given_ok (tree.Lit (make d.0)) x ts rest d.2 in
    (make d.0, same.1, same.0, is d.0 d.1)

pub number_ok : (neg : Bool) (ts : List Lexeme) (x : Tree) (rest : List Lexeme)
    → number_at neg ts ≡ Some (x, rest) →
    (t : Lexeme) × (v : Value) × (ts ≡ t ∷ rest) × (tree.Lit v ≡ x) × IsNumber neg t v
unfolding number_at
number_ok neg [] x rest e = cc
number_ok neg (lexeme.Int n ∷ ts) x rest e =
    let k = number_of neg n value.Int (lexeme.Int n) ts x rest (λ z i. g.int i) e in
    (lexeme.Int n, k.0, ap (λ q. lexeme.Int n ∷ q) k.1, k.2, k.3)
number_ok neg (lexeme.Dec n ∷ ts) x rest e =
    let k = number_of neg n value.Dec (lexeme.Dec n) ts x rest (λ z i. g.dec i) e in
    (lexeme.Dec n, k.0, ap (λ q. lexeme.Dec n ∷ q) k.1, k.2, k.3)
number_ok neg (lexeme.Fixed m ∷ ts) x rest e = cc
number_ok neg (lexeme.Name bytes d ∷ ts) x rest e = cc
number_ok neg (lexeme.Text bytes ∷ ts) x rest e = cc
number_ok neg (lexeme.Blob bytes ∷ ts) x rest e = cc
number_ok neg (lexeme.Param n ∷ ts) x rest e = cc
number_ok neg (lexeme.Other ∷ ts) x rest e = cc

named_ok : (c : List ℕ) (d : Option Direction) (ts : List Lexeme) (x : Tree) (rest : List Lexeme) →
    named_at c ts ≡ Some (x, rest) → Takes (Spells g.primary) (lexeme.Name c d ∷ ts) x rest
unfolding named_at
named_ok c d ts x rest e =
    elim (branch_ok (after mark.Dot ts) _ _ _ e) [
      | inl w ↦ here (Spells g.primary) (lexeme.Name c d ∷ []) rest ts x _ (g.column c d)
          (given_ok (tree.Name None c) x ts rest w.1)
      | inr w ↦
          let n = bind_ok (name_at w.0) _ _ w.2 in
          let k = name_ok w.0 n.0.0 n.0.1 n.1 in
          let same = given_ok (tree.Name (Some c) n.0.0) x n.0.1 rest n.2 in
          let front : List Lexeme =
          lexeme.Name c d ∷ lexeme.Fixed mark.Dot ∷ lexeme.Name n.0.0 k.0 ∷ [] in (
            front,
            ap (λ r. lexeme.Name c d ∷ r)
                (after_ok mark.Dot ts w.0 w.1
                ∙ ap (λ r. lexeme.Fixed mark.Dot ∷ r)
                (k.1 ∙ ap (λ r. lexeme.Name n.0.0 k.0 ∷ r) same.1)),
            subst (λ t. Spells g.primary front t) same.0 (g.qualified c n.0.0 d k.0),
          )
    ]

plain_number_ok : (ts : List Lexeme) (x : Tree) (rest : List Lexeme)
    → number_at false ts ≡ Some (x, rest) →
    Takes (Spells g.primary) ts x rest
plain_number_ok ts x rest e =
    let k = number_ok false ts x rest e in
    (k.0 ∷ [], k.2, subst (λ t. Spells g.primary (k.0 ∷ []) t) k.3 (g.number k.4))

leaf_ok : IsSound (Spells g.primary) leaf_at
unfolding leaf_at
leaf_ok [] x rest e = cc
leaf_ok (lexeme.Fixed m ∷ ts) x rest e = cc
leaf_ok (lexeme.Name c d ∷ ts) x rest e = named_ok c d ts x rest e
leaf_ok (lexeme.Text bytes ∷ ts) x rest e =
    here (Spells g.primary) (lexeme.Text bytes ∷ []) rest ts x _ (g.text bytes)
    (given_ok (tree.Lit (value.Text bytes)) x ts rest e)
leaf_ok (lexeme.Blob bytes ∷ ts) x rest e =
    here (Spells g.primary) (lexeme.Blob bytes ∷ []) rest ts x _ (g.blob bytes)
    (given_ok (tree.Lit (value.Blob bytes)) x ts rest e)
leaf_ok (lexeme.Int n ∷ ts) x rest e = plain_number_ok (lexeme.Int n ∷ ts) x rest e
leaf_ok (lexeme.Dec n ∷ ts) x rest e = plain_number_ok (lexeme.Dec n ∷ ts) x rest e
leaf_ok (lexeme.Param n ∷ ts) x rest e =
    here (Spells g.primary) (lexeme.Param n ∷ []) rest ts x _ (g.param n)
    (given_ok (tree.Param n) x ts rest e)
leaf_ok (lexeme.Other ∷ ts) x rest e = cc

collated_ok : (y : Tree) (front : List Lexeme) → Spells g.primary front y
    → (ts : List Lexeme) (x : Tree)
    (rest : List Lexeme) → collated_at y ts ≡ Some (x, rest)
    → Takes (Spells g.operand) (front ++ ts) x rest
unfolding collated_at
collated_ok y front s ts x rest e =
    elim (branch_ok (after mark.Collate ts) _ _ _ e) [
      | inl w ↦ here (Spells g.operand) front rest ts x y (g.simple s) (given_ok y x ts rest w.1)
      | inr w ↦
          let n = bind_ok (name_at w.0) _ _ w.2 in
          let k = name_ok w.0 n.0.0 n.0.1 n.1 in
          let same = given_ok (tree.Collate y n.0.0) x n.0.1 rest n.2 in
          let behind : List Lexeme = lexeme.Fixed mark.Collate ∷ lexeme.Name n.0.0 k.0 ∷ [] in
          let whole : ts ≡ behind ++ rest =
          after_ok mark.Collate ts w.0 w.1
          ∙ ap (λ r. lexeme.Fixed mark.Collate ∷ r)
          (k.1 ∙ ap (λ r. lexeme.Name n.0.0 k.0 ∷ r) same.1) in (
            front ++ behind,
            ap (λ r. front ++ r) whole ∙ sym (append_assoc front behind rest),
            subst (λ t. Spells g.operand (front ++ behind) t) same.0 (g.collated n.0.0 k.0 s refl),
          )
    ]

pub enclosed_ok : {A : Type 0} (p : Reader A) (ts : List Lexeme) (x : A) (rest : List Lexeme) →
    enclosed_at p ts ≡ Some (x, rest) → p ts ≡ Some (x, lexeme.Fixed mark.Close ∷ rest)
unfolding enclosed_at
enclosed_ok p ts x rest e =
    let b = bind_ok (p ts) _ _ e in
    elim (branch_ok (after mark.Close b.0.1) _ _ _ b.2) [
      | inl w ↦ absurd (cc (w.1))
      | inr w ↦
          let is = given_ok b.0.0 x w.0 rest w.2 in
          b.1 ∙ ap (λ q. Some (b.0.0, q))
          (after_ok mark.Close b.0.1 w.0 w.1 ∙ ap (λ r. lexeme.Fixed mark.Close ∷ r) is.1)
          ∙ ap (λ y. Some (y, lexeme.Fixed mark.Close ∷ rest)) is.0
    ]

-- what is read a level deeper is spelled
record Sounds (b : Below) : Type 0 where
  expr : IsSound (Spells g.expr) b.expr
  not : IsSound (Spells g.not) b.not
  operand : IsSound (Spells g.operand) b.operand

module _ (b : Below) (sounds : Sounds b) where
  primary_ok : IsSound (Spells g.primary) (primary_at b)
  unfolding primary_at
  primary_ok ts x rest e =
      elim (branch_ok (after mark.Open ts) _ _ _ e) [
        | inr w ↦
            let t = sounds.expr w.0 x (lexeme.Fixed mark.Close ∷ rest)
            (enclosed_ok b.expr w.0 x rest w.2) in
            let front : List Lexeme =
            lexeme.Fixed mark.Open ∷ (t.0 ++ lexeme.Fixed mark.Close ∷ []) in (
              front,
              after_ok mark.Open ts w.0 w.1
                  ∙ ap (λ r. lexeme.Fixed mark.Open ∷ r)
                  (t.1 ∙ sym (append_assoc t.0 (lexeme.Fixed mark.Close ∷ []) rest)),
              g.enclosed t.2
                  refl,
            )
        | inl w ↦ elim (branch_ok (after mark.Null ts) _ _ _ w.1) [
          | inr w ↦
              let same = given_ok (tree.Lit value.Null) x w.0 rest w.2 in (
                lexeme.Fixed mark.Null ∷ [],
                after_ok mark.Null ts w.0 w.1
                    ∙ ap (λ r. lexeme.Fixed mark.Null ∷ r) same.1,
                subst
                    (λ t. Spells g.primary (lexeme.Fixed mark.Null ∷ []) t) same.0 g.null,
              )
          | inl w ↦ elim (branch_ok (after mark.Minus ts) _ _ _ w.1) [
            | inl w ↦ leaf_ok ts x rest w.1
            | inr w ↦
                let k = number_ok true w.0 x rest w.2 in
                let front : List Lexeme = lexeme.Fixed mark.Minus ∷ k.0 ∷ [] in (
                  front,
                  after_ok mark.Minus ts w.0 w.1 ∙ ap (λ r. lexeme.Fixed mark.Minus ∷ r) k.2,
                  subst (λ t. Spells g.primary front t) k.3 (g.negative k.4),
                )
          ]
        ]
      ]

  operand_ok : IsSound (Spells g.operand) (operand_at b)
  unfolding operand_at
  operand_ok ts x rest e =
      elim (branch_ok (after mark.Plus ts) _ _ _ e) [
        | inl w ↦
            let d = bind_ok (primary_at b ts) _ _ w.1 in
            let t = primary_ok ts d.0.0 d.0.1 d.1 in
            rw t.1 (collated_ok d.0.0 t.0 t.2 d.0.1 x rest d.2)
        | inr w ↦
            let d = bind_ok (b.operand w.0) _ _ w.2 in
            behind (Spells g.operand) (lexeme.Fixed mark.Plus) ts w.0 rest x
            (after_ok mark.Plus ts w.0 w.1)
            (answered (Spells g.operand) (λ fs z. Spells g.operand (lexeme.Fixed mark.Plus ∷ fs) z)
            w.0 d.0.1 rest d.0.0 (tree.Plus d.0.0) x (λ fs t. g.plus t)
            (given_ok (tree.Plus d.0.0) x d.0.1 rest d.2) (sounds.operand w.0 d.0.0 d.0.1 d.1))
      ]

  module _ (left : Tree) (front : List Lexeme) (s : Spells g.operand front left) where
    right_ok : (m : Mark) (o : Op) → IsOp m o → (r : List Lexeme) (x : Tree) (rest : List Lexeme) →
        right_at b o left r ≡ Some (x, rest)
        → Takes (Spells g.test) (front ++ lexeme.Fixed m ∷ r) x rest
    unfolding right_at
    right_ok m o op r x rest e =
        let d = bind_ok (operand_at b r) _ _ e in
        let is = given_ok (tree.Cmp o left d.0.0) x d.0.1 rest d.2 in
        let t = operand_ok r d.0.0 d.0.1 d.1 in
        let whole : r ≡ t.0 ++ rest = t.1 ∙ ap (λ q. t.0 ++ q) is.1 in (
          front ++ lexeme.Fixed m ∷ t.0,
          ap (λ q. front ++ lexeme.Fixed m ∷ q) whole
              ∙ sym (append_assoc front (lexeme.Fixed m ∷ t.0) rest),
          subst (λ y. Spells g.test (front ++ lexeme.Fixed m ∷ t.0) y) is.0
              (g.compared op s t.2 refl),
        )

    null_tested_ok : (neg : Bool) (ms : List Lexeme) → IsNullTest neg ms
        → (r : List Lexeme) (x : Tree) (rest : List Lexeme) →
        ◌≡◌ {A = Read Tree} (Some (tree.IsNull neg left, r)) (Some (x, rest))
        → Takes (Spells g.test) (front ++ (ms ++ r)) x rest
    null_tested_ok neg ms test r x rest e =
        let is = given_ok (tree.IsNull neg left) x r rest e in (
          front ++ ms,
          sym (append_assoc front ms r) ∙ ap (λ q. (front ++ ms) ++ q) is.1,
          subst (λ y. Spells g.test (front ++ ms) y) is.0 (g.null_tested test s refl),
        )

    between_ok : (neg : Bool) (r : List Lexeme) (x : Tree) (rest : List Lexeme)
        → between_at b neg left r ≡ Some (x, rest) →
        Takes (Spells g.test) (front ++ (perhaps_not neg mark.Between ++ r)) x rest
    unfolding between_at
    between_ok neg r x rest e =
        let d = bind_ok (operand_at b r) _ _ e in
        elim (branch_ok (after mark.And d.0.1) _ _ _ d.2) [
          | inl w ↦ absurd (cc (w.1))
          | inr w ↦
              let h = bind_ok (operand_at b w.0) _ _ w.2 in
              let is = given_ok (tree.Between neg left d.0.0 h.0.0) x h.0.1 rest h.2 in
              let low = operand_ok r d.0.0 d.0.1 d.1 in
              let high = operand_ok w.0 h.0.0 h.0.1 h.1 in
              let ms = perhaps_not neg mark.Between in
              let inside : List Lexeme =
              front ++ (ms ++ (low.0 ++ lexeme.Fixed mark.And ∷ high.0)) in
              let whole : r ≡ low.0 ++ lexeme.Fixed mark.And ∷ (high.0 ++ rest) =
              low.1 ∙ ap (λ q. low.0 ++ q)
              (after_ok mark.And d.0.1 w.0 w.1
              ∙ ap (λ q. lexeme.Fixed mark.And ∷ q) (high.1 ∙ ap (λ q. high.0 ++ q) is.1)) in
              let same : front ++ (ms ++ (low.0 ++ lexeme.Fixed mark.And ∷ (high.0 ++ rest)))
              ≡ inside ++ rest = simp append_assoc in (
                inside,
                ap (λ q. front ++ (ms ++ q)) whole ∙ same,
                subst (λ y. Spells g.test inside y) is.0 (g.between neg s low.2 high.2 refl),
              )
        ]

    like_ok : (neg : Bool) (r : List Lexeme) (x : Tree) (rest : List Lexeme)
        → like_at b neg left r ≡ Some (x, rest) →
        Takes (Spells g.test) (front ++ (perhaps_not neg mark.Like ++ r)) x rest
    unfolding like_at
    like_ok neg r x rest e =
        let d = bind_ok (operand_at b r) _ _ e in
        let is = given_ok (tree.Like neg left d.0.0) x d.0.1 rest d.2 in
        let t = operand_ok r d.0.0 d.0.1 d.1 in
        let ms = perhaps_not neg mark.Like in
        let inside : List Lexeme = front ++ (ms ++ t.0) in
        let whole : r ≡ t.0 ++ rest = t.1 ∙ ap (λ q. t.0 ++ q) is.1 in
        let same : front ++ (ms ++ (t.0 ++ rest)) ≡ inside ++ rest = simp append_assoc in (
          inside,
          ap (λ q. front ++ (ms ++ q)) whole ∙ same,
          subst (λ y. Spells g.test inside y) is.0 (g.like neg s t.2 refl),
        )

    one_of_ok : (neg : Bool) (r : List Lexeme) (x : Tree) (rest : List Lexeme)
        → one_of_at b neg left r ≡ Some (x, rest) →
        Takes (Spells g.test) (front ++ (perhaps_not neg mark.In ++ r)) x rest
    unfolding one_of_at entries_at
    one_of_ok neg r x rest e =
        elim (branch_ok (after mark.Open r) _ _ _ e) [
          | inl w ↦ absurd (cc (w.1))
          | inr w ↦
              let d = bind_ok (entries_at b w.0) _ _ w.2 in
              let is = given_ok (tree.OneOf neg left (trees d.0.0)) x d.0.1 rest d.2 in
              let ms = perhaps_not neg mark.In in
              elim (branch_ok (after mark.Close w.0) _ _ _ d.1) [
                | inl v ↦
                    let t = members_ok b.expr g.expr mark.Comma sounds.expr w.0 d.0.0
                    (lexeme.Fixed mark.Close ∷ d.0.1)
                    (enclosed_ok (list_at b.expr (after mark.Comma) b.expr) w.0 d.0.0 d.0.1 v.1)
                    in
                    let inside : List Lexeme =
                    front ++ (ms ++ lexeme.Fixed mark.Open ∷
                    (t.0 ++ lexeme.Fixed mark.Close ∷ [])) in
                    let whole : r ≡ lexeme.Fixed mark.Open ∷
                    (t.0 ++ lexeme.Fixed mark.Close ∷ rest) =
                    after_ok mark.Open r w.0 w.1
                    ∙ ap (λ q. lexeme.Fixed mark.Open ∷ q)
                    (t.1 ∙ ap (λ q. t.0 ++ lexeme.Fixed mark.Close ∷ q) is.1) in
                    let same : front ++ (ms
                    ++ lexeme.Fixed mark.Open ∷ (t.0 ++ lexeme.Fixed mark.Close ∷ rest))
                    ≡ inside ++ rest = simp append_assoc in (
                      inside,
                      ap (λ q. front ++ (ms ++ q)) whole ∙ same,
                      subst (λ y. Spells g.test inside y) is.0 (g.in_some neg s t.2 refl),
                    )
                | inr v ↦
                    let no = given_ok [] d.0.0 v.0 d.0.1 v.2 in
                    let inside : List Lexeme =
                    front ++ (ms ++ lexeme.Fixed mark.Open ∷ lexeme.Fixed mark.Close ∷ []) in
                    let whole : r ≡ lexeme.Fixed mark.Open ∷ lexeme.Fixed mark.Close ∷ rest =
                    after_ok mark.Open r w.0 w.1
                    ∙ ap (λ q. lexeme.Fixed mark.Open ∷ q)
                    (after_ok mark.Close w.0 v.0 v.1
                    ∙ ap (λ q. lexeme.Fixed mark.Close ∷ q) (no.1 ∙ is.1)) in
                    let same : front ++ (ms
                    ++ lexeme.Fixed mark.Open ∷ lexeme.Fixed mark.Close ∷ rest)
                    ≡ inside ++ rest = simp append_assoc in (
                      inside,
                      ap (λ q. front ++ (ms ++ q)) whole ∙ same,
                      subst (λ y. Spells g.test inside y)
                          (ap (λ ys. tree.OneOf neg left (trees ys)) no.0 ∙ is.0)
                          (g.in_none neg s refl),
                    )
              ]
        ]

    tested_ok : (f : Follow) (ms r : List Lexeme) → FollowMarks ms f
        → (x : Tree) (rest : List Lexeme) →
        tested_at b left f r ≡ Some (x, rest) → Takes (Spells g.test) (front ++ (ms ++ r)) x rest
    unfolding tested_at
    tested_ok (follow.Cmp o) ms r k x rest e = rw k.2 (right_ok k.0 o k.1 r x rest e)
    tested_ok (follow.Null neg) ms r k x rest e = null_tested_ok neg ms k r x rest e
    tested_ok (follow.Between neg) ms r k x rest e = rw k (between_ok neg r x rest e)
    tested_ok (follow.OneOf neg) ms r k x rest e = rw k (one_of_ok neg r x rest e)
    tested_ok (follow.Like neg) ms r k x rest e = rw k (like_ok neg r x rest e)

  test_ok : IsSound (Spells g.test) (test_at b)
  unfolding test_at
  test_ok ts x rest e =
      let d = bind_ok (operand_at b ts) _ _ e in
      let t = operand_ok ts d.0.0 d.0.1 d.1 in
      elim (branch_ok (follow_at d.0.1) _ _ _ d.2) [
        | inl w ↦ moved (Spells g.test) ts (t.0 ++ d.0.1) rest x t.1
            (here (Spells g.test) t.0 rest d.0.1 x d.0.0 (g.bare t.2)
            (given_ok d.0.0 x d.0.1 rest w.1))
        | inr w ↦
            let k = follow_ok d.0.1 w.0.0 w.0.1 w.1 in
            moved (Spells g.test) ts (t.0 ++ (k.0 ++ w.0.1)) rest x (t.1 ∙ ap (λ q. t.0 ++ q) k.1)
            (tested_ok d.0.0 t.0 t.2 w.0.0 k.0 w.0.1 k.2 x rest w.2)
      ]

  not_ok : IsSound (Spells g.not) (not_at b)
  unfolding not_at
  not_ok ts x rest e =
      elim (branch_ok (after mark.Not ts) _ _ _ e) [
        | inl w ↦ under (Spells g.test) (Spells g.not) ts rest x x (λ fs s. g.tested s)
            (test_ok ts x rest w.1)
        | inr w ↦
            let d = bind_ok (b.not w.0) _ _ w.2 in
            behind (Spells g.not) (lexeme.Fixed mark.Not) ts w.0 rest x
            (after_ok mark.Not ts w.0 w.1)
            (answered (Spells g.not) (λ fs z. Spells g.not (lexeme.Fixed mark.Not ∷ fs) z)
            w.0 d.0.1 rest d.0.0 (tree.Not d.0.0) x (λ fs t. g.negated t)
            (given_ok (tree.Not d.0.0) x d.0.1 rest d.2) (sounds.not w.0 d.0.0 d.0.1 d.1))
      ]

  and_ok : IsSound (Spells g.and) (and_at b)
  unfolding and_at
  and_ok ts x rest e =
      let d = bind_ok (list_at (not_at b) (after mark.And) (not_at b) ts) _ _ e in
      let made = joined tree.All d.0.0 in
      answered (Members g.not mark.And) (Spells g.and) ts d.0.1 rest d.0.0 made x
      (λ fs t. g.all_of t) (given_ok made x d.0.1 rest d.2)
      (members_ok (not_at b) g.not mark.And not_ok ts d.0.0 d.0.1 d.1)

  expr_ok : IsSound (Spells g.expr) (expr_at b)
  unfolding expr_at
  expr_ok ts x rest e =
      let d = bind_ok (list_at (and_at b) (after mark.Or) (and_at b) ts) _ _ e in
      let made = joined tree.Any d.0.0 in
      answered (Members g.and mark.Or) (Spells g.expr) ts d.0.1 rest d.0.0 made x
      (λ fs t. g.any_of t) (given_ok made x d.0.1 rest d.2)
      (members_ok (and_at b) g.and mark.Or and_ok ts d.0.0 d.0.1 d.1)

below_ok : (n : ℕ) → Sounds (below n)
unfolding below
below_ok zero = record {
  expr = λ ts x rest e. absurd (cc (e));
  not = λ ts x rest e. absurd (cc (e));
  operand = λ ts x rest e. absurd (cc (e));
}
below_ok (suc n) = record {
  expr = expr_ok (below n) (below_ok n);
  not = not_ok (below n) (below_ok n);
  operand = operand_ok (below n) (below_ok n);
}

-- what is read is spelled
pub expressions_sound : (n : ℕ) → IsSound (Spells g.expr) (expr_at (below n))
expressions_sound n = expr_ok (below n) (below_ok n)
