-- What is spelled as an expression is read, whatever follows that cannot go on with it.
use Rattle.std.proofs.Common.{◌≡◌, ℕ, suc, zero, ◌+◌, ◌-◌, ◌<◌, ◌≤◌, Bool, true, false, Option}
use Rattle.std.proofs.Common.{None, Some, List, [], ◌∷◌, ◌++◌, length, refl, ap, ◌∙◌, append_assoc}
use Rattle.std.proofs.Common.{arith, length-append}
use Rattle.sql_meaning.specs.Values.{Value}
use Rattle.sql_meaning.specs.Values as value
use Rattle.sql_tree.specs.Trees.{Tree, trees}
use Rattle.sql_tree.specs.Trees as tree
use Rattle.sql_tree.specs.declared.expression.Op.{Op}
use Rattle.sql_read.specs.declared.follow.Follow.TheVariants as follow
use Rattle.sql_read.specs.declared.lexeme.Direction.{Direction}
use Rattle.sql_read.specs.declared.lexeme.Mark.{Mark}
use Rattle.sql_read.specs.declared.lexeme.Mark.TheVariants as mark
use Rattle.sql_read.specs.Lexemes.{Lexeme}
use Rattle.sql_read.specs.Lexemes as lexeme
use Rattle.sql_read.specs.Reading.{◌>>=◌, same_mark, after, name_at, Read, Reader, more_at}
use Rattle.sql_read.specs.Reading.{with_front, list_at}
use Rattle.sql_read.specs.Leaves.{number_at, named_at, leaf_at, collated_at}
use Rattle.sql_read.specs.Expressions.{Below, joined, below, expr_at, and_at, not_at, test_at}
use Rattle.sql_read.specs.Expressions.{tested_at, one_of_at, entries_at, between_at, like_at}
use Rattle.sql_read.specs.Expressions.{right_at}
use Rattle.sql_read.specs.Expressions.{operand_at, primary_at, enclosed_at, op_at, null_at, is_at}
use Rattle.sql_read.specs.Expressions.{null_test_at, word_test_at, follow_at}
use Rattle.sql_parse.specs.Grammar.{Level, Spells, Members, IsOp, IsNullTest, IsNumber, perhaps_not}
use Rattle.sql_parse.specs.Grammar as g
use Rattle.sql_read.proofs.Members.{more_at-stop}
use Rattle.sql_parse.proofs.Steps.{after-same}

abbrev pub reader : Level → Below → Reader Tree
reader g.expr b = expr_at b
reader g.and b = and_at b
reader g.not b = not_at b
reader g.test b = test_at b
reader g.operand b = operand_at b
reader g.primary b = primary_at b

-- no test goes on here
pub record NoTest (ts : List Lexeme) : Type 0 where
  pub dot : after mark.Dot ts ≡ None
  pub collate : after mark.Collate ts ≡ None
  pub follow : follow_at ts ≡ None

-- nothing of this level goes on here
abbrev pub Stops : Level → List Lexeme → Type 0
Stops g.expr ts = NoTest ts × (after mark.And ts ≡ None) × (after mark.Or ts ≡ None)
Stops g.and ts = NoTest ts × (after mark.And ts ≡ None)
Stops g.not ts = NoTest ts
Stops g.test ts = NoTest ts
Stops g.operand ts = (after mark.Dot ts ≡ None) × (after mark.Collate ts ≡ None)
Stops g.primary ts = after mark.Dot ts ≡ None

-- the marks with which no expression begins
pub record NoMark (ts : List Lexeme) : Type 0 where
  pub close : after mark.Close ts ≡ None
  pub all : after mark.All ts ≡ None
  pub star : after mark.Star ts ≡ None

-- what a level may begin with
abbrev Allowed : Level → Lexeme → List Lexeme → Type 0
Allowed g.expr t r = NoMark (t ∷ r)
Allowed g.and t r = NoMark (t ∷ r)
Allowed g.not t r = NoMark (t ∷ r)
Allowed g.test t r = NoMark (t ∷ r) × (after mark.Not (t ∷ r) ≡ None)
Allowed g.operand t r = NoMark (t ∷ r) × (after mark.Not (t ∷ r) ≡ None)
Allowed g.primary t r = NoMark (t ∷ r) × (after mark.Not (t ∷ r) ≡ None)
    × (after mark.Plus (t ∷ r) ≡ None)

abbrev Begins : Level → List Lexeme → Type 0
Begins l ts = (first : Lexeme) × (behind : List Lexeme) × (ts ≡ first ∷ behind)
    × ((r : List Lexeme) → Allowed l first r)

longer : (l : Level) (ts fs q : List Lexeme) → Begins l fs → ts ≡ fs ++ q → Begins l ts
longer l ts fs q b e = (b.0, b.1 ++ q, e ∙ ap (λ r. r ++ q) b.2, b.3)

number_begins : {neg : Bool} {t : Lexeme} {v : Value} → IsNumber neg t v → (r : List Lexeme)
    → Allowed g.primary t r
unfolding after
number_begins (g.int e) r = (record { close = refl; all = refl; star = refl }, refl, refl)
number_begins (g.dec e) r = (record { close = refl; all = refl; star = refl }, refl, refl)

-- what a primary other than a number begins with
data FirstOfPrimary : Lexeme → Type 0 where
  null : FirstOfPrimary (lexeme.Fixed mark.Null)
  minus : FirstOfPrimary (lexeme.Fixed mark.Minus)
  open_mark : FirstOfPrimary (lexeme.Fixed mark.Open)
  text : (bytes : List ℕ) → FirstOfPrimary (lexeme.Text bytes)
  blob : (bytes : List ℕ) → FirstOfPrimary (lexeme.Blob bytes)
  param : (n : ℕ) → FirstOfPrimary (lexeme.Param n)
  name : (c : List ℕ) (d : Option Direction) → FirstOfPrimary (lexeme.Name c d)

primary_begins : {t : Lexeme} → FirstOfPrimary t → (r : List Lexeme) → Allowed g.primary t r
unfolding after same_mark
primary_begins null r = (record { close = refl; all = refl; star = refl }, refl, refl)
primary_begins _ r = (record { close = refl; all = refl; star = refl }, refl, refl)

mutual
  unfolding after same_mark

  begins : {l : Level} {ts : List Lexeme} {x : Tree} → Spells l ts x → Begins l ts
  begins (g.any_of s) = let b = members_begin s in (b.0, b.1, b.2, b.3)
  begins (g.all_of s) = let b = members_begin s in (b.0, b.1, b.2, b.3)
  begins (g.negated {ts} s) =
      (lexeme.Fixed mark.Not, ts, refl, λ r. record { close = refl; all = refl; star = refl })
  begins (g.tested s) = let b = begins s in (b.0, b.1, b.2, λ r. (b.3 r).0)
  begins (g.bare s) = let b = begins s in (b.0, b.1, b.2, b.3)
  begins (g.compared {ts} {fs} o s t e) = let c = longer g.operand ts fs _ (begins s) e in
      (c.0, c.1, c.2, c.3)
  begins (g.null_tested {ts} {fs} k s e) = let c = longer g.operand ts fs _ (begins s) e in
      (c.0, c.1, c.2, c.3)
  begins (g.between {ts} {fs} neg s t u e) = let c = longer g.operand ts fs _ (begins s) e in
      (c.0, c.1, c.2, c.3)
  begins (g.like {ts} {fs} neg s t e) = let c = longer g.operand ts fs _ (begins s) e in
      (c.0, c.1, c.2, c.3)
  begins (g.in_none {ts} {fs} neg s e) = let c = longer g.operand ts fs _ (begins s) e in
      (c.0, c.1, c.2, c.3)
  begins (g.in_some {ts} {fs} neg s t e) = let c = longer g.operand ts fs _ (begins s) e in
      (c.0, c.1, c.2, c.3)
  begins (g.plus {ts} s) = (
    lexeme.Fixed mark.Plus,
    ts,
    refl,
    λ r. (record { close = refl; all = refl; star = refl }, refl),
  )
  begins (g.simple s) = let b = begins s in (b.0, b.1, b.2, λ r. ((b.3 r).0, (b.3 r).1))
  begins (g.collated {ts} {fs} c d s e) = let b = longer g.primary ts fs _ (begins s) e in
      (b.0, b.1, b.2, λ r. ((b.3 r).0, (b.3 r).1))
  begins g.null = (lexeme.Fixed mark.Null, [], refl, primary_begins null)
  begins (g.number {t} k) = (t, [], refl, number_begins k)
  begins (g.negative {t} k) = (lexeme.Fixed mark.Minus, t ∷ [], refl, primary_begins minus)
  begins (g.text bytes) = (lexeme.Text bytes, [], refl, primary_begins (text bytes))
  begins (g.blob bytes) = (lexeme.Blob bytes, [], refl, primary_begins (blob bytes))
  begins (g.param n) = (lexeme.Param n, [], refl, primary_begins (param n))
  begins (g.column c d) = (lexeme.Name c d, [], refl, primary_begins (name c d))
  begins (g.qualified t c d e) =
      let behind : List Lexeme = lexeme.Fixed mark.Dot ∷ lexeme.Name c e ∷ [] in
      (lexeme.Name t d, behind, refl, primary_begins (name t d))
  begins (g.enclosed {es = es} s e) =
      (lexeme.Fixed mark.Open, es ++ lexeme.Fixed mark.Close ∷ [], e, primary_begins open_mark)

  members_begin : {l : Level} {m : Mark} {ts : List Lexeme} {xs : List Tree} → Members l m ts xs
      → Begins l ts
  members_begin (g.last s) = begins s
  members_begin {l} (g.more {ts = ts} {fs = fs} s t e) = longer l ts fs _ (begins s) e

-- the first lexeme, and with it what is not there
no_not : (ts rest : List Lexeme) → Begins g.test ts → after mark.Not (ts ++ rest) ≡ None
no_not ts rest b = ap (λ q. after mark.Not (q ++ rest)) b.2 ∙ (b.3 (b.1 ++ rest)).1

no_plus : (ts rest : List Lexeme) → Begins g.primary ts → after mark.Plus (ts ++ rest) ≡ None
no_plus ts rest b = ap (λ q. after mark.Plus (q ++ rest)) b.2 ∙ (b.3 (b.1 ++ rest)).2

no_close : (ts rest : List Lexeme) → Begins g.expr ts → after mark.Close (ts ++ rest) ≡ None
no_close ts rest b = ap (λ q. after mark.Close (q ++ rest)) b.2 ∙ (b.3 (b.1 ++ rest)).close

pub no_mark : {ts : List Lexeme} {x : Tree} → Spells g.expr ts x → (rest : List Lexeme) →
    (after mark.All (ts ++ rest) ≡ None) × (after mark.Star (ts ++ rest) ≡ None)
no_mark {ts} s rest =
    let b = begins s in (
      ap (λ q. after mark.All (q ++ rest)) b.2 ∙ (b.3 (b.1 ++ rest)).all,
      ap (λ q. after mark.Star (q ++ rest)) b.2 ∙ (b.3 (b.1 ++ rest)).star,
    )

-- Lists of members, of any kind.

module _ {A : Type 0} (start : List Lexeme → Option (List Lexeme)) (p : Reader A) where
  -- a first member, and up to n behind it
  unfoldable pub members_at : Reader A → ℕ → Reader (List A)
  members_at first n ts = first ts >>= λ x. with_front (x.0 ∷ []) (more_at start p n x.1)

  pub more_at-step : (n : ℕ) (ts q : List Lexeme) → start ts ≡ Some q
      → more_at start p (suc n) ts ≡ members_at p n q
  unfolding more_at members_at
  more_at-step n ts q e = rw e refl

  pub from_last : (first : Reader A) (n : ℕ) (ts rest : List Lexeme) (x : A)
      → first ts ≡ Some (x, rest) → start rest ≡ None →
      members_at first n ts ≡ Some (x ∷ [], rest)
  unfolding members_at
  from_last first n ts rest x e stop = rw (e, more_at-stop start p n rest stop) refl

  pub from_more : (first : Reader A) (n : ℕ) (ts s q rest : List Lexeme) (x : A) (xs : List A)
      → first ts ≡ Some (x, s) →
      start s ≡ Some q → members_at p n q ≡ Some (xs, rest)
      → members_at first (suc n) ts ≡ Some (x ∷ xs, rest)
  unfolding members_at
  from_more first n ts s q rest x xs e next f =
      rw (e, more_at-step n s q next) (ap (with_front (x ∷ [])) f)

  pub list_last : (first : Reader A) (ts rest : List Lexeme) (x : A) → first ts ≡ Some (x, rest)
      → start rest ≡ None →
      list_at first start p ts ≡ Some (x ∷ [], rest)
  unfolding list_at
  list_last first ts rest x e stop = rw (e, more_at-stop start p (length rest) rest stop) refl

  pub list_more : (first : Reader A) (ts s q rest : List Lexeme) (x : A) (xs : List A) (n : ℕ)
      → first ts ≡ Some (x, s) →
      start s ≡ Some q → length s ≡ suc n → members_at p n q ≡ Some (xs, rest) →
      list_at first start p ts ≡ Some (x ∷ xs, rest)
  unfolding list_at
  list_more first ts s q rest x xs n e next long f =
      rw (e, long, more_at-step n s q next) (ap (with_front (x ∷ [])) f)

-- a level deeper
below_expr : (n : ℕ) → 0 < n → (below n).expr ≡ expr_at (below (n - 1))
unfolding below
below_expr zero h = absurd (omega arith)
below_expr (suc n) h = let e : n ≡ suc n - 1 = omega arith in ap (λ k. expr_at (below k)) e

below_not : (n : ℕ) → 0 < n → (below n).not ≡ not_at (below (n - 1))
unfolding below
below_not zero h = absurd (omega arith)
below_not (suc n) h = let e : n ≡ suc n - 1 = omega arith in ap (λ k. not_at (below k)) e

below_operand : (n : ℕ) → 0 < n → (below n).operand ≡ operand_at (below (n - 1))
unfolding below
below_operand zero h = absurd (omega arith)
below_operand (suc n) h = let e : n ≡ suc n - 1 = omega arith in ap (λ k. operand_at (below k)) e

-- The marks by which a test goes on.

follow_op : {m : Mark} {o : Op} → IsOp m o → (q : List Lexeme)
    → follow_at (lexeme.Fixed m ∷ q) ≡ Some (follow.Cmp o, q)
unfolding follow_at op_at after same_mark
follow_op g.eq q = refl
follow_op _ q = refl

follow_null : {neg : Bool} {ms : List Lexeme} → IsNullTest neg ms → (q : List Lexeme)
    → follow_at (ms ++ q) ≡ Some (follow.Null neg, q)
unfolding follow_at op_at null_test_at is_at null_at after same_mark
follow_null g.is_null q = refl
follow_null _ q = refl

follow_between : (neg : Bool) (q : List Lexeme)
    → follow_at (perhaps_not neg mark.Between ++ q) ≡ Some (follow.Between neg, q)
unfolding follow_at op_at null_test_at null_at word_test_at after same_mark
follow_between false q = refl
follow_between true q = refl

follow_like : (neg : Bool) (q : List Lexeme)
    → follow_at (perhaps_not neg mark.Like ++ q) ≡ Some (follow.Like neg, q)
unfolding follow_at op_at null_test_at null_at word_test_at after same_mark
follow_like false q = refl
follow_like true q = refl

follow_in : (neg : Bool) (q : List Lexeme)
    → follow_at (perhaps_not neg mark.In ++ q) ≡ Some (follow.OneOf neg, q)
unfolding follow_at op_at null_test_at null_at word_test_at after same_mark
follow_in false q = refl
follow_in true q = refl

-- Each level, from what the next one reads.
module _ (b : Below) where
  expr_is : (ts rest : List Lexeme) (xs : List Tree)
      → list_at (and_at b) (after mark.Or) (and_at b) ts ≡ Some (xs, rest)
      → expr_at b ts ≡ Some (joined tree.Any xs, rest)
  unfolding expr_at
  expr_is ts rest xs e = rw e refl

  and_is : (ts rest : List Lexeme) (xs : List Tree)
      → list_at (not_at b) (after mark.And) (not_at b) ts ≡ Some (xs, rest)
      → and_at b ts ≡ Some (joined tree.All xs, rest)
  unfolding and_at
  and_is ts rest xs e = rw e refl

  not_deeper : (q rest : List Lexeme) (x : Tree) → b.not q ≡ Some (x, rest)
      → not_at b (lexeme.Fixed mark.Not ∷ q) ≡ Some (tree.Not x, rest)
  unfolding not_at
  not_deeper q rest x e = rw (after-same mark.Not q, e) refl

  not_flat : (ts : List Lexeme) (z : Read Tree) → after mark.Not ts ≡ None → test_at b ts ≡ z
      → not_at b ts ≡ z
  unfolding not_at
  not_flat ts z none e = rw none e

  test_bare : (ts rest : List Lexeme) (x : Tree) → operand_at b ts ≡ Some (x, rest)
      → follow_at rest ≡ None → test_at b ts ≡ Some (x, rest)
  unfolding test_at
  test_bare ts rest x e stop = rw (e, stop) refl

  test_compared : {m : Mark} {o : Op} → IsOp m o → (ts q rest : List Lexeme) (x y : Tree)
      → operand_at b ts ≡ Some (x, lexeme.Fixed m ∷ q) → operand_at b q ≡ Some (y, rest)
      → test_at b ts ≡ Some (tree.Cmp o x y, rest)
  unfolding test_at tested_at right_at
  test_compared op ts q rest x y e f = rw (e, follow_op op q, f) refl

  test_null : {neg : Bool} {ms : List Lexeme} → IsNullTest neg ms → (ts q : List Lexeme) (x : Tree)
      → operand_at b ts ≡ Some (x, ms ++ q) → test_at b ts ≡ Some (tree.IsNull neg x, q)
  unfolding test_at tested_at
  test_null k ts q x e = rw (e, follow_null k q) refl

  test_between : (neg : Bool) (ts q s rest : List Lexeme) (x y z : Tree)
      → operand_at b ts ≡ Some (x, perhaps_not neg mark.Between ++ q) →
      operand_at b q ≡ Some (y, lexeme.Fixed mark.And ∷ s) → operand_at b s ≡ Some (z, rest)
      → test_at b ts ≡ Some (tree.Between neg x y z, rest)
  unfolding test_at tested_at between_at
  test_between neg ts q s rest x y z e f h =
      rw (e, follow_between neg q, f, after-same mark.And s, h) refl

  test_like : (neg : Bool) (ts q rest : List Lexeme) (x y : Tree)
      → operand_at b ts ≡ Some (x, perhaps_not neg mark.Like ++ q)
      → operand_at b q ≡ Some (y, rest) → test_at b ts ≡ Some (tree.Like neg x y, rest)
  unfolding test_at tested_at like_at
  test_like neg ts q rest x y e f = rw (e, follow_like neg q, f) refl

  test_in : (neg : Bool) (ts q rest : List Lexeme) (x : Tree) (xs : List Tree)
      → operand_at b ts ≡ Some (x, perhaps_not neg mark.In ++ lexeme.Fixed mark.Open ∷ q)
      → entries_at b q ≡ Some (xs, rest) → test_at b ts ≡ Some (tree.OneOf neg x (trees xs), rest)
  unfolding test_at tested_at one_of_at
  test_in neg ts q rest x xs e f =
      rw (e, follow_in neg (lexeme.Fixed mark.Open ∷ q), after-same mark.Open q, f) refl

  entries_none : (rest : List Lexeme)
      → entries_at b (lexeme.Fixed mark.Close ∷ rest) ≡ Some ([], rest)
  unfolding entries_at
  entries_none rest = rw (after-same mark.Close rest) refl

  entries_some : (q rest : List Lexeme) (xs : List Tree) → after mark.Close q ≡ None
      → list_at b.expr (after mark.Comma) b.expr q ≡ Some (xs, lexeme.Fixed mark.Close ∷ rest)
      → entries_at b q ≡ Some (xs, rest)
  unfolding entries_at enclosed_at
  entries_some q rest xs none e = rw (none, e, after-same mark.Close rest) refl

  operand_plus : (q rest : List Lexeme) (x : Tree) → b.operand q ≡ Some (x, rest)
      → operand_at b (lexeme.Fixed mark.Plus ∷ q) ≡ Some (tree.Plus x, rest)
  unfolding operand_at
  operand_plus q rest x e = rw (after-same mark.Plus q, e) refl

  operand_simple : (ts rest : List Lexeme) (x : Tree) → after mark.Plus ts ≡ None
      → primary_at b ts ≡ Some (x, rest) → after mark.Collate rest ≡ None
      → operand_at b ts ≡ Some (x, rest)
  unfolding operand_at collated_at
  operand_simple ts rest x none e stop = rw (none, e, stop) refl

  operand_collated : (ts rest : List Lexeme) (x : Tree) (c : List ℕ) (d : Option Direction)
      → after mark.Plus ts ≡ None
      → primary_at b ts ≡ Some (x, lexeme.Fixed mark.Collate ∷ lexeme.Name c d ∷ rest)
      → operand_at b ts ≡ Some (tree.Collate x c, rest)
  unfolding operand_at collated_at name_at
  operand_collated ts rest x c d none e =
      rw (none, e, after-same mark.Collate (lexeme.Name c d ∷ rest)) refl

  primary_null : (rest : List Lexeme)
      → primary_at b (lexeme.Fixed mark.Null ∷ rest) ≡ Some (tree.Lit value.Null, rest)
  unfolding primary_at after same_mark
  primary_null rest = refl

  primary_number : {t : Lexeme} {v : Value} → IsNumber false t v → (rest : List Lexeme)
      → primary_at b (t ∷ rest) ≡ Some (tree.Lit v, rest)
  unfolding primary_at after leaf_at number_at
  primary_number (g.int e) rest = rw e refl
  primary_number (g.dec e) rest = rw e refl

  primary_negative : {t : Lexeme} {v : Value} → IsNumber true t v → (rest : List Lexeme)
      → primary_at b (lexeme.Fixed mark.Minus ∷ t ∷ rest) ≡ Some (tree.Lit v, rest)
  unfolding primary_at after same_mark number_at
  primary_negative (g.int e) rest = rw e refl
  primary_negative (g.dec e) rest = rw e refl

  primary_text : (bytes : List ℕ) (rest : List Lexeme)
      → primary_at b (lexeme.Text bytes ∷ rest) ≡ Some (tree.Lit (value.Text bytes), rest)
  unfolding primary_at after leaf_at
  primary_text bytes rest = refl

  primary_blob : (bytes : List ℕ) (rest : List Lexeme)
      → primary_at b (lexeme.Blob bytes ∷ rest) ≡ Some (tree.Lit (value.Blob bytes), rest)
  unfolding primary_at after leaf_at
  primary_blob bytes rest = refl

  primary_param : (n : ℕ) (rest : List Lexeme)
      → primary_at b (lexeme.Param n ∷ rest) ≡ Some (tree.Param n, rest)
  unfolding primary_at after leaf_at
  primary_param n rest = refl

  primary_column : (c : List ℕ) (d : Option Direction) (rest : List Lexeme)
      → after mark.Dot rest ≡ None
      → primary_at b (lexeme.Name c d ∷ rest) ≡ Some (tree.Name None c, rest)
  unfolding primary_at after leaf_at named_at
  primary_column c d rest none = rw none refl

  primary_qualified : (t c : List ℕ) (d e : Option Direction) (rest : List Lexeme)
      → primary_at b (lexeme.Name t d ∷ lexeme.Fixed mark.Dot ∷ lexeme.Name c e ∷ rest)
      ≡ Some (tree.Name (Some t) c, rest)
  unfolding primary_at after same_mark leaf_at named_at name_at
  primary_qualified t c d e rest = refl

  primary_enclosed : (q rest : List Lexeme) (x : Tree)
      → b.expr q ≡ Some (x, lexeme.Fixed mark.Close ∷ rest)
      → primary_at b (lexeme.Fixed mark.Open ∷ q) ≡ Some (x, rest)
  unfolding primary_at enclosed_at
  primary_enclosed q rest x e = rw (after-same mark.Open q, e, after-same mark.Close rest) refl

-- What ends a level.

stops_at_or : (q : List Lexeme) → Stops g.and (lexeme.Fixed mark.Or ∷ q)
unfolding after same_mark follow_at op_at null_test_at word_test_at
stops_at_or q = (record { dot = refl; collate = refl; follow = refl }, refl)

stops_at_and : (q : List Lexeme) → Stops g.not (lexeme.Fixed mark.And ∷ q)
unfolding after same_mark follow_at op_at null_test_at word_test_at
stops_at_and q = record { dot = refl; collate = refl; follow = refl }

stops_before_and : (q : List Lexeme) → Stops g.operand (lexeme.Fixed mark.And ∷ q)
unfolding after same_mark
stops_before_and q = (refl, refl)

pub stops_at_comma : (q : List Lexeme) → Stops g.expr (lexeme.Fixed mark.Comma ∷ q)
unfolding after same_mark follow_at op_at null_test_at word_test_at
stops_at_comma q = (record { dot = refl; collate = refl; follow = refl }, refl, refl)

stops_at_close : (q : List Lexeme) → Stops g.expr (lexeme.Fixed mark.Close ∷ q)
unfolding after same_mark follow_at op_at null_test_at word_test_at
stops_at_close q = (record { dot = refl; collate = refl; follow = refl }, refl, refl)

no_comma : (q : List Lexeme) → after mark.Comma (lexeme.Fixed mark.Close ∷ q) ≡ None
unfolding after same_mark
no_comma q = refl

pub stops_at_op : {m : Mark} {o : Op} → IsOp m o → (q : List Lexeme)
    → Stops g.operand (lexeme.Fixed m ∷ q)
unfolding after same_mark
stops_at_op g.eq q = (refl, refl)
stops_at_op _ q = (refl, refl)

pub stops_at_null_test : {neg : Bool} {ms : List Lexeme} → IsNullTest neg ms → (q : List Lexeme)
    → Stops g.operand (ms ++ q)
unfolding after same_mark
stops_at_null_test g.is_null q = (refl, refl)
stops_at_null_test _ q = (refl, refl)

pub stops_at_between : (neg : Bool) (q : List Lexeme)
    → Stops g.operand (perhaps_not neg mark.Between ++ q)
unfolding after same_mark
stops_at_between false q = (refl, refl)
stops_at_between true q = (refl, refl)

pub stops_at_like : (neg : Bool) (q : List Lexeme)
    → Stops g.operand (perhaps_not neg mark.Like ++ q)
unfolding after same_mark
stops_at_like false q = (refl, refl)
stops_at_like true q = (refl, refl)

pub stops_at_in : (neg : Bool) (q : List Lexeme) → Stops g.operand (perhaps_not neg mark.In ++ q)
unfolding after same_mark
stops_at_in false q = (refl, refl)
stops_at_in true q = (refl, refl)

pub no_dot : (q : List Lexeme) → after mark.Dot (lexeme.Fixed mark.Collate ∷ q) ≡ None
unfolding after same_mark
no_dot q = refl

-- lexemes in two parts, with what follows
pub parts : (ts fs q rest : List Lexeme) → ts ≡ fs ++ q → ts ++ rest ≡ fs ++ (q ++ rest)
parts ts fs q rest e = ap (λ r. r ++ rest) e ∙ append_assoc fs q rest

-- how long they are
pub lengths : (ts fs q : List Lexeme) → ts ≡ fs ++ q → length ts ≡ length fs + length q
lengths ts fs q e = ap length e ∙ length-append fs q

abbrev IsRead : ℕ → Level → List Lexeme → Tree → Type 0
IsRead n l ts x = (rest : List Lexeme) → Stops l rest
    → reader l (below n) (ts ++ rest) ≡ Some (x, rest)

mutual
  complete : (n : ℕ) {l : Level} {ts : List Lexeme} {x : Tree} → Spells l ts x → length ts ≤ n
      → IsRead n l ts x
  complete n (g.any_of {ts} {xs} s) fits rest stop =
      expr_is (below n) (ts ++ rest) rest xs
      (all_complete n s fits rest (stop.0, stop.1) stop.2 stops_at_or)
  complete n (g.all_of {ts} {xs} s) fits rest stop =
      and_is (below n) (ts ++ rest) rest xs (all_complete n s fits rest stop.0 stop.1 stops_at_and)
  complete n (g.negated {ts} {x} s) fits rest stop =
      not_deeper (below n) (ts ++ rest) rest x
      (rw (below_not n (omega arith)) (complete (n - 1) s (omega arith) rest stop))
  complete n (g.tested {ts} {x} s) fits rest stop =
      not_flat (below n) (ts ++ rest) _ (no_not ts rest (begins s)) (complete n s fits rest stop)
  complete n (g.bare {ts} {x} s) fits rest stop =
      test_bare (below n) (ts ++ rest) rest x (complete n s fits rest (stop.dot, stop.collate))
      stop.follow
  complete n (g.compared {ts} {fs} {bs} {x} {y} {m} o s t e) fits rest stop =
      let long = lengths ts fs (lexeme.Fixed m ∷ bs) e in
      rw (parts ts fs (lexeme.Fixed m ∷ bs) rest e)
      (test_compared (below n) o (fs ++ lexeme.Fixed m ∷ (bs ++ rest)) (bs ++ rest) rest x y
      (complete n s (omega arith) (lexeme.Fixed m ∷ (bs ++ rest)) (stops_at_op o (bs ++ rest)))
      (complete n t (omega arith) rest (stop.dot, stop.collate)))
  complete n (g.null_tested {ts} {fs} {ms} {x} k s e) fits rest stop =
      let long = lengths ts fs ms e in
      rw (parts ts fs ms rest e) (test_null (below n) k (fs ++ (ms ++ rest)) rest x
      (complete n s (omega arith) (ms ++ rest) (stops_at_null_test k rest)))
  complete n (g.between {ts} {fs} {bs} {cs} {x} {y} {z} neg s t u e) fits rest stop =
      let ms = perhaps_not neg mark.Between in
      let inside : List Lexeme = bs ++ lexeme.Fixed mark.And ∷ cs in
      let long = lengths ts fs (ms ++ inside) e in
      let longer = length-append ms inside in
      let longest = length-append bs (lexeme.Fixed mark.And ∷ cs) in
      let tail : List Lexeme = bs ++ lexeme.Fixed mark.And ∷ (cs ++ rest) in
      let whole : ts ++ rest ≡ fs ++ (ms ++ tail) =
      parts ts fs (ms ++ inside) rest e ∙ ap (λ r. fs ++ r) (append_assoc ms inside rest
      ∙ ap (λ r. ms ++ r) (append_assoc bs (lexeme.Fixed mark.And ∷ cs) rest)) in
      rw whole (test_between (below n) neg (fs ++ (ms ++ tail)) tail (cs ++ rest) rest x y z
      (complete n s (omega arith) (ms ++ tail) (stops_at_between neg tail))
      (complete n t (omega arith) (lexeme.Fixed mark.And ∷ (cs ++ rest))
      (stops_before_and (cs ++ rest)))
      (complete n u (omega arith) rest (stop.dot, stop.collate)))
  complete n (g.like {ts} {fs} {bs} {x} {y} neg s t e) fits rest stop =
      let ms = perhaps_not neg mark.Like in
      let long = lengths ts fs (ms ++ bs) e in
      let longer = length-append ms bs in
      let q : List Lexeme = bs ++ rest in
      let whole : ts ++ rest ≡ fs ++ (ms ++ q) =
      parts ts fs (ms ++ bs) rest e ∙ ap (λ r. fs ++ r) (append_assoc ms bs rest) in
      rw whole (test_like (below n) neg (fs ++ (ms ++ q)) q rest x y
      (complete n s (omega arith) (ms ++ q) (stops_at_like neg q))
      (complete n t (omega arith) rest (stop.dot, stop.collate)))
  complete n (g.in_none {ts} {fs} {x} neg s e) fits rest stop =
      let ms = perhaps_not neg mark.In in
      let inside : List Lexeme = lexeme.Fixed mark.Open ∷ lexeme.Fixed mark.Close ∷ [] in
      let long = lengths ts fs (ms ++ inside) e in
      let whole = parts ts fs (ms ++ inside) rest e
      ∙ ap (λ r. fs ++ r) (append_assoc ms inside rest) in
      let q : List Lexeme = lexeme.Fixed mark.Close ∷ rest in
      rw whole (test_in (below n) neg (fs ++ (ms ++ lexeme.Fixed mark.Open ∷ q)) q rest x []
      (complete n s (omega arith) (ms ++ lexeme.Fixed mark.Open ∷ q)
      (stops_at_in neg (lexeme.Fixed mark.Open ∷ q)))
      (entries_none (below n) rest))
  complete n (g.in_some {ts} {fs} {bs} {x} {xs} neg s t e) fits rest stop =
      let ms = perhaps_not neg mark.In in
      let inside : List Lexeme = lexeme.Fixed mark.Open ∷ (bs ++ lexeme.Fixed mark.Close ∷ []) in
      let long = lengths ts fs (ms ++ inside) e in
      let longer = length-append ms inside in
      let longest = length-append bs (lexeme.Fixed mark.Close ∷ []) in
      let q : List Lexeme = bs ++ lexeme.Fixed mark.Close ∷ rest in
      let whole = parts ts fs (ms ++ inside) rest e ∙ ap (λ r. fs ++ r) (append_assoc ms inside rest
      ∙ ap (λ r. ms ++ lexeme.Fixed mark.Open ∷ r)
      (append_assoc bs (lexeme.Fixed mark.Close ∷ []) rest)) in
      rw whole (test_in (below n) neg (fs ++ (ms ++ lexeme.Fixed mark.Open ∷ q)) q rest x xs
      (complete n s (omega arith) (ms ++ lexeme.Fixed mark.Open ∷ q)
      (stops_at_in neg (lexeme.Fixed mark.Open ∷ q)))
      (entries_some (below n) q rest xs
      (no_close bs (lexeme.Fixed mark.Close ∷ rest) (members_begin t))
      (rw (below_expr n (omega arith))
      (all_complete (n - 1) t (omega arith) (lexeme.Fixed mark.Close ∷ rest)
      (stops_at_close rest) (no_comma rest) stops_at_comma))))
  complete n (g.plus {ts} {x} s) fits rest stop =
      operand_plus (below n) (ts ++ rest) rest x
      (rw (below_operand n (omega arith)) (complete (n - 1) s (omega arith) rest stop))
  complete n (g.simple {ts} {x} s) fits rest stop =
      operand_simple (below n) (ts ++ rest) rest x (no_plus ts rest (begins s))
      (complete n s fits rest stop.0) stop.1
  complete n (g.collated {ts} {fs} {x} c d s e) fits rest stop =
      let behind : List Lexeme = lexeme.Fixed mark.Collate ∷ lexeme.Name c d ∷ [] in
      let long = lengths ts fs behind e in
      rw (parts ts fs behind rest e)
      (operand_collated (below n) (fs ++ (behind ++ rest)) rest x c d
      (no_plus fs (behind ++ rest) (begins s))
      (complete n s (omega arith) (behind ++ rest) (no_dot (lexeme.Name c d ∷ rest))))
  complete n g.null fits rest stop = primary_null (below n) rest
  complete n (g.number k) fits rest stop = primary_number (below n) k rest
  complete n (g.negative k) fits rest stop = primary_negative (below n) k rest
  complete n (g.text bytes) fits rest stop = primary_text (below n) bytes rest
  complete n (g.blob bytes) fits rest stop = primary_blob (below n) bytes rest
  complete n (g.param k) fits rest stop = primary_param (below n) k rest
  complete n (g.column c d) fits rest stop = primary_column (below n) c d rest stop
  complete n (g.qualified t c d e) fits rest stop = primary_qualified (below n) t c d e rest
  complete n (g.enclosed {ts} {es} {x} s e) fits rest stop =
      let long : length ts ≡ suc (length (es ++ lexeme.Fixed mark.Close ∷ [])) = ap length e in
      let longer = length-append es (lexeme.Fixed mark.Close ∷ []) in
      let q : List Lexeme = es ++ lexeme.Fixed mark.Close ∷ rest in
      let whole : ts ++ rest ≡ lexeme.Fixed mark.Open ∷ q =
      ap (λ r. r ++ rest) e
      ∙ ap (λ r. lexeme.Fixed mark.Open ∷ r)
      (append_assoc es (lexeme.Fixed mark.Close ∷ []) rest) in
      rw whole (primary_enclosed (below n) q rest x
      (rw (below_expr n (omega arith))
      (complete (n - 1) s (omega arith) (lexeme.Fixed mark.Close ∷ rest)
      (stops_at_close rest))))

  -- a list of members, read to its end
  all_complete : (n : ℕ) {l : Level} {m : Mark} {ts : List Lexeme} {xs : List Tree}
      → Members l m ts xs → length ts ≤ n → (rest : List Lexeme) → Stops l rest
      → after m rest ≡ None → ((q : List Lexeme) → Stops l (lexeme.Fixed m ∷ q))
      → list_at (reader l (below n)) (after m) (reader l (below n)) (ts ++ rest) ≡ Some (xs, rest)
  all_complete n {l} {m} (g.last {ts = ts} {x = x} s) fits rest stop none apart =
      let p = reader l (below n) in
      list_last (after m) p p (ts ++ rest) rest x (complete n s fits rest stop) none
  all_complete n {l} {m} (g.more {ts = ts} {fs = fs} {bs = bs} {x = x} {xs = xs} s t e) fits rest
      stop none apart =
      let p = reader l (below n) in
      let q : List Lexeme = bs ++ rest in
      let long = lengths ts fs (lexeme.Fixed m ∷ bs) e in
      let more = length-append bs rest in
      rw (parts ts fs (lexeme.Fixed m ∷ bs) rest e)
      (list_more (after m) p p (fs ++ lexeme.Fixed m ∷ q) (lexeme.Fixed m ∷ q) q rest x xs
      (length q)
      (complete n s (omega arith) (lexeme.Fixed m ∷ q) (apart q)) (after-same m q) refl
      (rest_complete n (length q) t (omega arith) (omega arith) rest stop none apart))

  rest_complete : (n k : ℕ) {l : Level} {m : Mark} {ts : List Lexeme} {xs : List Tree}
      → Members l m ts xs → length ts ≤ n → length ts ≤ k → (rest : List Lexeme) → Stops l rest
      → after m rest ≡ None → ((q : List Lexeme) → Stops l (lexeme.Fixed m ∷ q))
      → members_at (after m) (reader l (below n)) (reader l (below n)) k (ts ++ rest)
      ≡ Some (xs, rest)
  rest_complete n k {l} {m} (g.last {ts = ts} {x = x} s) fits few rest stop none apart =
      let p = reader l (below n) in
      from_last (after m) p p k (ts ++ rest) rest x (complete n s fits rest stop) none
  rest_complete n k {l} {m} (g.more {ts = ts} {fs = fs} {bs = bs} {x = x} {xs = xs} s t e) fits few
      rest stop none apart =
      let p = reader l (below n) in
      let q : List Lexeme = bs ++ rest in
      let long = lengths ts fs (lexeme.Fixed m ∷ bs) e in
      let one : k ≡ suc (k - 1) = omega arith in
      rw (parts ts fs (lexeme.Fixed m ∷ bs) rest e, one)
      (from_more (after m) p p (k - 1) (fs ++ lexeme.Fixed m ∷ q) (lexeme.Fixed m ∷ q) q rest x
      xs
      (complete n s (omega arith) (lexeme.Fixed m ∷ q) (apart q)) (after-same m q)
      (rest_complete n (k - 1) t (omega arith) (omega arith) rest stop none apart))

-- what is spelled is read
pub expressions_complete : (n : ℕ) {ts : List Lexeme} {x : Tree} → Spells g.expr ts x
    → length ts ≤ n →
    (rest : List Lexeme) → Stops g.expr rest → expr_at (below n) (ts ++ rest) ≡ Some (x, rest)
expressions_complete n s fits rest stop = complete n s fits rest stop
