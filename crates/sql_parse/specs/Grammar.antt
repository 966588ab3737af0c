-- The grammar of expressions by its levels of precedence: which lexemes spell a tree, apart from
-- how they are read. A run may be split at any place.
use Rattle.std.specs.Prelude.{◌≡◌, ℕ, ℤ, Bool, true, false, Option, None, Some, List, [], ◌∷◌, ◌++◌}
use Rattle.sql_meaning.specs.Values.{Value}
use Rattle.sql_meaning.specs.Values as value
use Rattle.sql_tree.specs.Trees.{Tree, trees}
use Rattle.sql_tree.specs.Trees as tree
use Rattle.sql_tree.specs.declared.expression.Op.{Op}
use Rattle.sql_tree.specs.declared.expression.Op.TheVariants as op
use Rattle.sql_read.specs.declared.lexeme.Direction.{Direction}
use Rattle.sql_read.specs.declared.lexeme.Mark.{Mark}
use Rattle.sql_read.specs.declared.lexeme.Mark.TheVariants as mark
use Rattle.sql_read.specs.Lexemes.{Lexeme}
use Rattle.sql_read.specs.Lexemes as lexeme
use Rattle.sql_read.specs.Leaves.{signed}
use Rattle.sql_read.specs.Expressions.{joined}

pub data Level : Type 0 where
  expr : Level
  and : Level
  not : Level
  test : Level
  operand : Level
  primary : Level

-- the mark of a comparison
pub data IsOp : Mark → Op → Type 0 where
  eq : IsOp mark.Eq op.Eq
  eq_eq : IsOp mark.EqEq op.Eq
  ne : IsOp mark.Ne op.Ne
  lt : IsOp mark.Lt op.Lt
  le : IsOp mark.Le op.Le
  gt : IsOp mark.Gt op.Gt
  ge : IsOp mark.Ge op.Ge

-- the marks of a test for NULL; true is the negated one
pub data IsNullTest : Bool → List Lexeme → Type 0 where
  is_null : IsNullTest false (lexeme.Fixed mark.Is ∷ lexeme.Fixed mark.Null ∷ [])
  isnull : IsNullTest false (lexeme.Fixed mark.Isnull ∷ [])
  is_not_null : IsNullTest true (lexeme.Fixed mark.Is ∷ lexeme.Fixed mark.Not ∷ lexeme.Fixed
      mark.Null ∷ [])
  notnull : IsNullTest true (lexeme.Fixed mark.Notnull ∷ [])
  not_null : IsNullTest true (lexeme.Fixed mark.Not ∷ lexeme.Fixed mark.Null ∷ [])

-- the mark, behind NOT where the flag is true
abbrev pub perhaps_not : Bool → Mark → List Lexeme
perhaps_not false m = lexeme.Fixed m ∷ []
perhaps_not true m = lexeme.Fixed mark.Not ∷ lexeme.Fixed m ∷ []

-- the value of a number, where the flag says whether `-` stands before it
pub data IsNumber : Bool → Lexeme → Value → Type 0 where
  int : {negative : Bool} {n : ℕ} {z : ℤ} → signed negative n ≡ Some z →
      IsNumber negative (lexeme.Int n) (value.Int z)
  dec : {negative : Bool} {units : ℕ} {z : ℤ} → signed negative units ≡ Some z →
      IsNumber negative (lexeme.Dec units) (value.Dec z)

mutual
  -- the lexemes spell the tree, as what stands at this level
  pub data Spells : Level → List Lexeme → Tree → Type 0 where
    any_of : {ts : List Lexeme} {xs : List Tree} → Members and mark.Or ts xs →
        Spells expr ts (joined tree.Any xs)
    all_of : {ts : List Lexeme} {xs : List Tree} → Members not mark.And ts xs →
        Spells and ts (joined tree.All xs)
    negated : {ts : List Lexeme} {x : Tree} → Spells not ts x →
        Spells not (lexeme.Fixed mark.Not ∷ ts) (tree.Not x)
    tested : {ts : List Lexeme} {x : Tree} → Spells test ts x → Spells not ts x
    bare : {ts : List Lexeme} {x : Tree} → Spells operand ts x → Spells test ts x
    compared : {ts fs bs : List Lexeme} {x y : Tree} {m : Mark} {o : Op} → IsOp m o →
        Spells operand fs x → Spells operand bs y →
        ts ≡ fs ++ lexeme.Fixed m ∷ bs → Spells test ts (tree.Cmp o x y)
    null_tested : {ts fs ms : List Lexeme} {x : Tree} {neg : Bool} → IsNullTest neg ms →
        Spells operand fs x →
        ts ≡ fs ++ ms → Spells test ts (tree.IsNull neg x)
    between : {ts fs bs cs : List Lexeme} {x y z : Tree} (neg : Bool) →
        Spells operand fs x → Spells operand bs y → Spells operand cs z →
        ts ≡ fs ++ (perhaps_not neg mark.Between ++ (bs ++ lexeme.Fixed mark.And ∷ cs)) →
        Spells test ts (tree.Between neg x y z)
    like : {ts fs bs : List Lexeme} {x y : Tree} (neg : Bool) → Spells operand fs x →
        Spells operand bs y →
        ts ≡ fs ++ (perhaps_not neg mark.Like ++ bs) → Spells test ts (tree.Like neg x y)
    in_none : {ts fs : List Lexeme} {x : Tree} (neg : Bool) → Spells operand fs x →
        ts ≡ fs ++ (perhaps_not neg mark.In
        ++ lexeme.Fixed mark.Open ∷ lexeme.Fixed mark.Close ∷ []) →
        Spells test ts (tree.OneOf neg x tree.end)
    in_some : {ts fs bs : List Lexeme} {x : Tree} {xs : List Tree} (neg : Bool) →
        Spells operand fs x → Members expr mark.Comma bs xs →
        ts ≡ fs ++ (perhaps_not neg mark.In
        ++ lexeme.Fixed mark.Open ∷ (bs ++ lexeme.Fixed mark.Close ∷ [])) →
        Spells test ts (tree.OneOf neg x (trees xs))
    plus : {ts : List Lexeme} {x : Tree} → Spells operand ts x →
        Spells operand (lexeme.Fixed mark.Plus ∷ ts) (tree.Plus x)
    simple : {ts : List Lexeme} {x : Tree} → Spells primary ts x → Spells operand ts x
    collated : {ts fs : List Lexeme} {x : Tree} (c : List ℕ) (d : Option Direction) →
        Spells primary fs x →
        ts ≡ fs ++ lexeme.Fixed mark.Collate ∷ lexeme.Name c d ∷ [] →
        Spells operand ts (tree.Collate x c)
    null : Spells primary (lexeme.Fixed mark.Null ∷ []) (tree.Lit value.Null)
    number : {t : Lexeme} {v : Value} → IsNumber false t v → Spells primary (t ∷ []) (tree.Lit v)
    negative : {t : Lexeme} {v : Value} → IsNumber true t v →
        Spells primary (lexeme.Fixed mark.Minus ∷ t ∷ []) (tree.Lit v)
    text : (bytes : List ℕ) → Spells primary (lexeme.Text bytes ∷ []) (tree.Lit (value.Text bytes))
    blob : (bytes : List ℕ) → Spells primary (lexeme.Blob bytes ∷ []) (tree.Lit (value.Blob bytes))
    param : (n : ℕ) → Spells primary (lexeme.Param n ∷ []) (tree.Param n)
    column : (c : List ℕ) (d : Option Direction) →
        Spells primary (lexeme.Name c d ∷ []) (tree.Name None c)
    qualified : (t c : List ℕ) (d e : Option Direction) →
        Spells primary (lexeme.Name t d ∷ lexeme.Fixed mark.Dot ∷ lexeme.Name c e ∷ [])
        (tree.Name (Some t) c)
    enclosed : {ts es : List Lexeme} {x : Tree} → Spells expr es x →
        ts ≡ lexeme.Fixed mark.Open ∷ (es ++ lexeme.Fixed mark.Close ∷ []) → Spells primary ts x

  -- the lexemes spell the trees, with a mark between each two
  pub data Members : Level → Mark → List Lexeme → List Tree → Type 0 where
    last : {l : Level} {m : Mark} {ts : List Lexeme} {x : Tree} → Spells l ts x →
        Members l m ts (x ∷ [])
    more : {l : Level} {m : Mark} {ts fs bs : List Lexeme} {x : Tree} {xs : List Tree} →
        Spells l fs x → Members l m bs xs →
        ts ≡ fs ++ lexeme.Fixed m ∷ bs → Members l m ts (x ∷ xs)
