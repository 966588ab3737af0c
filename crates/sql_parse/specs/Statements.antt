-- The grammar of statements around their expressions.
use Rattle.std.specs.Prelude.{◌≡◌, ℕ, ℤ, Bool, true, false, Option, None, Some, List, [], ◌∷◌, ◌++◌}
use Rattle.sql_tree.specs.Trees.{Tree}
use Rattle.sql_tree.specs.Statements.{SourceTree, ItemTree, KeyTree, SetTree, StatementTree}
use Rattle.sql_tree.specs.Statements as statement
use Rattle.sql_tree.specs.declared.statement.Cut.{Cut}
use Rattle.sql_tree.specs.declared.statement.Cut.TheVariants as cut
use Rattle.sql_read.specs.declared.lexeme.Direction.{Direction}
use Rattle.sql_read.specs.declared.lexeme.Direction.TheVariants as direction
use Rattle.sql_read.specs.declared.lexeme.Mark.{Mark}
use Rattle.sql_read.specs.declared.lexeme.Mark.TheVariants as mark
use Rattle.sql_read.specs.Lexemes.{Lexeme}
use Rattle.sql_read.specs.Lexemes as lexeme
use Rattle.sql_read.specs.Leaves.{signed}
use Rattle.sql_read.specs.Limits.{Cuts}
use Rattle.sql_read.specs.Parts.{source_named, on_condition, cross_joined, left_joined}
use Rattle.sql_read.specs.Parts.{key_by, set_to}
use Rattle.sql_read.specs.Statements.{select_of, update_of, delete_of}
use Rattle.sql_parse.specs.Grammar.{Spells}
use Rattle.sql_parse.specs.Grammar as level

-- one or more, with a comma between each two
pub data Listed {A : Type 0} (one : List Lexeme → A → Type 0) : List Lexeme → List A → Type 0 where
  last : {ts : List Lexeme} {x : A} → one ts x → Listed one ts (x ∷ [])
  more : {ts fs bs : List Lexeme} {x : A} {xs : List A} → one fs x → Listed one bs xs →
      ts ≡ fs ++ lexeme.Fixed mark.Comma ∷ bs → Listed one ts (x ∷ xs)

-- an expression behind a mark, or nothing
pub data Condition : Mark → List Lexeme → Option Tree → Type 0 where
  absent : {m : Mark} → Condition m [] None
  present : {m : Mark} {ts : List Lexeme} {x : Tree} → Spells level.expr ts x →
      Condition m (lexeme.Fixed m ∷ ts) (Some x)

-- a name, or a text where the flag is true
pub data Label : Bool → Lexeme → List ℕ → Type 0 where
  named : {texts : Bool} (bytes : List ℕ) (d : Option Direction) →
      Label texts (lexeme.Name bytes d) bytes
  text : (bytes : List ℕ) → Label true (lexeme.Text bytes) bytes

pub data Alias : Bool → List Lexeme → Option (List ℕ) → Type 0 where
  none : {texts : Bool} → Alias texts [] None
  bare : {texts : Bool} {t : Lexeme} {bytes : List ℕ} → Label texts t bytes →
      Alias texts (t ∷ []) (Some bytes)
  behind_as : {texts : Bool} {t : Lexeme} {bytes : List ℕ} → Label texts t bytes →
      Alias texts (lexeme.Fixed mark.As ∷ t ∷ []) (Some bytes)

pub data Result : List Lexeme → ItemTree → Type 0 where
  star : Result (lexeme.Fixed mark.Star ∷ []) statement.Star
  table_star : (t : List ℕ) (d : Option Direction) →
      Result (lexeme.Name t d ∷ lexeme.Fixed mark.Dot ∷ lexeme.Fixed mark.Star ∷ [])
      (statement.TableStar t)
  value : {ts fs bs : List Lexeme} {x : Tree} {a : Option (List ℕ)} → Spells level.expr fs x →
      Alias true bs a →
      ts ≡ fs ++ bs → Result ts (statement.Value x a)

pub data Table : List Lexeme → SourceTree → Type 0 where
  table : {ts : List Lexeme} {a : Option (List ℕ)} (t : List ℕ) (d : Option Direction) →
      Alias false ts a → Table (lexeme.Name t d ∷ ts) (source_named t a)

-- JOIN, a source and its condition
pub data Joined : List Lexeme → SourceTree → Type 0 where
  joined : {ts fs bs : List Lexeme} {s : SourceTree} {on : Option Tree} → Table fs s →
      Condition mark.On bs on → ts ≡ lexeme.Fixed mark.Join ∷ (fs ++ bs) →
      Joined ts (on_condition s on)

pub data Join : List Lexeme → SourceTree → Type 0 where
  comma : {ts : List Lexeme} {s : SourceTree} → Table ts s → Join (lexeme.Fixed mark.Comma ∷ ts) s
  plain : {ts : List Lexeme} {s : SourceTree} → Joined ts s → Join ts s
  inner : {ts : List Lexeme} {s : SourceTree} → Joined ts s → Join (lexeme.Fixed mark.Inner ∷ ts) s
  cross : {ts : List Lexeme} {s : SourceTree} → Joined ts s →
      Join (lexeme.Fixed mark.Cross ∷ ts) (cross_joined s)
  left : {ts : List Lexeme} {s : SourceTree} → Joined ts s →
      Join (lexeme.Fixed mark.Left ∷ ts) (left_joined s)
  left_outer : {ts : List Lexeme} {s : SourceTree} → Joined ts s →
      Join (lexeme.Fixed mark.Left ∷ lexeme.Fixed mark.Outer ∷ ts) (left_joined s)

pub data Joins : List Lexeme → List SourceTree → Type 0 where
  none : Joins [] []
  more : {ts fs bs : List Lexeme} {s : SourceTree} {ss : List SourceTree} → Join fs s →
      Joins bs ss →
      ts ≡ fs ++ bs → Joins ts (s ∷ ss)

pub data Sources : List Lexeme → List SourceTree → Type 0 where
  sources : {ts fs bs : List Lexeme} {s : SourceTree} {ss : List SourceTree} → Table fs s →
      Joins bs ss →
      ts ≡ fs ++ bs → Sources ts (s ∷ ss)

-- nothing, ASC or DESC; true is the falling one
pub data Directed : List Lexeme → Bool → Type 0 where
  none : Directed [] false
  asc : (bytes : List ℕ) → Directed (lexeme.Name bytes (Some direction.Asc) ∷ []) false
  desc : (bytes : List ℕ) → Directed (lexeme.Name bytes (Some direction.Desc) ∷ []) true

pub data SortKey : List Lexeme → KeyTree → Type 0 where
  key : {ts fs bs : List Lexeme} {x : Tree} {falls : Bool} → Spells level.expr fs x →
      Directed bs falls →
      ts ≡ fs ++ bs → SortKey ts (key_by x falls)

pub data SortKeys : List Lexeme → List KeyTree → Type 0 where
  unordered : SortKeys [] []
  ordered : {ts : List Lexeme} {ks : List KeyTree} → Listed SortKey ts ks →
      SortKeys (lexeme.Fixed mark.Order ∷ lexeme.Fixed mark.By ∷ ts) ks

pub data Count : List Lexeme → Cut → Type 0 where
  count : {n : ℕ} {z : ℤ} → signed false n ≡ Some z → Count (lexeme.Int n ∷ []) (cut.Count z)
  negative : {n : ℕ} {z : ℤ} → signed true n ≡ Some z →
      Count (lexeme.Fixed mark.Minus ∷ lexeme.Int n ∷ []) (cut.Count z)
  param : (n : ℕ) → Count (lexeme.Param n ∷ []) (cut.Param n)

-- In `LIMIT x, y` the first is the offset.
pub data Limits : List Lexeme → Cuts → Type 0 where
  none : Limits [] (None, None)
  limit : {ts : List Lexeme} {x : Cut} → Count ts x →
      Limits (lexeme.Fixed mark.Limit ∷ ts) (Some x, None)
  limit_offset : {ts fs bs : List Lexeme} {x y : Cut} → Count fs x → Count bs y →
      ts ≡ lexeme.Fixed mark.Limit ∷ (fs ++ lexeme.Fixed mark.Offset ∷ bs) →
      Limits ts (Some x, Some y)
  offset_limit : {ts fs bs : List Lexeme} {x y : Cut} → Count fs x → Count bs y →
      ts ≡ lexeme.Fixed mark.Limit ∷ (fs ++ lexeme.Fixed mark.Comma ∷ bs) →
      Limits ts (Some y, Some x)

pub data Setting : List Lexeme → SetTree → Type 0 where
  set : {ts : List Lexeme} {x : Tree} (c : List ℕ) (d : Option Direction) → Spells level.expr ts x →
      Setting (lexeme.Name c d ∷ lexeme.Fixed mark.Eq ∷ ts) (set_to c x)

-- ALL or nothing
pub data PerhapsAll : List Lexeme → Type 0 where
  none : PerhapsAll []
  all : PerhapsAll (lexeme.Fixed mark.All ∷ [])

-- the lexemes spell the statement
pub data IsSpelled : List Lexeme → StatementTree → Type 0 where
  select : {ts qs is ss fs ks cs : List Lexeme} {results : List ItemTree}
      {sources : List SourceTree} {filter : Option Tree} {keys : List KeyTree} {cuts : Cuts} →
      PerhapsAll qs → Listed Result is results → Sources ss sources →
      Condition mark.Where fs filter → SortKeys ks keys → Limits cs cuts →
      ts ≡ lexeme.Fixed mark.Select ∷ (qs
      ++ (is ++ lexeme.Fixed mark.From ∷ (ss ++ (fs ++ (ks ++ cs))))) →
      IsSpelled ts (statement.Select (select_of results sources filter keys cuts))
  update : {ts ss us fs : List Lexeme} {source : SourceTree} {sets : List SetTree}
      {filter : Option Tree} →
      Table ss source → Listed Setting us sets → Condition mark.Where fs filter →
      ts ≡ lexeme.Fixed mark.Update ∷ (ss ++ lexeme.Fixed mark.Set ∷ (us ++ fs)) →
      IsSpelled ts (statement.Update (update_of source sets filter))
  delete : {ts ss fs : List Lexeme} {source : SourceTree} {filter : Option Tree} →
      Table ss source → Condition mark.Where fs filter →
      ts ≡ lexeme.Fixed mark.Delete ∷ lexeme.Fixed mark.From ∷ (ss ++ fs) →
      IsSpelled ts (statement.Delete (delete_of source filter))
