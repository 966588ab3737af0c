-- Runs whose lexemes are all of the grammar and whose numbers have values: each run that the
-- grammar spells.
use Rattle.std.proofs.Common.{◌≡◌, ℕ, Bool, true, false, ◌&&◌, is_some, Option, List, [], ◌∷◌, ◌++◌}
use Rattle.std.proofs.Common.{refl, ap, sym, ◌∙◌, subst, append_assoc}
use Rattle.std.proofs.lemmas.List.{append-nil}
use Rattle.sql_meaning.specs.Values.{Value}
use Rattle.sql_tree.specs.Trees.{Tree}
use Rattle.sql_tree.specs.declared.expression.Op.{Op}
use Rattle.sql_tree.specs.Statements.{SourceTree, ItemTree, KeyTree, SetTree, StatementTree}
use Rattle.sql_tree.specs.declared.statement.Cut.{Cut}
use Rattle.sql_read.specs.declared.lexeme.Mark.{Mark}
use Rattle.sql_read.specs.declared.lexeme.Mark.TheVariants as mark
use Rattle.sql_read.specs.Lexemes.{Lexeme}
use Rattle.sql_read.specs.Lexemes as lexeme
use Rattle.sql_read.specs.Leaves.{signed}
use Rattle.sql_read.specs.Limits.{Cuts}
use Rattle.sql_parse.specs.Grammar.{Level, Spells, Members, IsOp, IsNullTest, IsNumber, perhaps_not}
use Rattle.sql_parse.specs.Grammar as g
use Rattle.sql_parse.specs.Statements.{Listed, Condition, Label, Alias, Result, Table, Joined, Join}
use Rattle.sql_parse.specs.Statements.{Joins, Sources, Directed, SortKey, SortKeys, Count, Limits}
use Rattle.sql_parse.specs.Statements.{Setting, PerhapsAll, IsSpelled}
use Rattle.sql_parse.specs.Statements as s

-- whether a lexeme is of the grammar, and has a value if it is a number, behind `-` or not
abbrev pub is_readable : Bool → Lexeme → Bool
is_readable negative (lexeme.Fixed m) = true
is_readable negative (lexeme.Name bytes direction) = true
is_readable negative (lexeme.Text bytes) = true
is_readable negative (lexeme.Blob bytes) = true
is_readable negative (lexeme.Int n) = is_some (signed negative n)
is_readable negative (lexeme.Dec units) = is_some (signed negative units)
is_readable negative (lexeme.Param number) = true
is_readable negative lexeme.Other = false

abbrev pub is_minus : Lexeme → Bool
is_minus (lexeme.Fixed mark.Minus) = true
is_minus _ = false

-- the same of each lexeme of a run; the flag says whether `-` stands directly before the first
abbrev pub are_readable : Bool → List Lexeme → Bool
are_readable negative [] = true
are_readable negative (t ∷ ts) = is_readable negative t && are_readable (is_minus t) ts

-- A readable run that doesn't end with `-`: what stands behind it decides.
record Passes (ts : List Lexeme) : Type 0 where
  passed : (rest : List Lexeme) → are_readable false (ts ++ rest) ≡ are_readable false rest

nothing : Passes []
nothing = record { passed = λ rest. refl }

beside : {fs bs : List Lexeme} → Passes fs → Passes bs → Passes (fs ++ bs)
beside {fs} {bs} a b = record {
  passed = λ rest. ap (are_readable false) (append_assoc fs bs rest) ∙ a.passed (bs ++ rest)
      ∙ b.passed rest;
}

along : {ts qs : List Lexeme} → ts ≡ qs → Passes qs → Passes ts
along e q = subst Passes (sym e) q

-- one more lexeme in front
front :
    (t : Lexeme) {ts : List Lexeme} → is_readable false t ≡ true → is_minus t ≡ false → Passes ts
    → Passes (t ∷ ts)
front t r m h = record { passed = λ rest. rw (r, m) (h.passed rest) }

alone : (t : Lexeme) → is_readable false t ≡ true → is_minus t ≡ false → Passes (t ∷ [])
alone t r m = front t r m nothing

number : {t : Lexeme} {v : Value} → IsNumber false t v → Passes (t ∷ [])
number (g.int e) = record { passed = λ rest. rw e refl }
number (g.dec e) = record { passed = λ rest. rw e refl }

negative_number : {t : Lexeme} {v : Value} → IsNumber true t v
    → Passes (lexeme.Fixed mark.Minus ∷ t ∷ [])
negative_number (g.int e) = record { passed = λ rest. rw e refl }
negative_number (g.dec e) = record { passed = λ rest. rw e refl }

-- Expressions.

no_minus : {m : Mark} {o : Op} → IsOp m o → is_minus (lexeme.Fixed m) ≡ false
no_minus g.eq = refl
no_minus _ = refl

null_test : {neg : Bool} {ms : List Lexeme} → IsNullTest neg ms → Passes ms
null_test g.is_null = front _ refl refl (alone _ refl refl)
null_test g.isnull = alone _ refl refl
null_test g.is_not_null = front _ refl refl (front _ refl refl (alone _ refl refl))
null_test g.notnull = alone _ refl refl
null_test g.not_null = front _ refl refl (alone _ refl refl)

word : (neg : Bool) (m : Mark) → is_minus (lexeme.Fixed m) ≡ false → Passes (perhaps_not neg m)
word false m b = alone (lexeme.Fixed m) refl b
word true m b = front _ refl refl (alone (lexeme.Fixed m) refl b)

enclosed : {es : List Lexeme} → Passes es
    → Passes (lexeme.Fixed mark.Open ∷ (es ++ lexeme.Fixed mark.Close ∷ []))
enclosed h = front _ refl refl (beside h (alone _ refl refl))

mutual
  expression : {l : Level} {ts : List Lexeme} {x : Tree} → Spells l ts x → Passes ts
  expression (g.any_of ms) = members ms refl
  expression (g.all_of ms) = members ms refl
  expression (g.negated x) = front _ refl refl (expression x)
  expression (g.tested x) = expression x
  expression (g.bare x) = expression x
  expression (g.compared {m = m} o x y e) =
      along e (beside (expression x) (front (lexeme.Fixed m) refl (no_minus o) (expression y)))
  expression (g.null_tested n x e) = along e (beside (expression x) (null_test n))
  expression (g.between neg x y z e) =
      along e (beside (expression x) (beside (word neg mark.Between refl)
      (beside (expression y) (front _ refl refl (expression z)))))
  expression (g.like neg x y e) =
      along e (beside (expression x) (beside (word neg mark.Like refl) (expression y)))
  expression (g.in_none neg x e) =
      along e (beside (expression x) (beside (word neg mark.In refl) (enclosed nothing)))
  expression (g.in_some neg x xs e) =
      along e (beside (expression x) (beside (word neg mark.In refl) (enclosed (members xs refl))))
  expression (g.plus x) = front _ refl refl (expression x)
  expression (g.simple x) = expression x
  expression (g.collated c d x e) =
      along e (beside (expression x) (front _ refl refl (alone _ refl refl)))
  expression g.null = alone _ refl refl
  expression (g.number n) = number n
  expression (g.negative n) = negative_number n
  expression (g.text bytes) = alone _ refl refl
  expression (g.blob bytes) = alone _ refl refl
  expression (g.param n) = alone _ refl refl
  expression (g.column c d) = alone _ refl refl
  expression (g.qualified t c d e) = front _ refl refl (front _ refl refl (alone _ refl refl))
  expression (g.enclosed x e) = along e (enclosed (expression x))

  members :
      {l : Level} {m : Mark} {ts : List Lexeme} {xs : List Tree} → Members l m ts xs
      → is_minus (lexeme.Fixed m) ≡ false → Passes ts
  members (g.last x) b = expression x
  members {m = m} (g.more x xs e) b =
      along e (beside (expression x) (front (lexeme.Fixed m) refl b (members xs b)))

-- The parts of statements.

listed :
    {A : Type 0} (one : List Lexeme → A → Type 0)
    → ((ts : List Lexeme) (x : A) → one ts x → Passes ts)
    → {ts : List Lexeme} {xs : List A} → Listed one ts xs → Passes ts
listed one passes (s.last {ts = ts} {x = x} r) = passes ts x r
listed one passes (s.more {fs = fs} {x = x} r later e) =
    along e (beside (passes fs x r) (front _ refl refl (listed one passes later)))

condition :
    {m : Mark} {ts : List Lexeme} {filter : Option Tree} → is_minus (lexeme.Fixed m) ≡ false
    → Condition m ts filter → Passes ts
condition b s.absent = nothing
condition b (s.present {m = m} x) = front (lexeme.Fixed m) refl b (expression x)

label : {texts : Bool} {t : Lexeme} {bytes : List ℕ} → Label texts t bytes → Passes (t ∷ [])
label (s.named bytes d) = alone _ refl refl
label (s.text bytes) = alone _ refl refl

alias : {texts : Bool} {ts : List Lexeme} {a : Option (List ℕ)} → Alias texts ts a → Passes ts
alias s.none = nothing
alias (s.bare l) = label l
alias (s.behind_as l) = front _ refl refl (label l)

result : (ts : List Lexeme) (item : ItemTree) → Result ts item → Passes ts
result _ _ s.star = alone _ refl refl
result _ _ (s.table_star t d) = front _ refl refl (front _ refl refl (alone _ refl refl))
result _ _ (s.value x a e) = along e (beside (expression x) (alias a))

table : {ts : List Lexeme} {source : SourceTree} → Table ts source → Passes ts
table (s.table t d a) = front _ refl refl (alias a)

joined : {ts : List Lexeme} {source : SourceTree} → Joined ts source → Passes ts
joined (s.joined t on e) = along e (front _ refl refl (beside (table t) (condition refl on)))

join : {ts : List Lexeme} {source : SourceTree} → Join ts source → Passes ts
join (s.comma t) = front _ refl refl (table t)
join (s.plain j) = joined j
join (s.inner j) = front _ refl refl (joined j)
join (s.cross j) = front _ refl refl (joined j)
join (s.left j) = front _ refl refl (joined j)
join (s.left_outer j) = front _ refl refl (front _ refl refl (joined j))

joins : {ts : List Lexeme} {all : List SourceTree} → Joins ts all → Passes ts
joins s.none = nothing
joins (s.more j js e) = along e (beside (join j) (joins js))

sources : {ts : List Lexeme} {all : List SourceTree} → Sources ts all → Passes ts
sources (s.sources t js e) = along e (beside (table t) (joins js))

directed : {ts : List Lexeme} {falls : Bool} → Directed ts falls → Passes ts
directed s.none = nothing
directed (s.asc bytes) = alone _ refl refl
directed (s.desc bytes) = alone _ refl refl

sort_key : (ts : List Lexeme) (key : KeyTree) → SortKey ts key → Passes ts
sort_key _ _ (s.key x d e) = along e (beside (expression x) (directed d))

sort_keys : {ts : List Lexeme} {keys : List KeyTree} → SortKeys ts keys → Passes ts
sort_keys s.unordered = nothing
sort_keys (s.ordered l) = front _ refl refl (front _ refl refl (listed SortKey sort_key l))

count : {ts : List Lexeme} {cut : Cut} → Count ts cut → Passes ts
count (s.count e) = number (g.int e)
count (s.negative e) = negative_number (g.int e)
count (s.param n) = alone _ refl refl

limits : {ts : List Lexeme} {cuts : Cuts} → Limits ts cuts → Passes ts
limits s.none = nothing
limits (s.limit c) = front _ refl refl (count c)
limits (s.limit_offset c d e) =
    along e (front _ refl refl (beside (count c) (front _ refl refl (count d))))
limits (s.offset_limit c d e) =
    along e (front _ refl refl (beside (count c) (front _ refl refl (count d))))

setting : (ts : List Lexeme) (set : SetTree) → Setting ts set → Passes ts
setting _ _ (s.set c d x) = front _ refl refl (front _ refl refl (expression x))

perhaps_all : {ts : List Lexeme} → PerhapsAll ts → Passes ts
perhaps_all s.none = nothing
perhaps_all s.all = alone _ refl refl

statement : {ts : List Lexeme} {tree : StatementTree} → IsSpelled ts tree → Passes ts
statement (s.select q i t f o c e) =
    along e (front _ refl refl
    (beside (perhaps_all q) (beside (listed Result result i) (front _ refl refl
    (beside (sources t) (beside (condition refl f) (beside (sort_keys o) (limits c))))))))
statement (s.update t u f e) =
    along e (front _ refl refl (beside (table t) (front _ refl refl
    (beside (listed Setting setting u) (condition refl f)))))
statement (s.delete t f e) =
    along e (front _ refl refl (front _ refl refl (beside (table t) (condition refl f))))

-- a run that the grammar spells is readable
pub spelled_readable : {ts : List Lexeme} {tree : StatementTree} → IsSpelled ts tree
    → are_readable false ts ≡ true
spelled_readable {ts} spelled =
    ap (are_readable false) (sym (append-nil ts)) ∙ (statement spelled).passed []
