-- The scan takes each statement that the grammar spells.
use Rattle.std.proofs.Common.{◌≡◌, ℕ, Bool, Option, List, [], ◌∷◌, ◌++◌, refl, ap, ◌∙◌, subst}
use Rattle.std.proofs.Common.{append_assoc}
use Rattle.std.proofs.lemmas.List.{append-nil}
use Rattle.sql_tree.specs.Trees.{Tree}
use Rattle.sql_tree.specs.Statements.{SourceTree, KeyTree, StatementTree}
use Rattle.sql_tree.specs.declared.statement.Cut.{Cut}
use Rattle.sql_read.specs.declared.lexeme.Mark.{Mark}
use Rattle.sql_read.specs.declared.lexeme.Mark.TheVariants as mark
use Rattle.sql_read.specs.Lexemes.{Lexeme}
use Rattle.sql_read.specs.Lexemes as lexeme
use Rattle.sql_read.specs.Limits.{Cuts}
use Rattle.sql_parse.specs.Statements.{Listed, Condition, Label, Alias, Result, Table, Joined, Join}
use Rattle.sql_parse.specs.Statements.{Joins}
use Rattle.sql_parse.specs.Statements.{Sources, Directed, SortKey, SortKeys, Count, Limits, Setting}
use Rattle.sql_parse.specs.Statements.{PerhapsAll, IsSpelled}
use Rattle.sql_parse.specs.Statements as s
use Rattle.sql_parse.proofs.Complete.{parts}
use Rattle.grammar_laws.proofs.Scan.{Kind, Phase, Takes, Before, mark_class, lexeme_class}
use Rattle.grammar_laws.proofs.Scan.{may_come, phase_behind, stack_behind}
use Rattle.grammar_laws.proofs.Scan as scan
use Rattle.grammar_laws.proofs.Expressions.{Goes, Rest, Start, behind_mark, before_word}
use Rattle.grammar_laws.proofs.Expressions.{expression}

-- Names.

behind_label :
    (k : Kind) {texts : Bool} {t : Lexeme} {bytes : List ℕ} → Label texts t bytes
    → (rest : List Lexeme) → Rest k [] rest → Rest k [] (t ∷ rest)
unfolding lexeme_class may_come phase_behind stack_behind
behind_label k (s.named bytes d) rest h _ scan.named = (refl, h scan.Ended scan.ended)
behind_label k (s.named bytes d) rest h _ scan.ended = (refl, h scan.Ended scan.ended)
behind_label k (s.text bytes) rest h _ scan.named = (refl, h scan.Ended scan.ended)
behind_label k (s.text bytes) rest h _ scan.ended = (refl, h scan.Ended scan.ended)

called :
    (k : Kind) {texts : Bool} {t : Lexeme} {bytes : List ℕ} → Label texts t bytes
    → (rest : List Lexeme) → Rest k [] rest → Goes k scan.Label [] (t ∷ rest)
unfolding lexeme_class may_come phase_behind stack_behind
called k (s.named bytes d) rest h = (refl, h scan.Ended scan.ended)
called k (s.text bytes) rest h = (refl, h scan.Ended scan.ended)

alias :
    (k : Kind) {texts : Bool} {ts : List Lexeme} {a : Option (List ℕ)} → Alias texts ts a
    → (rest : List Lexeme) → Rest k [] rest → Rest k [] (ts ++ rest)
unfolding lexeme_class mark_class may_come phase_behind stack_behind
alias k s.none rest h q b = h q b
alias k (s.bare l) rest h q b = behind_label k l rest h q b
alias k (s.behind_as l) rest h _ scan.named = (refl, called k l rest h)
alias k (s.behind_as l) rest h _ scan.ended = (refl, called k l rest h)

-- Sources.

table :
    (k : Kind) {ts : List Lexeme} {source : SourceTree} → Table ts source
    → (rest : List Lexeme) → Rest k [] rest → Goes k scan.Label [] (ts ++ rest)
unfolding lexeme_class may_come phase_behind stack_behind
table k (s.table t d a) rest h = (refl, alias k a rest h scan.Ended scan.ended)

-- behind a comma
further_table :
    (k : Kind) {ts : List Lexeme} {source : SourceTree} → Table ts source
    → (rest : List Lexeme) → Rest k [] rest → Goes k scan.Fresh [] (ts ++ rest)
unfolding lexeme_class may_come phase_behind stack_behind
further_table k (s.table t d a) rest h = (refl, alias k a rest h scan.Named scan.named)

condition :
    (k : Kind) {m : Mark} {ts : List Lexeme} {filter : Option Tree} → mark_class m ≡ scan.Word
    → Condition m ts filter → (rest : List Lexeme) → Rest k [] rest → Rest k [] (ts ++ rest)
condition k e s.absent rest h = h
condition k e (s.present {m} {ts} x) rest h =
    behind_mark k [] (ts ++ rest) m e (expression x k [] rest h scan.Anew scan.anew)

-- a comma between two
between_two :
    (k : Kind) (rest : List Lexeme) → Goes k scan.Fresh [] rest
    → Rest k [] (lexeme.Fixed mark.Comma ∷ rest)
unfolding lexeme_class mark_class may_come phase_behind stack_behind
between_two k rest h _ scan.named = (refl, h)
between_two k rest h _ scan.ended = (refl, h)

-- JOIN, where a word of joins may stand before it
joined :
    (k : Kind) {ts : List Lexeme} {source : SourceTree} → Joined ts source → (rest : List Lexeme)
    → Rest k [] rest → Rest k [] (ts ++ rest) × Goes k scan.Anew [] (ts ++ rest)
unfolding lexeme_class mark_class may_come phase_behind stack_behind
joined k (s.joined {ts = ts} {fs = fs} {bs = bs} t on e) rest h =
    let tail : List Lexeme = fs ++ (bs ++ rest) in
    let whole : ts ++ rest ≡ lexeme.Fixed mark.Join ∷ tail =
    ap (λ r. r ++ rest) e ∙ ap (λ r. lexeme.Fixed mark.Join ∷ r) (append_assoc fs bs rest) in
    let taken = table k t (bs ++ rest) (condition k refl on rest h) in (
      λ q b. rw whole (behind_join tail taken q b),
      rw whole (refl, taken),
    )
  where
    behind_join : (tail : List Lexeme) → Goes k scan.Label [] tail
        → Rest k [] (lexeme.Fixed mark.Join ∷ tail)
    behind_join tail taken _ scan.named = (refl, taken)
    behind_join tail taken _ scan.ended = (refl, taken)

join :
    (k : Kind) {ts : List Lexeme} {source : SourceTree} → Join ts source → (rest : List Lexeme)
    → Rest k [] rest → Rest k [] (ts ++ rest)
unfolding mark_class
join k (s.comma {ts} t) rest h = between_two k (ts ++ rest) (further_table k t rest h)
join k (s.plain j) rest h = (joined k j rest h).0
join k (s.inner {ts} j) rest h = behind_mark k [] (ts ++ rest) mark.Inner refl (joined k j rest h).1
join k (s.cross {ts} j) rest h = behind_mark k [] (ts ++ rest) mark.Cross refl (joined k j rest h).1
join k (s.left {ts} j) rest h = behind_mark k [] (ts ++ rest) mark.Left refl (joined k j rest h).1
join k (s.left_outer {ts} j) rest h =
    behind_mark k [] (lexeme.Fixed mark.Outer ∷ (ts ++ rest)) mark.Left refl
    (before_word k [] (ts ++ rest) mark.Outer refl (joined k j rest h).1)

joins :
    (k : Kind) {ts : List Lexeme} {sources : List SourceTree} → Joins ts sources
    → (rest : List Lexeme) → Rest k [] rest → Rest k [] (ts ++ rest)
joins k s.none rest h = h
joins k (s.more {ts = ts} {fs = fs} {bs = bs} j js e) rest h =
    λ q b. rw (parts ts fs bs rest e) (join k j (bs ++ rest) (joins k js rest h) q b)

sources :
    (k : Kind) {ts : List Lexeme} {all : List SourceTree} → Sources ts all → (rest : List Lexeme)
    → Rest k [] rest → Goes k scan.Label [] (ts ++ rest)
sources k (s.sources {ts} {fs} {bs} t js e) rest h =
    rw (parts ts fs bs rest e) (table k t (bs ++ rest) (joins k js rest h))

-- Lists.

-- one of a list's members is taken in such phases
abbrev TakesOne : {A : Type 0} → (Phase → Type 0) → Kind → (List Lexeme → A → Type 0) → Type 0
TakesOne {A} P k one =
    (ts : List Lexeme) (x : A) → one ts x → (rest : List Lexeme) → Rest k [] rest
    → (p : Phase) → P p → Goes k p [] (ts ++ rest)

listed :
    {A : Type 0} (P : Phase → Type 0) → P scan.Fresh → (k : Kind) (one : List Lexeme → A → Type 0)
    → TakesOne P k one → {ts : List Lexeme} {xs : List A} → Listed one ts xs
    → (rest : List Lexeme) → Rest k [] rest → (p : Phase) → P p → Goes k p [] (ts ++ rest)
listed P fresh k one takes (s.last {ts = ts} {x = x} r) rest h p b = takes ts x r rest h p b
listed P fresh k one takes (s.more {ts = ts} {fs = fs} {bs = bs} {x = x} r later e) rest h p b =
    rw (parts ts fs (lexeme.Fixed mark.Comma ∷ bs) rest e)
    (takes fs x r (lexeme.Fixed mark.Comma ∷ (bs ++ rest))
    (between_two k (bs ++ rest) (listed P fresh k one takes later rest h scan.Fresh fresh)) p b)

data IsFresh : Phase → Type 0 where
  fresh : IsFresh scan.Fresh

result : (k : Kind) → TakesOne IsFresh k Result
unfolding lexeme_class mark_class may_come phase_behind stack_behind
result k _ _ s.star rest h _ fresh = (refl, h scan.Ended scan.ended)
result k _ _ (s.table_star t d) rest h _ fresh = (refl, (refl, (refl, h scan.Ended scan.ended)))
result k _ _ (s.value {ts} {fs} {bs} x a e) rest h _ fresh =
    rw (parts ts fs bs rest e)
    (expression x k [] (bs ++ rest) (alias k a rest h) scan.Fresh scan.fresh)

directed :
    (k : Kind) {ts : List Lexeme} {falls : Bool} → Directed ts falls → (rest : List Lexeme)
    → Rest k [] rest → Rest k [] (ts ++ rest)
unfolding lexeme_class may_come phase_behind stack_behind
directed k s.none rest h q b = h q b
directed k (s.asc bytes) rest h _ scan.named = (refl, h scan.Ended scan.ended)
directed k (s.asc bytes) rest h _ scan.ended = (refl, h scan.Ended scan.ended)
directed k (s.desc bytes) rest h _ scan.named = (refl, h scan.Ended scan.ended)
directed k (s.desc bytes) rest h _ scan.ended = (refl, h scan.Ended scan.ended)

sort_key : (k : Kind) → TakesOne Before k SortKey
sort_key k _ _ (s.key {ts} {fs} {bs} x d e) rest h p b =
    rw (parts ts fs bs rest e) (expression x k [] (bs ++ rest) (directed k d rest h) p b)

setting : (k : Kind) → TakesOne Before k Setting
unfolding lexeme_class mark_class may_come phase_behind stack_behind
setting k _ _ (s.set {ts} c d x) rest h _ scan.fresh =
    (refl, (refl, expression x k [] rest h scan.Anew scan.anew))
setting k _ _ (s.set {ts} c d x) rest h _ scan.anew =
    (refl, (refl, expression x k [] rest h scan.Anew scan.anew))

-- The ends of a query.

sort_keys :
    {ts : List Lexeme} {keys : List KeyTree} → SortKeys ts keys → (rest : List Lexeme)
    → Rest scan.Query [] rest → Rest scan.Query [] (ts ++ rest)
unfolding lexeme_class mark_class may_come phase_behind stack_behind
sort_keys s.unordered rest h q b = h q b
sort_keys (s.ordered l) rest h _ scan.named = (
  refl,
  (
    refl,
    listed Before scan.fresh scan.Query SortKey
        (sort_key scan.Query) l rest h scan.Anew scan.anew,
  ),
)
sort_keys (s.ordered l) rest h _ scan.ended = (
  refl,
  (
    refl,
    listed Before scan.fresh scan.Query SortKey
        (sort_key scan.Query) l rest h scan.Anew scan.anew,
  ),
)

count :
    {ts : List Lexeme} {cut : Cut} → Count ts cut → (rest : List Lexeme) → Rest scan.Query [] rest
    → Start scan.Query [] (ts ++ rest)
unfolding lexeme_class mark_class may_come phase_behind stack_behind
count (s.count e) rest h _ scan.fresh = (refl, h scan.Ended scan.ended)
count (s.count e) rest h _ scan.anew = (refl, h scan.Ended scan.ended)
count (s.negative e) rest h _ scan.fresh = (refl, (refl, h scan.Ended scan.ended))
count (s.negative e) rest h _ scan.anew = (refl, (refl, h scan.Ended scan.ended))
count (s.param n) rest h _ scan.fresh = (refl, h scan.Ended scan.ended)
count (s.param n) rest h _ scan.anew = (refl, h scan.Ended scan.ended)

behind_limit :
    (rest : List Lexeme) → Start scan.Query [] rest → Rest scan.Query []
    (lexeme.Fixed mark.Limit ∷ rest)
unfolding lexeme_class mark_class may_come phase_behind stack_behind
behind_limit rest h _ scan.named = (refl, h scan.Anew scan.anew)
behind_limit rest h _ scan.ended = (refl, h scan.Anew scan.anew)

limits :
    {ts : List Lexeme} {cuts : Cuts} → Limits ts cuts → (rest : List Lexeme)
    → Rest scan.Query [] rest → Rest scan.Query [] (ts ++ rest)
unfolding mark_class
limits s.none rest h = h
limits (s.limit {ts} c) rest h = behind_limit (ts ++ rest) (count c rest h)
limits (s.limit_offset {ts} {fs} {bs} c d e) rest h =
    let tail : List Lexeme = lexeme.Fixed mark.Offset ∷ (bs ++ rest) in
    let whole : ts ++ rest ≡ lexeme.Fixed mark.Limit ∷ (fs ++ tail) =
    ap (λ r. r ++ rest) e
    ∙ ap (λ r. lexeme.Fixed mark.Limit ∷ r)
    (append_assoc fs (lexeme.Fixed mark.Offset ∷ bs) rest) in
    λ q b. rw whole (behind_limit (fs ++ tail) (count c tail
    (behind_mark scan.Query [] (bs ++ rest) mark.Offset refl
    (count d rest h scan.Anew scan.anew))) q b)
limits (s.offset_limit {ts} {fs} {bs} c d e) rest h =
    let tail : List Lexeme = lexeme.Fixed mark.Comma ∷ (bs ++ rest) in
    let whole : ts ++ rest ≡ lexeme.Fixed mark.Limit ∷ (fs ++ tail) =
    ap (λ r. r ++ rest) e
    ∙ ap (λ r. lexeme.Fixed mark.Limit ∷ r) (append_assoc fs (lexeme.Fixed mark.Comma ∷ bs) rest) in
    λ q b. rw whole (behind_limit (fs ++ tail) (count c tail
    (between_two scan.Query (bs ++ rest) (count d rest h scan.Fresh scan.fresh))) q b)

-- Whole statements.

perhaps_all :
    {ts : List Lexeme} → PerhapsAll ts → (rest : List Lexeme) → Goes scan.Query scan.Fresh [] rest
    → Goes scan.Query scan.Fresh [] (ts ++ rest)
unfolding lexeme_class mark_class may_come phase_behind stack_behind
perhaps_all s.none rest h = h
perhaps_all s.all rest h = (refl, h)

behind_from :
    (rest : List Lexeme) → Goes scan.Query scan.Label [] rest
    → Rest scan.Query [] (lexeme.Fixed mark.From ∷ rest)
unfolding lexeme_class mark_class may_come phase_behind stack_behind
behind_from rest h _ scan.named = (refl, h)
behind_from rest h _ scan.ended = (refl, h)

at_select :
    (rest : List Lexeme) → Goes scan.Query scan.Fresh [] rest
    → Goes scan.Query scan.Begin [] (lexeme.Fixed mark.Select ∷ rest)
unfolding lexeme_class mark_class may_come phase_behind stack_behind
at_select rest h = (refl, h)

at_update :
    (rest : List Lexeme) → Goes scan.Change scan.Label [] rest
    → Goes scan.Change scan.Begin [] (lexeme.Fixed mark.Update ∷ rest)
unfolding lexeme_class mark_class may_come phase_behind stack_behind
at_update rest h = (refl, h)

at_delete :
    (rest : List Lexeme) → Goes scan.Removal scan.Label [] rest
    → Goes scan.Removal scan.Begin [] (lexeme.Fixed mark.Delete ∷ lexeme.Fixed mark.From ∷ rest)
unfolding lexeme_class mark_class may_come phase_behind stack_behind
at_delete rest h = (refl, (refl, h))

-- what ends a statement
at_end :
    (k : Kind) (ts : List Lexeme) → ((rest : List Lexeme) → Rest k [] rest → Rest k [] (ts ++ rest))
    → Rest k [] ts
at_end k ts taken = subst (λ r. Rest k [] r) (append-nil ts) (taken [] (λ q b. b))

pub statement :
    {ts : List Lexeme} {tree : StatementTree} → IsSpelled ts tree
    → (k : Kind) × Takes lexeme_class k scan.Begin [] ts
unfolding mark_class
statement (s.select {qs = qs} {is = is} {ss = ss} {fs = fs} {ks = ks} {cs = cs} q i t f o c e) =
    let last = at_end scan.Query cs (limits c) in
    let tail = behind_from (ss ++ (fs ++ (ks ++ cs)))
    (sources scan.Query t (fs ++ (ks ++ cs))
    (condition scan.Query refl f (ks ++ cs) (sort_keys o cs last))) in
    let results = listed IsFresh fresh scan.Query Result (result scan.Query) i
    (lexeme.Fixed mark.From ∷ (ss ++ (fs ++ (ks ++ cs)))) tail scan.Fresh fresh in
    (scan.Query, rw e (at_select _ (perhaps_all q _ results)))
statement (s.update {ss = ss} {us = us} {fs = fs} t u f e) =
    let last = at_end scan.Change fs (condition scan.Change refl f) in
    let sets = listed Before scan.fresh scan.Change Setting
    (setting scan.Change) u fs last scan.Anew scan.anew in (
      scan.Change,
      rw e (at_update _ (table scan.Change t (lexeme.Fixed mark.Set ∷ (us ++ fs))
          (behind_mark scan.Change [] (us ++ fs) mark.Set refl sets))),
    )
statement (s.delete {ss = ss} {fs = fs} t f e) =
    let last = at_end scan.Removal fs (condition scan.Removal refl f) in
    (scan.Removal, rw e (at_delete _ (table scan.Removal t fs last)))
