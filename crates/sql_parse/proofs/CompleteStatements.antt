-- What is spelled as a statement is read.
use Rattle.std.proofs.Common.{◌≡◌, ℕ, suc, ◌-◌, ◌≤◌, Bool, true, false, Option, None, Some, List}
use Rattle.std.proofs.Common.{[], ◌∷◌, ◌++◌, length, refl, ap, sym, ◌∙◌, append_assoc, arith}
use Rattle.std.proofs.Common.{length-append}
use Rattle.std.proofs.lemmas.List.{append-nil}
use Rattle.sql_meaning.specs.Values.{Value}
use Rattle.sql_tree.specs.Trees.{Tree}
use Rattle.sql_tree.specs.Statements.{SourceTree, ItemTree, KeyTree, SetTree, StatementTree}
use Rattle.sql_tree.specs.Statements as statement
use Rattle.sql_tree.specs.declared.statement.Cut.{Cut}
use Rattle.sql_read.specs.declared.lexeme.Direction.{Direction}
use Rattle.sql_read.specs.declared.lexeme.Direction.TheVariants as direction
use Rattle.sql_read.specs.declared.lexeme.Mark.{Mark}
use Rattle.sql_read.specs.declared.lexeme.Mark.TheVariants as mark
use Rattle.sql_read.specs.Lexemes.{Lexeme}
use Rattle.sql_read.specs.Lexemes as lexeme
use Rattle.sql_read.specs.Reading.{◌>>=◌, after, past, same_mark, name_at, Read, Reader, more_at}
use Rattle.sql_read.specs.Reading.{list_at}
use Rattle.sql_read.specs.Expressions.{below, expr_at, follow_at, op_at, null_test_at, word_test_at}
use Rattle.sql_read.specs.Parts.{optional_at, label_at, alias_at, table_star_at}
use Rattle.sql_read.specs.Parts.{value_result_at, result_at, source_at, joined_source_at, join_at}
use Rattle.sql_read.specs.Parts.{join_begins, cross_joined, left_joined, direction_at, key_at}
use Rattle.sql_read.specs.Parts.{keys_at, set_at}
use Rattle.sql_read.specs.Limits.{Cuts, count_at, param_at, cut_at, second_cut_at, limits_at}
use Rattle.sql_read.specs.Statements.{results_at, sources_at, sets_at, from_at, select_at}
use Rattle.sql_read.specs.Statements.{update_at, delete_at, statement_at}
use Rattle.sql_parse.specs.Grammar.{Level, Spells, Members, IsNumber, perhaps_not}
use Rattle.sql_parse.specs.Grammar as g
use Rattle.sql_parse.specs.Statements.{Listed, Condition, Label, Alias, Result, Table, Joined, Join}
use Rattle.sql_parse.specs.Statements.{Joins, Sources, Directed, SortKey, SortKeys, Count, Limits}
use Rattle.sql_parse.specs.Statements.{Setting, PerhapsAll, IsSpelled}
use Rattle.sql_parse.specs.Statements as s
use Rattle.sql_read.proofs.Members.{more_at-stop}
use Rattle.sql_parse.proofs.Steps.{after-same}
use Rattle.sql_parse.proofs.Complete.{Stops, expressions_complete, no_mark, no_dot, stops_at_op}
use Rattle.sql_parse.proofs.Complete.{stops_at_null_test, stops_at_between, stops_at_like}
use Rattle.sql_parse.proofs.Complete.{stops_at_in, parts}
use Rattle.sql_parse.proofs.Complete.{lengths, members_at, from_last, from_more, list_last}
use Rattle.sql_parse.proofs.Complete.{list_more, more_at-step}

-- No expression begins with a name and `.*`.

number_no_star : {neg : Bool} {t : Lexeme} {v : Value} → IsNumber neg t v → (rest : List Lexeme)
    → table_star_at (t ∷ rest) ≡ None
unfolding table_star_at name_at
number_no_star (g.int e) rest = refl
number_no_star (g.dec e) rest = refl

dot_comma : (q : List Lexeme) → after mark.Dot (lexeme.Fixed mark.Comma ∷ q) ≡ None
unfolding after same_mark
dot_comma q = refl

dot_and : (q : List Lexeme) → after mark.Dot (lexeme.Fixed mark.And ∷ q) ≡ None
unfolding after same_mark
dot_and q = refl

dot_or : (q : List Lexeme) → after mark.Dot (lexeme.Fixed mark.Or ∷ q) ≡ None
unfolding after same_mark
dot_or q = refl

column_no_star : (c : List ℕ) (d : Option Direction) (rest : List Lexeme)
    → after mark.Dot rest ≡ None → table_star_at (lexeme.Name c d ∷ rest) ≡ None
unfolding table_star_at name_at
column_no_star c d rest dot = rw dot refl

mutual
  unfolding table_star_at name_at after same_mark

  no_star : {l : Level} {ts : List Lexeme} {x : Tree} → Spells l ts x → (rest : List Lexeme)
      → after mark.Dot rest ≡ None → table_star_at (ts ++ rest) ≡ None
  no_star (g.any_of k) rest dot = members_no_star k dot_or rest dot
  no_star (g.all_of k) rest dot = members_no_star k dot_and rest dot
  no_star (g.negated k) rest dot = refl
  no_star (g.tested k) rest dot = no_star k rest dot
  no_star (g.bare k) rest dot = no_star k rest dot
  no_star (g.compared {ts} {fs} {bs} {m = m} o k l e) rest dot =
      rw (parts ts fs (lexeme.Fixed m ∷ bs) rest e)
      (no_star k (lexeme.Fixed m ∷ (bs ++ rest)) (stops_at_op o (bs ++ rest)).0)
  no_star (g.null_tested {ts} {fs} {ms} o k e) rest dot =
      rw (parts ts fs ms rest e) (no_star k (ms ++ rest) (stops_at_null_test o rest).0)
  no_star (g.between {ts} {fs} {bs} {cs} neg k l h e) rest dot =
      let ms = perhaps_not neg mark.Between in
      let q : List Lexeme = bs ++ lexeme.Fixed mark.And ∷ cs in
      rw (parts ts fs (ms ++ q) rest e, append_assoc ms q rest)
      (no_star k (ms ++ (q ++ rest)) (stops_at_between neg (q ++ rest)).0)
  no_star (g.like {ts} {fs} {bs} neg k l e) rest dot =
      let ms = perhaps_not neg mark.Like in
      rw (parts ts fs (ms ++ bs) rest e, append_assoc ms bs rest)
      (no_star k (ms ++ (bs ++ rest)) (stops_at_like neg (bs ++ rest)).0)
  no_star (g.in_none {ts} {fs} neg k e) rest dot =
      let ms = perhaps_not neg mark.In in
      let q : List Lexeme = lexeme.Fixed mark.Open ∷ lexeme.Fixed mark.Close ∷ [] in
      rw (parts ts fs (ms ++ q) rest e, append_assoc ms q rest)
      (no_star k (ms ++ (q ++ rest)) (stops_at_in neg (q ++ rest)).0)
  no_star (g.in_some {ts} {fs} {bs} neg k l e) rest dot =
      let ms = perhaps_not neg mark.In in
      let q : List Lexeme = lexeme.Fixed mark.Open ∷ (bs ++ lexeme.Fixed mark.Close ∷ []) in
      rw (parts ts fs (ms ++ q) rest e, append_assoc ms q rest)
      (no_star k (ms ++ (q ++ rest)) (stops_at_in neg (q ++ rest)).0)
  no_star (g.plus k) rest dot = refl
  no_star (g.simple k) rest dot = no_star k rest dot
  no_star (g.collated {ts} {fs} c d k e) rest dot =
      let q : List Lexeme = lexeme.Fixed mark.Collate ∷ lexeme.Name c d ∷ [] in
      rw (parts ts fs q rest e) (no_star k (q ++ rest) (no_dot (lexeme.Name c d ∷ rest)))
  no_star g.null rest dot = refl
  no_star (g.number k) rest dot = number_no_star k rest
  no_star (g.negative k) rest dot = refl
  no_star (g.text bytes) rest dot = refl
  no_star (g.blob bytes) rest dot = refl
  no_star (g.param n) rest dot = refl
  no_star (g.column c d) rest dot = column_no_star c d rest dot
  no_star (g.qualified t c d e) rest dot = refl
  no_star (g.enclosed {ts} {es} k e) rest dot = rw e refl

  members_no_star : {l : Level} {m : Mark} {ts : List Lexeme} {xs : List Tree} → Members l m ts xs
      → ((q : List Lexeme) → after mark.Dot (lexeme.Fixed m ∷ q) ≡ None) → (rest : List Lexeme)
      → after mark.Dot rest ≡ None → table_star_at (ts ++ rest) ≡ None
  members_no_star (g.last k) apart rest dot = no_star k rest dot
  members_no_star {l} {m} (g.more {ts = ts} {fs = fs} {bs = bs} k t e) apart rest dot =
      rw (parts ts fs (lexeme.Fixed m ∷ bs) rest e)
      (no_star k (lexeme.Fixed m ∷ (bs ++ rest)) (apart (bs ++ rest)))

-- What may follow a part.

-- nothing that goes on with an expression, an alias, a source or a key
record Closed (ts : List Lexeme) : Type 0 where
  stops : Stops g.expr ts
  as_mark : after mark.As ts ≡ None
  label : (texts : Bool) → label_at texts ts ≡ None
  on : after mark.On ts ≡ None
  join : join_begins ts ≡ None
  comma : after mark.Comma ts ≡ None
  direction : direction_at ts ≡ Some (false, ts)

-- the marks of the next part of a statement
data Next : Mark → Type 0 where
  from_mark : Next mark.From
  where_mark : Next mark.Where
  order_mark : Next mark.Order
  limit_mark : Next mark.Limit
  set_mark : Next mark.Set

closed_at : {m : Mark} → Next m → (q : List Lexeme) → Closed (lexeme.Fixed m ∷ q)
unfolding after same_mark follow_at op_at null_test_at word_test_at label_at join_begins
    direction_at
closed_at from_mark q =
    record {
      stops = (record { dot = refl; collate = refl; follow = refl }, refl, refl);
      as_mark = refl;
      label = λ texts. refl;
      on = refl;
      join = refl;
      comma = refl;
      direction = refl;
    }
closed_at _ q =
    record {
      stops = (record { dot = refl; collate = refl; follow = refl }, refl, refl);
      as_mark = refl;
      label = λ texts. refl;
      on = refl;
      join = refl;
      comma = refl;
      direction = refl;
    }

closed_end : Closed []
unfolding after same_mark follow_at op_at null_test_at word_test_at label_at join_begins
    direction_at
closed_end = record {
  stops = (record { dot = refl; collate = refl; follow = refl }, refl, refl);
  as_mark = refl;
  label = λ texts. refl;
  on = refl;
  join = refl;
  comma = refl;
  direction = refl;
}

where_order : (q : List Lexeme) → after mark.Where (lexeme.Fixed mark.Order ∷ q) ≡ None
unfolding after same_mark
where_order q = refl

where_limit : (q : List Lexeme) → after mark.Where (lexeme.Fixed mark.Limit ∷ q) ≡ None
unfolding after same_mark
where_limit q = refl

order_limit : (q : List Lexeme) → after mark.Order (lexeme.Fixed mark.Limit ∷ q) ≡ None
unfolding after same_mark
order_limit q = refl

where_end : after mark.Where [] ≡ None
unfolding after
where_end = refl

order_end : after mark.Order [] ≡ None
unfolding after
order_end = refl

limits_closed : {cs : List Lexeme} {c : Cuts} → Limits cs c
    → Closed cs × (after mark.Where cs ≡ None) × (after mark.Order cs ≡ None)
limits_closed s.none = (closed_end, where_end, order_end)
limits_closed (s.limit {ts} k) = (closed_at limit_mark ts, where_limit ts, order_limit ts)
limits_closed (s.limit_offset {ts} {fs} {bs} k l e) =
    let q : List Lexeme = fs ++ lexeme.Fixed mark.Offset ∷ bs in
    rw e (closed_at limit_mark q, where_limit q, order_limit q)
limits_closed (s.offset_limit {ts} {fs} {bs} k l e) =
    let q : List Lexeme = fs ++ lexeme.Fixed mark.Comma ∷ bs in
    rw e (closed_at limit_mark q, where_limit q, order_limit q)

keys_closed : {ks cs : List Lexeme} {k : List KeyTree} {c : Cuts} → SortKeys ks k → Limits cs c
    → Closed (ks ++ cs) × (after mark.Where (ks ++ cs) ≡ None)
keys_closed s.unordered l = let k = limits_closed l in (k.0, k.1)
keys_closed {cs = cs} (s.ordered {ts} k) l =
    let q : List Lexeme = lexeme.Fixed mark.By ∷ (ts ++ cs) in
    (closed_at order_mark q, where_order q)

filter_closed : {fs rest : List Lexeme} {f : Option Tree} → Condition mark.Where fs f → Closed rest
    → Closed (fs ++ rest)
filter_closed s.absent k = k
filter_closed {rest = rest} (s.present {ts = ts} x) k = closed_at where_mark (ts ++ rest)

-- Aliases and labels.

label_read : {texts : Bool} {t : Lexeme} {b : List ℕ} → Label texts t b → (rest : List Lexeme)
    → label_at texts (t ∷ rest) ≡ Some (b, rest)
unfolding label_at
label_read (s.named bytes d) rest = refl
label_read (s.text bytes) rest = refl

label_no_as : {texts : Bool} {t : Lexeme} {b : List ℕ} → Label texts t b → (rest : List Lexeme)
    → after mark.As (t ∷ rest) ≡ None
unfolding after
label_no_as (s.named bytes d) rest = refl
label_no_as (s.text bytes) rest = refl

alias_read : {texts : Bool} {ts : List Lexeme} {a : Option (List ℕ)} → Alias texts ts a
    → (rest : List Lexeme) → after mark.As rest ≡ None → label_at texts rest ≡ None
    → alias_at texts (ts ++ rest) ≡ Some (a, rest)
unfolding alias_at
alias_read s.none rest none label = rw (none, label) refl
alias_read (s.bare k) rest none label = rw (label_no_as k rest, label_read k rest) refl
alias_read (s.behind_as {t = t} k) rest none label =
    rw (after-same mark.As (t ∷ rest), label_read k rest) refl

label_stops : {texts : Bool} {t : Lexeme} {b : List ℕ} → Label texts t b → (rest : List Lexeme)
    → Stops g.expr (t ∷ rest)
unfolding after same_mark follow_at op_at null_test_at word_test_at
label_stops (s.named bytes d) rest =
    (record { dot = refl; collate = refl; follow = refl }, refl, refl)
label_stops (s.text bytes) rest = (record { dot = refl; collate = refl; follow = refl }, refl, refl)

stops_at_as : (rest : List Lexeme) → Stops g.expr (lexeme.Fixed mark.As ∷ rest)
unfolding after same_mark follow_at op_at null_test_at word_test_at
stops_at_as rest = (record { dot = refl; collate = refl; follow = refl }, refl, refl)

alias_stops : {texts : Bool} {ts : List Lexeme} {a : Option (List ℕ)} → Alias texts ts a
    → (rest : List Lexeme) → Stops g.expr rest → Stops g.expr (ts ++ rest)
alias_stops s.none rest stop = stop
alias_stops (s.bare k) rest stop = label_stops k rest
alias_stops (s.behind_as {t = t} k) rest stop = stops_at_as (t ∷ rest)

table_read : {ts : List Lexeme} {x : SourceTree} → Table ts x
    → (rest : List Lexeme) → after mark.As rest ≡ None → label_at false rest ≡ None
    → source_at (ts ++ rest) ≡ Some (x, rest)
unfolding source_at name_at
table_read (s.table t d a) rest none label = rw (alias_read a rest none label) refl

-- Numbers of rows.

count_read : {ts : List Lexeme} {x : Cut} → Count ts x → (rest : List Lexeme)
    → cut_at (ts ++ rest) ≡ Some (x, rest)
unfolding cut_at count_at param_at after same_mark
count_read (s.count e) rest = rw e refl
count_read (s.negative e) rest = rw e refl
count_read (s.param n) rest = refl

second_none : (x : Cut) → second_cut_at x [] ≡ Some ((Some x, None), [])
unfolding second_cut_at after
second_none x = refl

second_offset : (x y : Cut) (bs : List Lexeme) → Count bs y
    → second_cut_at x (lexeme.Fixed mark.Offset ∷ bs) ≡ Some ((Some x, Some y), [])
unfolding second_cut_at
second_offset x y bs k =
    let read : cut_at bs ≡ Some (y, []) = ap cut_at (sym (append-nil bs)) ∙ count_read k [] in
    rw (after-same mark.Offset bs, read) refl

offset_no : (q : List Lexeme) → after mark.Offset (lexeme.Fixed mark.Comma ∷ q) ≡ None
unfolding after same_mark
offset_no q = refl

second_comma : (x y : Cut) (bs : List Lexeme) → Count bs y
    → second_cut_at x (lexeme.Fixed mark.Comma ∷ bs) ≡ Some ((Some y, Some x), [])
unfolding second_cut_at
second_comma x y bs k =
    let read : cut_at bs ≡ Some (y, []) = ap cut_at (sym (append-nil bs)) ∙ count_read k [] in
    rw (offset_no bs, after-same mark.Comma bs, read) refl

limit_no : after mark.Limit [] ≡ None
unfolding after
limit_no = refl

limits_read : {cs : List Lexeme} {c : Cuts} → Limits cs c → limits_at cs ≡ Some (c, [])
unfolding limits_at
limits_read s.none = rw limit_no refl
limits_read (s.limit {ts} {x} k) =
    let read : cut_at ts ≡ Some (x, []) = ap cut_at (sym (append-nil ts)) ∙ count_read k [] in
    rw (after-same mark.Limit ts, read) (second_none x)
limits_read (s.limit_offset {ts} {fs} {bs} {x} {y} k l e) =
    let q : List Lexeme = fs ++ lexeme.Fixed mark.Offset ∷ bs in
    rw (e, after-same mark.Limit q, count_read k (lexeme.Fixed mark.Offset ∷ bs))
    (second_offset x y bs l)
limits_read (s.offset_limit {ts} {fs} {bs} {x} {y} k l e) =
    let q : List Lexeme = fs ++ lexeme.Fixed mark.Comma ∷ bs in
    rw (e, after-same mark.Limit q, count_read k (lexeme.Fixed mark.Comma ∷ bs))
    (second_comma x y bs l)

directed_read : {ts : List Lexeme} {falls : Bool} → Directed ts falls → (rest : List Lexeme)
    → direction_at rest ≡ Some (false, rest) → direction_at (ts ++ rest) ≡ Some (falls, rest)
unfolding direction_at
directed_read s.none rest e = e
directed_read (s.asc bytes) rest e = refl
directed_read (s.desc bytes) rest e = refl

name_stops : (bytes : List ℕ) (d : Option Direction) (rest : List Lexeme)
    → Stops g.expr (lexeme.Name bytes d ∷ rest)
unfolding after same_mark follow_at op_at null_test_at word_test_at
name_stops bytes d rest = (record { dot = refl; collate = refl; follow = refl }, refl, refl)

directed_stops : {ts : List Lexeme} {falls : Bool} → Directed ts falls → (rest : List Lexeme)
    → Stops g.expr rest → Stops g.expr (ts ++ rest)
directed_stops s.none rest stop = stop
directed_stops (s.asc bytes) rest stop = name_stops bytes (Some direction.Asc) rest
directed_stops (s.desc bytes) rest stop = name_stops bytes (Some direction.Desc) rest

-- Lists with commas, of parts that end where E holds.
module _ {A : Type 0} (R : List Lexeme → A → Type 0) (p : Reader A) (E : List Lexeme → Type 0)
    (n : ℕ)
    (one : (ts : List Lexeme) (x : A) → R ts x → length ts ≤ n → (rest : List Lexeme) → E rest
    → p (ts ++ rest) ≡ Some (x, rest))
    (apart : (q : List Lexeme) → E (lexeme.Fixed mark.Comma ∷ q)) where
  rest_read : (k : ℕ) {ts : List Lexeme} {xs : List A} → Listed R ts xs → length ts ≤ n
      → length ts ≤ k → (rest : List Lexeme) → E rest → after mark.Comma rest ≡ None
      → members_at (after mark.Comma) p p k (ts ++ rest) ≡ Some (xs, rest)
  rest_read k (s.last {ts} {x} r) fits few rest stop none =
      from_last (after mark.Comma) p p k (ts ++ rest) rest x (one ts x r fits rest stop) none
  rest_read k (s.more {ts} {fs} {bs} {x} {xs} r t e) fits few rest stop none =
      let q : List Lexeme = bs ++ rest in
      let long = lengths ts fs (lexeme.Fixed mark.Comma ∷ bs) e in
      let less : k ≡ suc (k - 1) = omega arith in
      rw (parts ts fs (lexeme.Fixed mark.Comma ∷ bs) rest e, less)
      (from_more (after mark.Comma) p p (k - 1) (fs ++ lexeme.Fixed mark.Comma ∷ q)
      (lexeme.Fixed mark.Comma ∷ q) q rest x xs
      (one fs x r (omega arith) (lexeme.Fixed mark.Comma ∷ q) (apart q)) (after-same mark.Comma q)
      (rest_read (k - 1) t (omega arith) (omega arith) rest stop none))

  listed_read : {ts : List Lexeme} {xs : List A} → Listed R ts xs → length ts ≤ n
      → (rest : List Lexeme) → E rest → after mark.Comma rest ≡ None
      → list_at p (after mark.Comma) p (ts ++ rest) ≡ Some (xs, rest)
  listed_read (s.last {ts} {x} r) fits rest stop none =
      list_last (after mark.Comma) p p (ts ++ rest) rest x (one ts x r fits rest stop) none
  listed_read (s.more {ts} {fs} {bs} {x} {xs} r t e) fits rest stop none =
      let q : List Lexeme = bs ++ rest in
      let long = lengths ts fs (lexeme.Fixed mark.Comma ∷ bs) e in
      let more = length-append bs rest in
      rw (parts ts fs (lexeme.Fixed mark.Comma ∷ bs) rest e)
      (list_more (after mark.Comma) p p (fs ++ lexeme.Fixed mark.Comma ∷ q)
      (lexeme.Fixed mark.Comma ∷ q) q rest x xs (length q)
      (one fs x r (omega arith) (lexeme.Fixed mark.Comma ∷ q) (apart q)) (after-same mark.Comma q)
      refl
      (rest_read (length q) t (omega arith) (omega arith) rest stop none))

-- what may follow a result
record EndsResult (ts : List Lexeme) : Type 0 where
  stops : Stops g.expr ts
  as_mark : after mark.As ts ≡ None
  label : label_at true ts ≡ None

result_apart : (q : List Lexeme) → EndsResult (lexeme.Fixed mark.Comma ∷ q)
unfolding after same_mark follow_at op_at null_test_at word_test_at label_at
result_apart q = record {
  stops = (record { dot = refl; collate = refl; follow = refl }, refl, refl);
  as_mark = refl;
  label = refl;
}

-- what may follow a key
record EndsKey (ts : List Lexeme) : Type 0 where
  stops : Stops g.expr ts
  direction : direction_at ts ≡ Some (false, ts)

key_apart : (q : List Lexeme) → EndsKey (lexeme.Fixed mark.Comma ∷ q)
unfolding after same_mark follow_at op_at null_test_at word_test_at direction_at
key_apart q = record {
  stops = (record { dot = refl; collate = refl; follow = refl }, refl, refl);
  direction = refl;
}

set_apart : (q : List Lexeme) → Stops g.expr (lexeme.Fixed mark.Comma ∷ q)
unfolding after same_mark follow_at op_at null_test_at word_test_at
set_apart q = (record { dot = refl; collate = refl; follow = refl }, refl, refl)

-- Sources.

-- nothing that goes on with a source, but perhaps a further one
record EndsSource (ts : List Lexeme) : Type 0 where
  stops : Stops g.expr ts
  as_mark : after mark.As ts ≡ None
  label : label_at false ts ≡ None
  on : after mark.On ts ≡ None

ends_source : {ts : List Lexeme} → Closed ts → EndsSource ts
ends_source k = record { stops = k.stops; as_mark = k.as_mark; label = k.label false; on = k.on }

data JoinMark : Mark → Type 0 where
  comma_mark : JoinMark mark.Comma
  cross_mark : JoinMark mark.Cross
  left_mark : JoinMark mark.Left
  inner_mark : JoinMark mark.Inner
  join_mark : JoinMark mark.Join

join_ends : {m : Mark} → JoinMark m → (q : List Lexeme) → EndsSource (lexeme.Fixed m ∷ q)
unfolding after same_mark follow_at op_at null_test_at word_test_at label_at
join_ends comma_mark q =
    record {
      stops = (record { dot = refl; collate = refl; follow = refl }, refl, refl);
      as_mark = refl;
      label = refl;
      on = refl;
    }
join_ends _ q =
    record {
      stops = (record { dot = refl; collate = refl; follow = refl }, refl, refl);
      as_mark = refl;
      label = refl;
      on = refl;
    }

join_found : {m : Mark} → JoinMark m → (q : List Lexeme)
    → join_begins (lexeme.Fixed m ∷ q) ≡ Some (lexeme.Fixed m ∷ q)
unfolding join_begins after same_mark
join_found comma_mark q = refl
join_found _ q = refl

-- a join begins with one of these marks
joined_begins : {ts : List Lexeme} {x : SourceTree} → Joined ts x
    → (q : List Lexeme) × (ts ≡ lexeme.Fixed mark.Join ∷ q)
joined_begins (s.joined {fs = fs} {bs = bs} t c e) = (fs ++ bs, e)

join_first : {ts : List Lexeme} {x : SourceTree} → Join ts x
    → (m : Mark) × JoinMark m × (q : List Lexeme) × (ts ≡ lexeme.Fixed m ∷ q)
join_first (s.comma {ts} t) = (mark.Comma, comma_mark, ts, refl)
join_first (s.plain t) = let k = joined_begins t in (mark.Join, join_mark, k.0, k.1)
join_first (s.inner {ts} t) = (mark.Inner, inner_mark, ts, refl)
join_first (s.cross {ts} t) = (mark.Cross, cross_mark, ts, refl)
join_first (s.left {ts} t) = (mark.Left, left_mark, ts, refl)
join_first (s.left_outer {ts} t) = (mark.Left, left_mark, lexeme.Fixed mark.Outer ∷ ts, refl)

on_ends : (q : List Lexeme)
    → (after mark.As (lexeme.Fixed mark.On ∷ q) ≡ None)
    × (label_at false (lexeme.Fixed mark.On ∷ q) ≡ None)
unfolding after same_mark label_at
on_ends q = (refl, refl)

joins_ends : {bs : List Lexeme} {ss : List SourceTree} → Joins bs ss → (rest : List Lexeme)
    → EndsSource rest → EndsSource (bs ++ rest)
joins_ends s.none rest k = k
joins_ends (s.more {ts} {fs} {bs} j t e) rest k =
    let f = join_first j in
    let is : ts ++ rest ≡ lexeme.Fixed f.0 ∷ (f.2 ++ (bs ++ rest)) =
    parts ts fs bs rest e ∙ ap (λ q. q ++ (bs ++ rest)) f.3 in
    rw is (join_ends f.1 (f.2 ++ (bs ++ rest)))

condition_ends : {bs : List Lexeme} {on : Option Tree} → Condition mark.On bs on
    → (rest : List Lexeme) → EndsSource rest
    → (after mark.As (bs ++ rest) ≡ None) × (label_at false (bs ++ rest) ≡ None)
condition_ends s.absent rest k = (k.as_mark, k.label)
condition_ends (s.present {ts = ts} x) rest k = on_ends (ts ++ rest)

module _ (n : ℕ) where
  condition_read : {m : Mark} {ts : List Lexeme} {x : Option Tree} → Condition m ts x
      → length ts ≤ n → (rest : List Lexeme) → after m rest ≡ None → Stops g.expr rest
      → optional_at m (expr_at (below n)) (ts ++ rest) ≡ Some (x, rest)
  unfolding optional_at
  condition_read s.absent fits rest none stop = rw none refl
  condition_read (s.present {m} {ts} x) fits rest none stop =
      rw (after-same m (ts ++ rest), expressions_complete n x (omega arith) rest stop) refl

  result_star : (rest : List Lexeme)
      → result_at (expr_at (below n)) (lexeme.Fixed mark.Star ∷ rest) ≡ Some (statement.Star, rest)
  unfolding result_at
  result_star rest = rw (after-same mark.Star rest) refl

  result_table_star : (t : List ℕ) (d : Option Direction) (rest : List Lexeme)
      → result_at (expr_at (below n))
      (lexeme.Name t d ∷ lexeme.Fixed mark.Dot ∷ lexeme.Fixed mark.Star ∷ rest)
      ≡ Some (statement.TableStar t, rest)
  unfolding result_at table_star_at name_at after same_mark
  result_table_star t d rest = refl

  result_value : (ts q rest : List Lexeme) (x : Tree) (a : Option (List ℕ))
      → after mark.Star ts ≡ None → table_star_at ts ≡ None → expr_at (below n) ts ≡ Some (x, q)
      → alias_at true q ≡ Some (a, rest)
      → result_at (expr_at (below n)) ts ≡ Some (statement.Value x a, rest)
  unfolding result_at value_result_at
  result_value ts q rest x a star table e f = rw (star, table, e, f) refl

  result_read : (ts : List Lexeme) (x : ItemTree) → Result ts x → length ts ≤ n
      → (rest : List Lexeme)
      → EndsResult rest → result_at (expr_at (below n)) (ts ++ rest) ≡ Some (x, rest)
  result_read ts x s.star fits rest ends = result_star rest
  result_read ts x (s.table_star t d) fits rest ends = result_table_star t d rest
  result_read ts x (s.value {fs = fs} {bs = bs} {x = y} {a = a} k l e) fits rest ends =
      let long = lengths ts fs bs e in
      let stop = alias_stops l rest ends.stops in
      rw (parts ts fs bs rest e) (result_value (fs ++ (bs ++ rest)) (bs ++ rest) rest y a
      (no_mark k (bs ++ rest)).1 (no_star k (bs ++ rest) stop.0.dot)
      (expressions_complete n k (omega arith) (bs ++ rest) stop)
      (alias_read l rest ends.as_mark ends.label))

  joined_read : {ts : List Lexeme} {x : SourceTree} → Joined ts x → length ts ≤ n
      → (rest : List Lexeme) → EndsSource rest
      → joined_source_at (expr_at (below n)) (ts ++ rest) ≡ Some (x, rest)
  unfolding joined_source_at
  joined_read (s.joined {ts = ts} {fs = fs} {bs = bs} t c e) fits rest ends =
      let q : List Lexeme = fs ++ bs in
      let long : length ts ≡ suc (length q) = ap length e in
      let longer = length-append fs bs in
      let k = condition_ends c rest ends in
      let whole : ts ++ rest ≡ lexeme.Fixed mark.Join ∷ (fs ++ (bs ++ rest)) =
      ap (λ r. r ++ rest) e ∙ ap (λ r. lexeme.Fixed mark.Join ∷ r) (append_assoc fs bs rest) in
      rw (
        whole,
        after-same mark.Join (fs ++ (bs ++ rest)),
        table_read t (bs ++ rest) k.0 k.1,
        condition_read c (omega arith) rest ends.on ends.stops,
      ) refl

  join_comma : (q : List Lexeme) (z : Read SourceTree) → source_at q ≡ z
      → join_at (expr_at (below n)) (lexeme.Fixed mark.Comma ∷ q) ≡ z
  unfolding join_at
  join_comma q z e = rw (after-same mark.Comma q) e

  join_cross : (q rest : List Lexeme) (x : SourceTree)
      → joined_source_at (expr_at (below n)) q ≡ Some (x, rest)
      → join_at (expr_at (below n)) (lexeme.Fixed mark.Cross ∷ q) ≡ Some (cross_joined x, rest)
  unfolding join_at after same_mark
  join_cross q rest x e = rw e refl

  join_left : (q rest : List Lexeme) (x : SourceTree)
      → joined_source_at (expr_at (below n)) (lexeme.Fixed mark.Join ∷ q) ≡ Some (x, rest)
      → join_at (expr_at (below n)) (lexeme.Fixed mark.Left ∷ lexeme.Fixed mark.Join ∷ q)
      ≡ Some (left_joined x, rest)
  unfolding join_at past after same_mark
  join_left q rest x e = rw e refl

  join_left_outer : (q rest : List Lexeme) (x : SourceTree)
      → joined_source_at (expr_at (below n)) q ≡ Some (x, rest)
      → join_at (expr_at (below n)) (lexeme.Fixed mark.Left ∷ lexeme.Fixed mark.Outer ∷ q)
      ≡ Some (left_joined x, rest)
  unfolding join_at past after same_mark
  join_left_outer q rest x e = rw e refl

  join_inner : (q : List Lexeme) (z : Read SourceTree)
      → joined_source_at (expr_at (below n)) q ≡ z
      → join_at (expr_at (below n)) (lexeme.Fixed mark.Inner ∷ q) ≡ z
  unfolding join_at past after same_mark
  join_inner q z e = e

  join_plain : (q : List Lexeme) (z : Read SourceTree)
      → joined_source_at (expr_at (below n)) (lexeme.Fixed mark.Join ∷ q) ≡ z
      → join_at (expr_at (below n)) (lexeme.Fixed mark.Join ∷ q) ≡ z
  unfolding join_at past after same_mark
  join_plain q z e = e

  join_read : {ts : List Lexeme} {x : SourceTree} → Join ts x → length ts ≤ n → (rest : List Lexeme)
      → EndsSource rest → join_at (expr_at (below n)) (ts ++ rest) ≡ Some (x, rest)
  join_read (s.comma {ts} t) fits rest ends =
      join_comma (ts ++ rest) _ (table_read t rest ends.as_mark ends.label)
  join_read (s.plain {ts} t) fits rest ends =
      let k = joined_begins t in
      let is : ts ++ rest ≡ lexeme.Fixed mark.Join ∷ (k.0 ++ rest) = ap (λ q. q ++ rest) k.1 in
      rw is (join_plain (k.0 ++ rest) _
      (ap (joined_source_at (expr_at (below n))) (sym is) ∙ joined_read t fits rest ends))
  join_read (s.inner {ts} t) fits rest ends =
      join_inner (ts ++ rest) _ (joined_read t (omega arith) rest ends)
  join_read (s.cross {ts} {s = x} t) fits rest ends =
      join_cross (ts ++ rest) rest x (joined_read t (omega arith) rest ends)
  join_read (s.left {ts} {s = x} t) fits rest ends =
      let k = joined_begins t in
      let is : ts ++ rest ≡ lexeme.Fixed mark.Join ∷ (k.0 ++ rest) = ap (λ q. q ++ rest) k.1 in
      rw is (join_left (k.0 ++ rest) rest x
      (ap (joined_source_at (expr_at (below n))) (sym is) ∙ joined_read t (omega arith) rest ends))
  join_read (s.left_outer {ts} {s = x} t) fits rest ends =
      join_left_outer (ts ++ rest) rest x (joined_read t (omega arith) rest ends)

  joins_step : (m : ℕ) (ts q rest : List Lexeme) (x : SourceTree) (xs : List SourceTree)
      → join_at (expr_at (below n)) ts ≡ Some (x, q)
      → more_at join_begins (join_at (expr_at (below n))) m q ≡ Some (xs, rest)
      → members_at join_begins (join_at (expr_at (below n))) (join_at (expr_at (below n))) m ts
      ≡ Some (x ∷ xs, rest)
  unfolding members_at
  joins_step m ts q rest x xs e f = rw (e, f) refl

  -- further sources, up to a count that is large enough
  joins_read : (k : ℕ) {ts : List Lexeme} {xs : List SourceTree} → Joins ts xs → length ts ≤ n
      → length ts ≤ k → (rest : List Lexeme) → EndsSource rest → join_begins rest ≡ None
      → more_at join_begins (join_at (expr_at (below n))) k (ts ++ rest) ≡ Some (xs, rest)
  joins_read k s.none fits few rest ends none =
      more_at-stop join_begins (join_at (expr_at (below n))) k rest none
  joins_read k (s.more {ts} {fs} {bs} {s = x} {ss = xs} j t e) fits few rest ends none =
      let f = join_first j in
      let long = lengths ts fs bs e in
      let first : length fs ≡ suc (length f.2) = ap length f.3 in
      let less : k ≡ suc (k - 1) = omega arith in
      let q : List Lexeme = bs ++ rest in
      let found : join_begins (fs ++ q) ≡ Some (fs ++ q) = rw f.3 (join_found f.1 (f.2 ++ q)) in
      rw (parts ts fs bs rest e, less)
      (more_at-step join_begins (join_at (expr_at (below n))) (k - 1) (fs ++ q) (fs ++ q) found
      ∙ joins_step (k - 1) (fs ++ q) q rest x xs
      (join_read j (omega arith) q (joins_ends t rest ends))
      (joins_read (k - 1) t (omega arith) (omega arith) rest ends none))

  sources_read : {ts : List Lexeme} {xs : List SourceTree} → Sources ts xs → length ts ≤ n
      → (rest : List Lexeme) → EndsSource rest → join_begins rest ≡ None
      → sources_at (expr_at (below n)) (ts ++ rest) ≡ Some (xs, rest)
  unfolding sources_at list_at
  sources_read (s.sources {ts} {fs} {bs} t j e) fits rest ends none =
      let long = lengths ts fs bs e in
      let q : List Lexeme = bs ++ rest in
      let more = length-append bs rest in
      let after_first = joins_ends j rest ends in
      rw (
        parts ts fs bs rest e,
        table_read t q after_first.as_mark after_first.label,
        joins_read (length q) j (omega arith) (omega arith) rest ends none,
      ) refl

  key_read : (ts : List Lexeme) (x : KeyTree) → SortKey ts x → length ts ≤ n → (rest : List Lexeme)
      → EndsKey rest → key_at (expr_at (below n)) (ts ++ rest) ≡ Some (x, rest)
  unfolding key_at
  key_read ts x (s.key {fs = fs} {bs = bs} k d e) fits rest ends =
      let long = lengths ts fs bs e in
      rw (
        parts ts fs bs rest e,
        expressions_complete n k (omega arith) (bs ++ rest) (directed_stops d rest ends.stops),
        directed_read d rest ends.direction,
      ) refl

  keys_read : {ts : List Lexeme} {xs : List KeyTree} → SortKeys ts xs → length ts ≤ n
      → (rest : List Lexeme) → Closed rest → after mark.Order rest ≡ None
      → keys_at (expr_at (below n)) (ts ++ rest) ≡ Some (xs, rest)
  unfolding keys_at
  keys_read s.unordered fits rest ends none = rw none refl
  keys_read (s.ordered {ts} k) fits rest ends none =
      rw (
        after-same mark.Order (lexeme.Fixed mark.By ∷ (ts ++ rest)),
        after-same mark.By (ts ++ rest),
      )
      (listed_read SortKey (key_at (expr_at (below n))) EndsKey n key_read key_apart k (omega arith)
      rest (record { stops = ends.stops; direction = ends.direction }) ends.comma)

  set_read : (ts : List Lexeme) (x : SetTree) → Setting ts x → length ts ≤ n → (rest : List Lexeme)
      → Stops g.expr rest → set_at (expr_at (below n)) (ts ++ rest) ≡ Some (x, rest)
  unfolding set_at name_at
  set_read ts x (s.set {ts = q} c d k) fits rest stop =
      rw (after-same mark.Eq (q ++ rest), expressions_complete n k (omega arith) rest stop) refl

  result_not_all : {ts : List Lexeme} {x : ItemTree} → Result ts x → (rest : List Lexeme)
      → after mark.All (ts ++ rest) ≡ None
  unfolding after same_mark
  result_not_all s.star rest = refl
  result_not_all (s.table_star t d) rest = refl
  result_not_all (s.value {ts} {fs} {bs} k l e) rest =
      rw (parts ts fs bs rest e) (no_mark k (bs ++ rest)).0

  results_not_all : {ts : List Lexeme} {xs : List ItemTree} → Listed Result ts xs
      → (rest : List Lexeme) → after mark.All (ts ++ rest) ≡ None
  results_not_all (s.last r) rest = result_not_all r rest
  results_not_all (s.more {ts} {fs} {bs} r t e) rest =
      rw (parts ts fs (lexeme.Fixed mark.Comma ∷ bs) rest e)
      (result_not_all r (lexeme.Fixed mark.Comma ∷ (bs ++ rest)))

  past_read : {qs : List Lexeme} → PerhapsAll qs → (rest : List Lexeme) → after mark.All rest ≡ None
      → past mark.All (qs ++ rest) ≡ rest
  unfolding past
  past_read s.none rest none = rw none refl
  past_read s.all rest none = rw (after-same mark.All rest) refl

  from_read : {results : List ItemTree} {ss fs ks cs : List Lexeme} {sources : List SourceTree}
      {filter : Option Tree} {keys : List KeyTree} {cuts : Cuts} →
      Sources ss sources → Condition mark.Where fs filter → SortKeys ks keys → Limits cs cuts →
      length ss ≤ n → length fs ≤ n → length ks ≤ n →
      from_at (expr_at (below n)) results (ss ++ (fs ++ (ks ++ cs)))
      ≡ Some (
        record {
          items = results;
          sources = sources;
          filter = filter;
          keys = keys;
          limit = cuts.0;
          offset = cuts.1;
        },
        [],
      )
  unfolding from_at
  from_read {results} {ss} {fs} {ks} {cs} a b c d one two three =
      let l = limits_closed d in
      let k = keys_closed c d in
      let f = filter_closed b k.0 in
      rw (
        sources_read a one (fs ++ (ks ++ cs)) (ends_source f) f.join,
        condition_read b two (ks ++ cs) k.1 k.0.stops,
        keys_read c three cs l.0 l.2,
        limits_read
            d,
      ) refl

  select_begins : (q : List Lexeme) (z : Read StatementTree)
      → (select_at (expr_at (below n)) q >>= λ x. Some (statement.Select x.0, x.1)) ≡ z
      → statement_at (expr_at (below n)) (lexeme.Fixed mark.Select ∷ q) ≡ z
  unfolding statement_at
  select_begins q z e = rw (after-same mark.Select q) e

  update_begins : (q : List Lexeme) (z : Read StatementTree)
      → (update_at (expr_at (below n)) q >>= λ x. Some (statement.Update x.0, x.1)) ≡ z
      → statement_at (expr_at (below n)) (lexeme.Fixed mark.Update ∷ q) ≡ z
  unfolding statement_at after same_mark
  update_begins q z e = e

  delete_begins : (q : List Lexeme) (z : Read StatementTree)
      → (delete_at (expr_at (below n)) q >>= λ x. Some (statement.Delete x.0, x.1)) ≡ z
      → statement_at (expr_at (below n)) (lexeme.Fixed mark.Delete ∷ q) ≡ z
  unfolding statement_at after same_mark
  delete_begins q z e = e

  ends_result : {ts : List Lexeme} → Closed ts → EndsResult ts
  ends_result k = record { stops = k.stops; as_mark = k.as_mark; label = k.label true }

  -- a filter at the end of a statement
  filter_ends : {fs : List Lexeme} {f : Option Tree} → Condition mark.Where fs f → Closed fs
  filter_ends s.absent = closed_end
  filter_ends (s.present {ts = ts} x) = closed_at where_mark ts

  condition_whole : {fs : List Lexeme} {f : Option Tree} → Condition mark.Where fs f → length fs ≤ n
      → optional_at mark.Where (expr_at (below n)) fs ≡ Some (f, [])
  condition_whole {fs} c fits =
      ap (optional_at mark.Where (expr_at (below n))) (sym (append-nil fs))
      ∙ condition_read c fits [] where_end closed_end.stops

  pub statement_read : {ts : List Lexeme} {x : StatementTree} → IsSpelled ts x → length ts ≤ n
      → statement_at (expr_at (below n)) ts ≡ Some (x, [])
  unfolding select_at results_at update_at sets_at delete_at
  statement_read (s.select {ts} {qs} {is} {ss} {fs} {ks} {cs} {results} {sources} {filter} {keys}
      {cuts} q i a b c d e) fits =
      let behind : List Lexeme = ss ++ (fs ++ (ks ++ cs)) in
      let tail : List Lexeme = is ++ lexeme.Fixed mark.From ∷ behind in
      let long : length ts ≡ suc (length (qs ++ tail)) = ap length e in
      let l1 = length-append qs tail in
      let l2 = length-append is (lexeme.Fixed mark.From ∷ behind) in
      let l3 = length-append ss (fs ++ (ks ++ cs)) in
      let l4 = length-append fs (ks ++ cs) in
      let l5 = length-append ks cs in
      let k = closed_at from_mark behind in
      let read = listed_read Result (result_at (expr_at (below n))) EndsResult n result_read
      result_apart i (omega arith) (lexeme.Fixed mark.From ∷ behind) (ends_result k) k.comma in
      rw e (select_begins (qs ++ tail) _
      (rw (
        past_read q tail (results_not_all i (lexeme.Fixed mark.From ∷ behind)),
        read,
        after-same mark.From behind,
        from_read {results = results} a b c d (omega arith) (omega arith)
            (omega arith),
      ) refl))
  statement_read (s.update {ts} {ss} {us} {fs} t u c e) fits =
      let tail : List Lexeme = us ++ fs in
      let long : length ts ≡ suc (length (ss ++ lexeme.Fixed mark.Set ∷ tail)) = ap length e in
      let l1 = length-append ss (lexeme.Fixed mark.Set ∷ tail) in
      let l2 = length-append us fs in
      let k = closed_at set_mark tail in
      let f = filter_ends c in
      let read = listed_read Setting (set_at (expr_at (below n))) (λ r. Stops g.expr r) n set_read
      set_apart u (omega arith) fs f.stops f.comma in
      rw e (update_begins (ss ++ lexeme.Fixed mark.Set ∷ tail) _
      (rw (
        table_read t (lexeme.Fixed mark.Set ∷ tail) k.as_mark (k.label false),
        after-same mark.Set tail,
        read,
        condition_whole c (omega arith),
      ) refl))
  statement_read (s.delete {ts} {ss} {fs} t c e) fits =
      let long : length ts ≡ suc (suc (length (ss ++ fs))) = ap length e in
      let l1 = length-append ss fs in
      let f = filter_ends c in
      rw e (delete_begins (lexeme.Fixed mark.From ∷ (ss ++ fs)) _
      (rw (
        after-same mark.From (ss ++ fs),
        table_read t fs f.as_mark (f.label false),
        condition_whole c (omega arith),
      ) refl))
