-- The tree of beginnings: each list of columns has a node of its own, and a list that is added
-- leads to nodes for what it begins with, and to no others.
use Rattle.std.proofs.Common.{◌≡◌, ◌⊎◌, inl, inr, ℕ, ◌+◌, ◌<◌, Bool, true, false, cond, ◌&&◌, ◌||◌}
use Rattle.std.proofs.Common.{◌==◌, List, [], ◌∷◌, ◌++◌, map, length, position, Option, None, Some}
use Rattle.std.proofs.Common.{is_some, get_or, refl, ap, sym, ◌∙◌, subst, arith}
use Rattle.std.specs.List.{AllByRecursion, position_or_len}
use Rattle.std.proofs.lemmas.Bool.{eqb-true, eq-eqb}
use Rattle.std.proofs.lemmas.List.{length_push, append-nil}
use Rattle.std.proofs.lemmas.List.Quantifiers.{position-Some}
use Rattle.list_laws.proofs.Bools.{and_left, and_right, both_true, or_cases, or_first, or_later}
use Rattle.list_laws.proofs.Bools.{alike}
use Rattle.list_laws.proofs.Lists.{all_map, all_append}
use Rattle.sql_meaning.specs.Schemas.{Index}
use Rattle.sql_meaning.specs.Schemas as plain
use Rattle.plan_choice.specs.Candidates.{same_entry, is_prefix, is_served}
use Rattle.schema_model.specs.PlainSchemas.{plain_index_column}
use Rattle.schema_model.specs.declared.indexes.IndexColumn.{IndexColumn}
use Rattle.candidate_index.specs.Beginnings.{step_of, same_step, behind, after, leads, reached}
use Rattle.candidate_index.specs.Beginnings.{with_step, with_steps, IsRooted, AreRooted, Serves}
use Rattle.candidate_index.specs.declared.beginnings.Node.{Node}
use Rattle.candidate_index.specs.declared.beginnings.Node.TheVariants.{Table, Behind}
use Rattle.candidate_index.specs.declared.beginnings.Step.{Step}
use Rattle.schema_model.proofs.ColumnPlaces.{or_else, position_push}
use Rattle.candidate_index.proofs.Places.{there_or_new, IsThere, IsNew}
use Rattle.candidate_index.proofs.Places.{all_at}
use Rattle.candidate_index.proofs.Steps.{entry_of, step_is, step_same, entry_is, entry_same}

abbrev goes : List Step → Option Node → IndexColumn → Option Node
goes steps None c = None
goes steps (Some node) c = after steps node c

-- where columns lead, of which the last one comes first
abbrev back : List Step → ℕ → List IndexColumn → Option Node
back steps t [] = Some (Table t)
back steps t (c ∷ r) = goes steps (back steps t r) c

-- columns put before others, one after the other
abbrev onto : List IndexColumn → List IndexColumn → List IndexColumn
onto [] r = r
onto (c ∷ cs) r = onto cs (c ∷ r)

leads_end : (steps : List Step) (o : Option Node) → leads steps o [] ≡ o
leads_end steps None = refl
leads_end steps (Some node) = refl

leads_step : (steps : List Step) (o : Option Node) (c : IndexColumn) (cs : List IndexColumn)
    → leads steps o (c ∷ cs) ≡ leads steps (goes steps o c) cs
leads_step steps None c [] = refl
leads_step steps None c (d ∷ ds) = refl
leads_step steps (Some node) c cs = refl

leads_back : (steps : List Step) (t : ℕ) (cs r : List IndexColumn)
    → leads steps (back steps t r) cs ≡ back steps t (onto cs r)
leads_back steps t [] r = leads_end steps (back steps t r)
leads_back steps t (c ∷ cs) r =
    leads_step steps (back steps t r) c cs ∙ leads_back steps t cs (c ∷ r)

onto_onto : (q r s : List IndexColumn) → onto (onto q r) s ≡ onto r (q ++ s)
onto_onto [] r s = refl
onto_onto (c ∷ q) r s = onto_onto q (c ∷ r) s

onto_twice : (q : List IndexColumn) → onto (onto q []) [] ≡ q
onto_twice q = onto_onto q [] [] ∙ append-nil q

-- a step of columns that leads somewhere
record Stepped (steps : List Step) (o : Option Node) (c : IndexColumn) (n : Node) : Type 0 where
  from : Node
  at : o ≡ Some from
  index : ℕ
  place : position (same_step (step_of from c)) steps ≡ Some index
  same : Behind index ≡ n

stepped : (steps : List Step) (o : Option Node) (c : IndexColumn) (n : Node)
    → goes steps o c ≡ Some n → Stepped steps o c n
stepped steps None c n e = absurd (cc)
stepped steps (Some m) c n e = by (position (same_step (step_of m c)) steps) refl e
  where
    by : (q : Option ℕ) → position (same_step (step_of m c)) steps ≡ q → behind q ≡ Some n
        → Stepped steps (Some m) c n
    by None f g = absurd (cc)
    by (Some i) f g = record { from = m; at = refl; index = i; place = f; same = cc }

steps_to : (steps : List Step) (o : Option Node) (m : Node) (c : IndexColumn) (i : ℕ)
    → o ≡ Some m → position (same_step (step_of m c)) steps ≡ Some i
    → goes steps o c ≡ Some (Behind i)
steps_to steps o m c i e f = ap (λ k. goes steps k c) e ∙ ap behind f

-- the step at an index is the one that was looked for
found_is : (steps : List Step) (s : Step) (i : ℕ) (d : Step)
    → position (same_step s) steps ≡ Some i → s ≡ get_or steps i d
found_is steps s i d e = step_is s (get_or steps i d) (position-Some (same_step s) steps i d e).1

found_below : (steps : List Step) (s : Step) (i : ℕ)
    → position (same_step s) steps ≡ Some i → i < length steps
found_below steps s i e = (position-Some (same_step s) steps i s e).0

-- two lists of columns that lead to one node are one
apart : (steps : List Step) (t u : ℕ) (r q : List IndexColumn) (n : Node)
    → back steps t r ≡ Some n → back steps u q ≡ Some n → (t ≡ u) × (r ≡ q)
apart steps t u [] [] n e f = (cc, refl)
apart steps t u [] (d ∷ q) n e f =
    let b = (stepped steps (back steps u q) d n f).same in absurd (cc)
apart steps t u (c ∷ r) [] n e f =
    let a = (stepped steps (back steps t r) c n e).same in absurd (cc)
apart steps t u (c ∷ r) (d ∷ q) n e f =
    let a = stepped steps (back steps t r) c n e in
    let b = stepped steps (back steps u q) d n f in
    let ai = a.same in
    let bi = b.same in
    let index : b.index ≡ a.index = cc in
    let default = step_of a.from c in
    let one : step_of a.from c ≡ step_of b.from d =
    found_is steps (step_of a.from c) a.index default a.place
    ∙ sym (found_is steps (step_of b.from d) a.index default (b.place ∙ ap Some index)) in
    let node : a.from ≡ b.from = ap (λ (s : Step). s.from) one in
    let entry : c ≡ d = ap entry_of one in
    let before = apart steps t u r q a.from a.at (b.at ∙ ap Some (sym node)) in
    let rest = before.1 in
    (before.0, cc)

rooted_node : (steps : List Step) (t : ℕ) (r : List IndexColumn) (n : Node)
    → back steps t r ≡ Some n → IsRooted (length steps) n
rooted_node steps t [] n e =
    let table : Table t ≡ n = cc in subst (IsRooted (length steps)) table tt
rooted_node steps t (c ∷ r) n e =
    let a = stepped steps (back steps t r) c n e in
    subst (IsRooted (length steps)) a.same
    (found_below steps (step_of a.from c) a.index a.place)

-- a step that goes last changes no other
push_kept : (steps : List Step) (last s : Step) (i : ℕ)
    → position (same_step s) steps ≡ Some i
    → position (same_step s) (steps ++ last ∷ []) ≡ Some i
push_kept steps last s i e =
    position_push (same_step s) steps last
    ∙ ap (λ (o : Option ℕ). or_else o (cond (same_step s last) (Some (length steps)) None)) e

push_new : (steps : List Step) (s : Step) → position (same_step s) steps ≡ None
    → position (same_step s) (steps ++ s ∷ []) ≡ Some (length steps)
push_new steps s e =
    position_push (same_step s) steps s
    ∙ ap (λ (o : Option ℕ). or_else o (cond (same_step s s) (Some (length steps)) None)) e
    ∙ ap (λ (b : Bool). cond b (Some (length steps)) None) (step_same s)

record IsLast (steps : List Step) (last s : Step) (i : ℕ) : Type 0 where
  equal : s ≡ last
  index : i ≡ length steps

pushed_case : (steps : List Step) (last s : Step) (i : ℕ) (o : Option ℕ) (b : Bool)
    → position (same_step s) steps ≡ o → same_step s last ≡ b
    → or_else o (cond b (Some (length steps)) None) ≡ Some i
    → (position (same_step s) steps ≡ Some i) ⊎ IsLast steps last s i
pushed_case steps last s i (Some j) b e f g = inl (e ∙ g)
pushed_case steps last s i None true e f g =
    inr (record { equal = step_is s last f; index = cc })
pushed_case steps last s i None false e f g = absurd (cc)

pushed : (steps : List Step) (last s : Step) (i : ℕ)
    → position (same_step s) (steps ++ last ∷ []) ≡ Some i
    → (position (same_step s) steps ≡ Some i) ⊎ IsLast steps last s i
pushed steps last s i e =
    pushed_case steps last s i (position (same_step s) steps) (same_step s last) refl refl
    (sym (position_push (same_step s) steps last) ∙ e)

mono_step : (steps : List Step) (last : Step) (u : ℕ) (r : List IndexColumn) (n : Node)
    → back steps u r ≡ Some n → back (steps ++ last ∷ []) u r ≡ Some n
mono_step steps last u [] n e = e
mono_step steps last u (c ∷ r) n e =
    let a = stepped steps (back steps u r) c n e in
    steps_to (steps ++ last ∷ []) (back (steps ++ last ∷ []) u r) a.from c a.index
    (mono_step steps last u r a.from a.at)
    (push_kept steps last (step_of a.from c) a.index a.place)
    ∙ ap Some a.same

more_rooted : (count : ℕ) (n : Node) → IsRooted count n → IsRooted (count + 1) n
more_rooted count (Table t) h = tt
more_rooted count (Behind i) h = omega (arith, h)

not_behind : (count : ℕ) (n : Node) → n ≡ Behind count → IsRooted count n → ⊥
not_behind count (Table t) e h = cc
not_behind count (Behind i) e h = let same : i ≡ count = cc in omega (arith, h, same)

-- the columns that lead to the node that was added
record IsAdded (steps : List Step) (t : ℕ) (path : List IndexColumn) (u : ℕ)
    (r : List IndexColumn) (n : Node) : Type 0 where
  table : u ≡ t
  columns : r ≡ path
  node : n ≡ Behind (length steps)

module _ (steps : List Step) (rooted : AreRooted steps) (t : ℕ) (path : List IndexColumn)
    (node : Node) (d : IndexColumn) (at : back steps t path ≡ Some node) where
  abbrev last : Step
  last = step_of node d

  abbrev more : List Step
  more = steps ++ last ∷ []

  all_rooted : AllByRecursion (λ s. IsRooted (length steps) s.from) more
  all_rooted =
      all_append (λ (s : Step). IsRooted (length steps) s.from) steps (last ∷ []) rooted
      (rooted_node steps t path node at, tt)

  -- no step leads from the node that is added
  none_from : (c : IndexColumn) (from : Node) (i : ℕ) → from ≡ Behind (length steps)
      → position (same_step (step_of from c)) more ≡ Some i → ⊥
  none_from c from i e f =
      let s = step_of from c in
      let is : s ≡ get_or more i s = found_is more s i s f in
      not_behind (length steps) (get_or more i s).from (sym (ap (λ (x : Step). x.from) is) ∙ e)
      (all_at (λ (x : Step). IsRooted (length steps) x.from) more i s all_rooted
      (found_below more s i f))

  ahead : (u : ℕ) (c : IndexColumn) (r : List IndexColumn) (n from : Node) (i : ℕ)
      → back steps u r ≡ Some from → Behind i ≡ n
      → (position (same_step (step_of from c)) steps ≡ Some i)
      ⊎ IsLast steps last (step_of from c) i
      → (back steps u (c ∷ r) ≡ Some n) ⊎ IsAdded steps t (d ∷ path) u (c ∷ r) n
  ahead u c r n from i e same (inl f) =
      inl (steps_to steps (back steps u r) from c i e f ∙ ap Some same)
  ahead u c r n from i e same (inr h) =
      let equal = h.equal in
      let index = h.index in
      let source : from ≡ node = ap (λ (s : Step). s.from) equal in
      let entry : c ≡ d = ap entry_of equal in
      let one = apart steps u t r path node (e ∙ ap Some source) at in
      let rest = one.1 in
      inr (record { table = one.0; columns = cc; node = cc })

  -- what leads somewhere after a step is added did before, or leads to that step
  sound_step : (u : ℕ) (r : List IndexColumn) (n : Node) → back more u r ≡ Some n
      → (back steps u r ≡ Some n) ⊎ IsAdded steps t (d ∷ path) u r n
  sound_step u [] n e = inl e
  sound_step u (c ∷ r) n e =
      let a = stepped more (back more u r) c n e in by a (sound_step u r a.from a.at)
    where
      by : (a : Stepped more (back more u r) c n)
          → (back steps u r ≡ Some a.from) ⊎ IsAdded steps t (d ∷ path) u r a.from
          → (back steps u (c ∷ r) ≡ Some n) ⊎ IsAdded steps t (d ∷ path) u (c ∷ r) n
      by a (inl f) =
          ahead u c r n a.from a.index f a.same
          (pushed steps last (step_of a.from c) a.index a.place)
      by a (inr h) = absurd (none_from c a.from a.index h.node a.place)

-- the node behind a step that is put, and what leads to it
abbrev put_node : List Step → Node → IndexColumn → Node
put_node steps node c = Behind (position_or_len (same_step (step_of node c)) steps)

put_at_case : (steps : List Step) (t : ℕ) (path : List IndexColumn) (node : Node) (c : IndexColumn)
    → back steps t path ≡ Some node
    → IsThere (same_step (step_of node c)) steps (step_of node c)
    ⊎ IsNew (same_step (step_of node c)) steps (step_of node c)
    → back (with_step steps (step_of node c)) t (c ∷ path) ≡ Some (put_node steps node c)
put_at_case steps t path node c at (inl h) =
    ap (λ (s : List Step). back s t (c ∷ path)) h.same
    ∙ steps_to steps (back steps t path) node c _ at h.place
put_at_case steps t path node c at (inr h) =
    let last = step_of node c in
    ap (λ (s : List Step). back s t (c ∷ path)) h.more
    ∙ steps_to (steps ++ last ∷ []) (back (steps ++ last ∷ []) t path) node c (length steps)
    (mono_step steps last t path node at) (push_new steps last h.place)
    ∙ ap (λ (i : ℕ). Some (Behind i)) (sym h.last)

put_at : (steps : List Step) (t : ℕ) (path : List IndexColumn) (node : Node) (c : IndexColumn)
    → back steps t path ≡ Some node
    → back (with_step steps (step_of node c)) t (c ∷ path) ≡ Some (put_node steps node c)
put_at steps t path node c at =
    put_at_case steps t path node c at
    (there_or_new (same_step (step_of node c)) steps (step_of node c))

put_mono_case : (steps : List Step) (s : Step) (u : ℕ) (r : List IndexColumn) (n : Node)
    → back steps u r ≡ Some n → IsThere (same_step s) steps s ⊎ IsNew (same_step s) steps s
    → back (with_step steps s) u r ≡ Some n
put_mono_case steps s u r n e (inl h) = ap (λ (x : List Step). back x u r) h.same ∙ e
put_mono_case steps s u r n e (inr h) =
    ap (λ (x : List Step). back x u r) h.more ∙ mono_step steps s u r n e

put_mono : (steps : List Step) (s : Step) (u : ℕ) (r : List IndexColumn) (n : Node)
    → back steps u r ≡ Some n → back (with_step steps s) u r ≡ Some n
put_mono steps s u r n e = put_mono_case steps s u r n e (there_or_new (same_step s) steps s)

push_rooted : (steps : List Step) (s : Step) → AreRooted steps → IsRooted (length steps) s.from
    → AreRooted (steps ++ s ∷ [])
push_rooted steps s h k =
    let more = λ (x : Step). IsRooted (length (steps ++ s ∷ [])) x.from in
    let grown : (n : Node) → IsRooted (length steps) n → IsRooted (length (steps ++ s ∷ [])) n =
    λ n f. subst (λ (i : ℕ). IsRooted i n) (sym (length_push steps s))
    (more_rooted (length steps) n f) in
    all_append more steps (s ∷ [])
    (all_map (λ (x : Step). IsRooted (length steps) x.from) more steps (λ x f. grown x.from f) h)
    (grown s.from k, tt)

put_rooted_case : (steps : List Step) (s : Step) → AreRooted steps → IsRooted (length steps) s.from
    → IsThere (same_step s) steps s ⊎ IsNew (same_step s) steps s → AreRooted (with_step steps s)
put_rooted_case steps s h k (inl f) = subst AreRooted (sym f.same) h
put_rooted_case steps s h k (inr f) = subst AreRooted (sym f.more) (push_rooted steps s h k)

pub put_rooted : (steps : List Step) (s : Step) → AreRooted steps → IsRooted (length steps) s.from
    → AreRooted (with_step steps s)
put_rooted steps s h k = put_rooted_case steps s h k (there_or_new (same_step s) steps s)

put_below_case : (steps : List Step) (s : Step)
    → IsThere (same_step s) steps s ⊎ IsNew (same_step s) steps s
    → position_or_len (same_step s) steps < length (with_step steps s)
put_below_case steps s (inl h) =
    subst (λ (x : List Step). position_or_len (same_step s) steps < length x) (sym h.same)
    (found_below steps s _ h.place)
put_below_case steps s (inr h) =
    let last = h.last in
    let long = length_push steps s in
    subst (λ (x : List Step). position_or_len (same_step s) steps < length x) (sym h.more)
    (omega (arith, last, long))

pub put_below : (steps : List Step) (s : Step)
    → position_or_len (same_step s) steps < length (with_step steps s)
put_below steps s = put_below_case steps s (there_or_new (same_step s) steps s)

puts_mono : (cs : List IndexColumn) (steps : List Step) (node : Node) (u : ℕ)
    (r : List IndexColumn) (n : Node) → back steps u r ≡ Some n
    → back (with_steps steps node cs) u r ≡ Some n
puts_mono [] steps node u r n e = e
puts_mono (c ∷ cs) steps node u r n e =
    puts_mono cs (with_step steps (step_of node c)) (put_node steps node c) u r n
    (put_mono steps (step_of node c) u r n e)

-- each list that what was put begins with leads somewhere
puts_hit : (a b : List IndexColumn) (steps : List Step) (t : ℕ) (path : List IndexColumn)
    (node : Node) → back steps t path ≡ Some node
    → (n : Node) × (back (with_steps steps node (a ++ b)) t (onto a path) ≡ Some n)
puts_hit [] b steps t path node at = (node, puts_mono b steps node t path node at)
puts_hit (c ∷ a) b steps t path node at =
    puts_hit a b (with_step steps (step_of node c)) t (c ∷ path) (put_node steps node c)
    (put_at steps t path node c at)

-- columns that are the first of some, behind a path
record IsAlong (t : ℕ) (path cs : List IndexColumn) (u : ℕ) (r : List IndexColumn) : Type 0 where
  first : List IndexColumn
  rest : List IndexColumn
  whole : first ++ rest ≡ cs
  table : u ≡ t
  columns : r ≡ onto first path

longer : (t : ℕ) (path cs : List IndexColumn) (c : IndexColumn) (u : ℕ) (r : List IndexColumn)
    → IsAlong t (c ∷ path) cs u r → IsAlong t path (c ∷ cs) u r
longer t path cs c u r h = record {
  first = c ∷ h.first;
  rest = h.rest;
  whole = ap (λ (x : List IndexColumn). c ∷ x) h.whole;
  table = h.table;
  columns = h.columns;
}

added_along : (steps : List Step) (t : ℕ) (path cs : List IndexColumn) (c : IndexColumn) (u : ℕ)
    (r : List IndexColumn) (n : Node) → IsAdded steps t (c ∷ path) u r n
    → IsAlong t path (c ∷ cs) u r
added_along steps t path cs c u r n h = record {
  first = c ∷ [];
  rest = cs;
  whole = refl;
  table = h.table;
  columns = h.columns;
}

puts_step_case : (steps : List Step) (rooted : AreRooted steps) (t : ℕ) (path : List IndexColumn)
    (node : Node) (c : IndexColumn) (cs : List IndexColumn) → back steps t path ≡ Some node
    → (u : ℕ) (r : List IndexColumn) (n : Node)
    → back (with_step steps (step_of node c)) u r ≡ Some n
    → IsThere (same_step (step_of node c)) steps (step_of node c)
    ⊎ IsNew (same_step (step_of node c)) steps (step_of node c)
    → (is_some (back steps u r) ≡ true) ⊎ IsAlong t path (c ∷ cs) u r
puts_step_case steps rooted t path node c cs at u r n e (inl h) =
    inl (ap is_some (sym (ap (λ (x : List Step). back x u r) h.same) ∙ e))
puts_step_case steps rooted t path node c cs at u r n e (inr h) =
    by (sound_step steps rooted t path node c at u r n
    (sym (ap (λ (x : List Step). back x u r) h.more) ∙ e))
  where
    by : (back steps u r ≡ Some n) ⊎ IsAdded steps t (c ∷ path) u r n
        → (is_some (back steps u r) ≡ true) ⊎ IsAlong t path (c ∷ cs) u r
    by (inl f) = inl (ap is_some f)
    by (inr f) = inr (added_along steps t path cs c u r n f)

some_of : (o : Option Node) → is_some o ≡ true → (n : Node) × (o ≡ Some n)
some_of None e = absurd (cc)
some_of (Some n) e = (n, refl)

-- what leads somewhere after a list is put did before, or is what that list begins with
puts_sound : (cs : List IndexColumn) (steps : List Step) (rooted : AreRooted steps) (t : ℕ)
    (path : List IndexColumn) (node : Node) → back steps t path ≡ Some node
    → (u : ℕ) (r : List IndexColumn) → is_some (back (with_steps steps node cs) u r) ≡ true
    → (is_some (back steps u r) ≡ true) ⊎ IsAlong t path cs u r
puts_sound [] steps rooted t path node at u r e = inl e
puts_sound (c ∷ cs) steps rooted t path node at u r e =
    by (puts_sound cs (with_step steps (step_of node c))
    (put_rooted steps (step_of node c) rooted (rooted_node steps t path node at)) t (c ∷ path)
    (put_node steps node c) (put_at steps t path node c at) u r e)
  where
    by : (is_some (back (with_step steps (step_of node c)) u r) ≡ true)
        ⊎ IsAlong t (c ∷ path) cs u r
        → (is_some (back steps u r) ≡ true) ⊎ IsAlong t path (c ∷ cs) u r
    by (inl f) =
        let some = some_of (back (with_step steps (step_of node c)) u r) f in
        puts_step_case steps rooted t path node c cs at u r some.0 some.1
        (there_or_new (same_step (step_of node c)) steps (step_of node c))
    by (inr h) = inr (longer t path cs c u r h)

prefix_step : (c d : IndexColumn) (cs ds : List IndexColumn) → c ≡ d
    → (rest : List IndexColumn) × (cs ++ rest ≡ ds)
    → (rest : List IndexColumn) × ((c ∷ cs) ++ rest ≡ d ∷ ds)
prefix_step c d cs ds e h = let same = h.1 in (h.0, cc)

prefix_is : (cs ds : List IndexColumn)
    → is_prefix (map plain_index_column cs) (map plain_index_column ds) ≡ true
    → (rest : List IndexColumn) × (cs ++ rest ≡ ds)
prefix_is [] ds e = (ds, refl)
prefix_is (c ∷ cs) [] e = absurd (cc)
prefix_is (c ∷ cs) (d ∷ ds) e =
    let here = same_entry (plain_index_column c) (plain_index_column d) in
    prefix_step c d cs ds (entry_is c d (and_left here _ e)) (prefix_is cs ds (and_right here _ e))

prefix_of : (cs rest : List IndexColumn)
    → is_prefix (map plain_index_column cs) (map plain_index_column (cs ++ rest)) ≡ true
prefix_of [] rest = refl
prefix_of (c ∷ cs) rest = both_true _ _ (entry_same c) (prefix_of cs rest)

turn : (a b c : Bool) → (a || (b || c)) ≡ (b || (a || c))
turn true true c = refl
turn true false c = refl
turn false b c = refl

served_push : (table : ℕ) (columns : List plain.IndexColumn) (known : List Index) (index : Index)
    → is_served table columns (known ++ index ∷ [])
    ≡ (((index.table == table) && is_prefix columns index.columns) || is_served table columns known)
served_push table columns [] index = refl
served_push table columns (first ∷ known) index =
    ap (λ (b : Bool). ((first.table == table) && is_prefix columns first.columns) || b)
    (served_push table columns known index)
    ∙ turn ((first.table == table) && is_prefix columns first.columns)
    ((index.table == table) && is_prefix columns index.columns) (is_served table columns known)

reached_is : (steps : List Step) (table : ℕ) (columns : List IndexColumn)
    → reached steps table columns ≡ back steps table (onto columns [])
reached_is steps table columns = leads_back steps table columns []

module _ (steps : List Step) (known : List Index) (t : ℕ) (cs : List IndexColumn)
    (rooted : AreRooted steps) (serves : Serves steps known) where
  abbrev seen : List IndexColumn → List plain.IndexColumn
  seen q = map plain_index_column q

  abbrev new : List Step
  new = with_steps steps (Table t) cs

  abbrev here : ℕ → List IndexColumn → Bool
  here u q = (t == u) && is_prefix (seen q) (seen cs)

  before : (u : ℕ) (q : List IndexColumn)
      → is_some (back steps u (onto q [])) ≡ is_served u (seen q) known
  before u q = sym (ap is_some (reached_is steps u q)) ∙ serves.same u q

  forth : (u : ℕ) (q : List IndexColumn)
      → (is_some (back steps u (onto q [])) ≡ true) ⊎ IsAlong t [] cs u (onto q [])
      → (here u q || is_served u (seen q) known) ≡ true
  forth u q (inl e) = or_later (here u q) _ (sym (before u q) ∙ e)
  forth u q (inr a) =
      let same : q ≡ a.first =
      sym (onto_twice q) ∙ ap (λ (x : List IndexColumn). onto x []) a.columns
      ∙ onto_twice a.first in
      or_first (here u q) _
      (both_true (t == u) _ (eq-eqb t u (sym a.table))
      (subst (λ (x : List IndexColumn). is_prefix (seen x) (seen cs) ≡ true) (sym same)
      (subst (λ (x : List IndexColumn). is_prefix (seen a.first) (seen x) ≡ true) a.whole
      (prefix_of a.first a.rest))))

  hit : (u : ℕ) (q rest : List IndexColumn) → t ≡ u → q ++ rest ≡ cs
      → is_some (back new u (onto q [])) ≡ true
  hit u q rest e f =
      let found = puts_hit q rest steps t [] (Table t) refl in
      subst (λ (v : ℕ). is_some (back new v (onto q [])) ≡ true) e
      (subst (λ (x : List IndexColumn).
      is_some (back (with_steps steps (Table t) x) t (onto q [])) ≡ true) f
      (ap is_some found.1))

  kept : (u : ℕ) (q : List IndexColumn) → is_some (back steps u (onto q [])) ≡ true
      → is_some (back new u (onto q [])) ≡ true
  kept u q e =
      let some = some_of (back steps u (onto q [])) e in
      ap is_some (puts_mono cs steps (Table t) u (onto q []) some.0 some.1)

  back_in : (u : ℕ) (q : List IndexColumn) → (here u q || is_served u (seen q) known) ≡ true
      → is_some (back new u (onto q [])) ≡ true
  back_in u q e =
      or_cases (here u q) (is_served u (seen q) known)
      (λ f.
      let prefix = prefix_is q cs (and_right (t == u) _ f) in
      hit u q prefix.0 (eqb-true t u (and_left (t == u) _ f)) prefix.1)
      (λ f. kept u q (before u q ∙ f)) e

  served : (u : ℕ) (q : List IndexColumn) → is_some (reached new u q)
      ≡ is_served u (seen q) (known ++ record { table = t; columns = seen cs } ∷ [])
  served u q =
      ap is_some (reached_is new u q)
      ∙ alike (is_some (back new u (onto q []))) (here u q || is_served u (seen q) known)
      (λ e. forth u q (puts_sound cs steps rooted t [] (Table t) refl u (onto q []) e))
      (back_in u q)
      ∙ sym (served_push u (seen q) known (record { table = t; columns = seen cs }))

  -- what the tree says is served after an index is added
  pub serves_more : Serves new (known ++ record { table = t; columns = seen cs } ∷ [])
  serves_more = record { same = served }
