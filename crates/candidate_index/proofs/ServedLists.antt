-- Indexes that serve the same lists leave the same candidates.
use Rattle.std.proofs.Common.{◌≡◌, ℕ, Bool, true, false, cond, List, [], ◌∷◌, ◌++◌, ◌==◌, ◌&&◌}
use Rattle.std.proofs.Common.{◌||◌, map, length, drop, refl, ap, sym, ◌∙◌, append_assoc}
use Rattle.std.proofs.lemmas.List.{append-nil}
use Rattle.std.specs.List.{AllByRecursion, filter}
use Rattle.list_laws.proofs.Bools.{or_later}
use Rattle.sql_meaning.specs.Schemas as plain
use Rattle.plan_choice.specs.Scans as asked
use Rattle.plan_choice.specs.Candidates.{is_prefix, is_served, add_list, add_lists}
use Rattle.plan_choice.specs.Candidates.{with_candidates, lists_of}
use Rattle.schema_model.specs.PlainSchemas.{plain_index, plain_index_column, plain_schema}
use Rattle.schema_model.specs.Schemas.{Schema}
use Rattle.schema_model.specs.UsableIndexes.{IsEmptyUnlessUsable}
use Rattle.schema_model.specs.declared.indexes.Index.{Index}
use Rattle.candidate_index.specs.Known.{usable, UnusableServeNothing}
use Rattle.candidate_index.proofs.Additions.{drop_first}

-- every index serves the empty list
served_empty : (t : ℕ) (cs : List plain.IndexColumn) (ks : List plain.Index)
    → length cs == 0 ≡ true → is_served t cs ks ≡ true
served_empty t cs [] e = e
served_empty t cs (k ∷ ks) e =
    or_later ((k.table == t) && is_prefix cs k.columns) (is_served t cs ks) (served_empty t cs ks e)

either : (a b : Bool) → (a ≡ true → b ≡ true) → b ≡ (a || b)
either true b f = f refl
either false b f = refl

served_append : (t : ℕ) (cs : List plain.IndexColumn) (ks ms : List plain.Index)
    → is_served t cs (ks ++ ms) ≡ (is_served t cs ks || is_served t cs ms)
served_append t cs [] ms =
    either (length cs == 0) (is_served t cs ms) (served_empty t cs ms)
served_append t cs (k ∷ ks) ms =
    ap (λ b. ((k.table == t) && is_prefix cs k.columns) || b) (served_append t cs ks ms)
    ∙ or_more ((k.table == t) && is_prefix cs k.columns) (is_served t cs ks) (is_served t cs ms)
  where
    or_more : (a b c : Bool) → (a || (b || c)) ≡ ((a || b) || c)
    or_more true b c = refl
    or_more false b c = refl

abbrev ServeAlike : List plain.Index → List plain.Index → Type 0
ServeAlike ks ls =
    (t : ℕ) (cs : List plain.IndexColumn) → is_served t cs ks ≡ is_served t cs ls

-- the same candidates are behind both lists
record AreBehind (ks ls more others : List plain.Index) : Type 0 where
  made : List plain.Index
  first : more ≡ ks ++ made
  second : others ≡ ls ++ made

list_case : (ks ls ms : List plain.Index) (i : plain.Index) (b : Bool)
    → AreBehind ks ls (cond b (ks ++ ms) ((ks ++ ms) ++ i ∷ []))
    (cond b (ls ++ ms) ((ls ++ ms) ++ i ∷ []))
list_case ks ls ms i true = record { made = ms; first = refl; second = refl }
list_case ks ls ms i false = record {
  made = ms ++ i ∷ [];
  first = append_assoc ks ms (i ∷ []);
  second = append_assoc ls ms (i ∷ []);
}

alike_behind : (ks ls ms : List plain.Index) → ServeAlike ks ls → ServeAlike (ks ++ ms) (ls ++ ms)
alike_behind ks ls ms same t cs =
    served_append t cs ks ms
    ∙ ap (λ b. b || is_served t cs ms) (same t cs)
    ∙ sym (served_append t cs ls ms)

list_behind : (ks ls : List plain.Index) → ServeAlike ks ls → (t : ℕ) (cs : List plain.IndexColumn)
    (ms : List plain.Index)
    → AreBehind ks ls (add_list t (ks ++ ms) cs) (add_list t (ls ++ ms) cs)
list_behind ks ls same t cs ms =
    let i : plain.Index = record { table = t; columns = cs } in
    let one = list_case ks ls ms i (is_served t cs (ks ++ ms)) in
    record {
      made = one.made;
      first = one.first;
      second =
          ap (λ b. cond b (ls ++ ms) ((ls ++ ms) ++ i ∷ []))
          (sym (alike_behind ks ls ms same t cs)) ∙ one.second;
    }

lists_behind : (ks ls : List plain.Index) → ServeAlike ks ls → (t : ℕ)
    (lists : List (List plain.IndexColumn)) (ms : List plain.Index)
    → AreBehind ks ls (add_lists t (ks ++ ms) lists) (add_lists t (ls ++ ms) lists)
lists_behind ks ls same t [] ms = record { made = ms; first = refl; second = refl }
lists_behind ks ls same t (cs ∷ lists) ms =
    let one = list_behind ks ls same t cs ms in
    let rest = lists_behind ks ls same t lists one.made in
    record {
      made = rest.made;
      first = ap (λ is. add_lists t is lists) one.first ∙ rest.first;
      second = ap (λ is. add_lists t is lists) one.second ∙ rest.second;
    }

scans_behind : (ks ls : List plain.Index) → ServeAlike ks ls → (ss : List asked.Scan)
    (ms : List plain.Index)
    → AreBehind ks ls (with_candidates (ks ++ ms) ss) (with_candidates (ls ++ ms) ss)
scans_behind ks ls same [] ms = record { made = ms; first = refl; second = refl }
scans_behind ks ls same (s ∷ ss) ms =
    let one = lists_behind ks ls same s.table (lists_of s) ms in
    let rest = scans_behind ks ls same ss one.made in
    record {
      made = rest.made;
      first = ap (λ is. with_candidates is ss) one.first ∙ rest.first;
      second = ap (λ is. with_candidates is ss) one.second ∙ rest.second;
    }

same_behind : (ks ls : List plain.Index) → ServeAlike ks ls → (ss : List asked.Scan)
    → drop (length ks) (with_candidates ks ss) ≡ drop (length ls) (with_candidates ls ss)
same_behind ks ls same ss =
    let both = scans_behind ks ls same ss [] in
    ap (λ is. drop (length ks) (with_candidates is ss)) (sym (append-nil ks))
    ∙ ap (drop (length ks)) both.first ∙ drop_first ks both.made
    ∙ sym
    (ap (λ is. drop (length ls) (with_candidates is ss)) (sym (append-nil ls))
    ∙ ap (drop (length ls)) both.second ∙ drop_first ls both.made)

-- an index without columns serves none but the empty list, which every index serves
bare_serves : (t table : ℕ) (cs : List plain.IndexColumn) (ks : List plain.Index)
    → is_served t cs ks ≡ is_served t cs (record { table = table; columns = [] } ∷ ks)
bare_serves t table [] ks =
    either ((table == t) && true) (is_served t [] ks) (λ e. served_empty t [] ks refl)
bare_serves t table (c ∷ cs) ks =
    ap (λ b. b || is_served t (c ∷ cs) ks) (sym (and_false (table == t)))
  where
    and_false : (b : Bool) → (b && false) ≡ false
    and_false true = refl
    and_false false = refl

usable_case : (i : Index) (is : List Index) (b : Bool) → i.usable ≡ b → IsEmptyUnlessUsable i
    → ServeAlike (usable is) (map plain_index is)
    → ServeAlike (map plain_index (cond b (i ∷ filter (λ index. index.usable) is)
    (filter (λ index. index.usable) is))) (map plain_index (i ∷ is))
usable_case i is true e bare same t cs =
    ap (λ b. ((i.table == t) && is_prefix cs (map plain_index_column i.columns)) || b) (same t cs)
usable_case i is false e bare same t cs =
    same t cs ∙ bare_serves t i.table cs (map plain_index is)
    ∙ ap
    (λ columns. is_served t cs
    (record { table = i.table; columns = map plain_index_column columns } ∷ map plain_index is))
    (sym (bare e))

usable_serve : (is : List Index) → AllByRecursion IsEmptyUnlessUsable is
    → ServeAlike (usable is) (map plain_index is)
usable_serve [] h = λ t cs. refl
usable_serve (i ∷ is) h = usable_case i is i.usable refl h.0 (usable_serve is h.1)

pub unusable_serve_nothing : UnusableServeNothing
unusable_serve_nothing = λ s scans bare.
    same_behind (usable s.indexes) (map plain_index s.indexes) (usable_serve s.indexes bare) scans
