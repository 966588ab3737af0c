-- Candidates that are added to a schema one by one.
use Rattle.std.specs.List.{AllByRecursion}
use Rattle.std.proofs.Common.{◌≡◌, ◌<◌, ◌≤◌, ◌^◌, ℕ, ◌+◌, Bool, true, false, ◌||◌, List, []}
use Rattle.std.proofs.Common.{◌∷◌, ◌++◌, map, length, take, refl, ap, sym, ◌∙◌, subst, arith}
use Rattle.std.proofs.Common.{append-nil, append_assoc}
use Rattle.std.proofs.lemmas.List.{map-append, length-map, length_push}
use Rattle.std.proofs.lemmas.List.Folds.{list_any-append}
use Rattle.list_laws.proofs.Lists.{all_map}
use Rattle.sql_meaning.specs.Letters.{folded_bytes}
use Rattle.plan_choice.specs.NameLaws.{AreFree}
use Rattle.plan_choice.proofs.FreeNames.{candidate_names_are_free}
use Rattle.schema_model.specs.Names.{has_name, is_name}
use Rattle.schema_model.specs.PlainSchemas.{plain_index}
use Rattle.schema_model.specs.Schemas.{Schema, is_taken, index_names, table_names, unread_names}
use Rattle.schema_model.specs.Schemas.{size, with_index, all_names, IsIndexOf}
use Rattle.schema_model.specs.declared.indexes.Index.{Index}
use Rattle.candidate_index.specs.Known.{IsCandidateOf}
use Rattle.candidate_index.specs.Naming.{naming, taken_with}
use Rattle.candidate_index.proofs.Additions.{drop_first}
use Rattle.candidate_index.proofs.TakenNames.{taken_is, taken_length, taken_next}
use Rattle.expert_advice.specs.Full.{AreCandidatesOf, IsFull, with_candidates}

-- the name of each is free where those before it are added
abbrev pub FreeIn : Schema → List Index → Type 0
FreeIn s [] = Unit {0}
FreeIn s (c ∷ cs) = (is_taken s (folded_bytes c.name) ≡ false) × FreeIn (with_index s c) cs

last_first : (a b c d : Bool) → a || (b || (c || d)) ≡ d || (a || (b || c))
last_first true b c true = refl
last_first true b c false = refl
last_first false true c true = refl
last_first false true c false = refl
last_first false false true true = refl
last_first false false true false = refl
last_first false false false true = refl
last_first false false false false = refl

-- names of candidates are taken beside those of the schema
taken_more : (s : Schema) (done : List Index) (n : List ℕ)
    → is_taken (with_candidates s done) n ≡ has_name n (index_names done) || is_taken s n
taken_more s done n =
    let t = has_name n (table_names s.tables) in
    let u = has_name n (unread_names s.unread) in
    ap (λ (names : List (List ℕ)). t || (u || has_name n names))
    (map-append (λ (i : Index). folded_bytes i.name) s.indexes done)
    ∙ ap (λ (b : Bool). t || (u || b))
    (list_any-append (is_name n) (index_names s.indexes) (index_names done))
    ∙ last_first t u (has_name n (index_names s.indexes)) (has_name n (index_names done))

added : (s : Schema) (done : List Index) (c : Index)
    → with_index (with_candidates s done) c ≡ with_candidates s (done ++ c ∷ [])
added s done c =
    ap (λ (is : List Index). record { tables = s.tables; unread = s.unread; indexes = is })
    (append_assoc s.indexes done (c ∷ []))

free_in : (s : Schema) (cs done : List Index)
    → AreFree (taken_with s (index_names done)) (map (λ (c : Index). c.name) cs)
    → FreeIn (with_candidates s done) cs
free_in s [] done free = tt
free_in s (c ∷ cs) done free = (
  taken_more s done (folded_bytes c.name)
      ∙ taken_is s (index_names done) (folded_bytes c.name) ∙ free.0,
  subst (λ (t : Schema). FreeIn t cs) (sym (added s done c))
      (free_in s cs (done ++ c ∷ [])
      (subst (λ (ns : List (List ℕ)). AreFree ns (map (λ (d : Index). d.name) cs))
      (sym (ap (taken_with s) (map-append (λ (d : Index). folded_bytes d.name) done (c ∷ []))
      ∙ taken_next s (index_names done) (folded_bytes c.name))) free.1)),
)

abbrev as_schema : Schema → List Index → Schema
as_schema s indexes = record { tables = s.tables; unread = s.unread; indexes = indexes }

pub with_none : (s : Schema) → with_candidates s [] ≡ s
with_none s = ap (as_schema s) (append-nil s.indexes)

-- a schema on the way to the whole, and the candidates that are left
pub record IsOnTheWay (whole full : Schema) (left : List Index) : Type 0 where
  pub same : with_candidates full left ≡ whole
  pub free : FreeIn full left
  pub sound : AllByRecursion (IsCandidateOf full.tables) left
  pub room : size full + length left ≤ 2 ^ 31

pub begins : (s : Schema) (cs : List Index) → AreCandidatesOf s cs → size s < 10 ^ 9
    → IsOnTheWay (with_candidates s cs) s cs
begins s cs h few = record {
  same = refl;
  free = subst (λ (t : Schema). FreeIn t cs) (with_none s)
      (free_in s cs []
      (subst (AreFree (all_names s)) (sym h.names)
      (let taken = taken_length s [] in let seen = length-map cs plain_index in
      candidate_names_are_free (naming s) (map plain_index cs)
      (omega (arith, taken, seen, few, h.few)))));
  sound = h.sound;
  room = omega (arith, few, h.few);
}

pub goes_on : (whole full next : Schema) (c : Index) (left : List Index)
    → IsOnTheWay whole full (c ∷ left) → next ≡ with_index full c → IsOnTheWay whole next left
goes_on whole full next c left h e =
    subst (λ (t : Schema). IsOnTheWay whole t left) (sym e)
    (record {
      same = ap (as_schema full) (append_assoc full.indexes (c ∷ []) left) ∙ h.same;
      free = h.free.1;
      sound = h.sound.1;
      room = let more = length_push full.indexes c in omega (arith, more, h.room);
    })

pub ends : (whole full : Schema) → IsOnTheWay whole full [] → full ≡ whole
ends whole full h = sym (with_none full) ∙ h.same

take_first : {X : Type 0} (xs ys : List X) → take (length xs) (xs ++ ys) ≡ xs
take_first [] ys = refl
take_first {X} (x ∷ xs) ys = ap (λ (zs : List X). x ∷ zs) (take_first xs ys)

pub is_full : (s : Schema) (cs : List Index) → AreCandidatesOf s cs
    → IsFull s (with_candidates s cs)
is_full s cs h = record {
  tables = refl;
  own = take_first s.indexes cs;
  plain = subst (AllByRecursion (λ (i : Index). i.unique ≡ false)) (sym (drop_first s.indexes cs))
      (all_map _ _ cs (λ c i. i.unique) h.sound);
}

-- a candidate of few columns may be added
pub is_index : (full : Schema) (c copy : Index) → IsCandidateOf full.tables c → copy ≡ c
    → length copy.columns < 2 ^ 32 → IsIndexOf full.tables copy
is_index full c copy h e few =
    subst (IsIndexOf full.tables) (sym e)
    (record {
      table = h.table;
      columns = h.columns;
      few = subst (λ (i : Index). length i.columns < 2 ^ 32) e few;
    })
