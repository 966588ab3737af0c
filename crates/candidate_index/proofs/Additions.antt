-- What is added to the indexes that are known: lists one after the other, and never fewer.
use Rattle.std.proofs.Common.{◌≡◌, ℕ, ◌<◌, ◌≤◌, Bool, true, false, cond, List, [], ◌∷◌, ◌++◌}
use Rattle.std.proofs.Common.{map, length, drop, reverse, refl, ap, sym, ◌∙◌, subst, arith}
use Rattle.std.proofs.Common.{append_assoc, length-append, length-drop}
use Rattle.std.specs.List.{AllByRecursion}
use Rattle.std.proofs.lemmas.List.{map-append, length-map, length_push}
use mathlib.Core.List.{reverse-cons}
use Rattle.list_laws.proofs.Lists.{all_append}
use Rattle.sql_meaning.specs.Letters.{folded_bytes}
use Rattle.sql_meaning.specs.Schemas as plain
use Rattle.plan_choice.specs.Scans as asked
use Rattle.plan_choice.specs.Candidates.{is_served, add_list, add_lists, with_candidates, lists_of}
use Rattle.plan_choice.specs.Candidates.{candidate_limit}
use Rattle.plan_choice.specs.CandidateNames.{Naming, candidate_name, names_from, candidate_names}
use Rattle.schema_model.specs.PlainSchemas.{plain_index}
use Rattle.schema_model.specs.Schemas.{Schema, all_names}
use Rattle.schema_model.specs.declared.indexes.Index.{Index}
use Rattle.candidate_index.specs.Beginnings.{Serves}
use Rattle.candidate_index.specs.Faults.{IsWhy}
use Rattle.candidate_index.specs.Known.{usable_indexes, behind_usable, IsCandidateOf}
use Rattle.candidate_index.specs.Naming.{naming, taken_with}
use Rattle.candidate_index.specs.Searches.{known, Finds}
use Rattle.candidate_index.specs.declared.found.CandidateFault.{CandidateFault}
use Rattle.candidate_index.specs.declared.found.CandidateFault.TheVariants.{TooMany, Memory}
use Rattle.candidate_index.specs.declared.search.Search.{Search}

list_grows_case : (t : ℕ) (known : List plain.Index) (cs : List plain.IndexColumn) (b : Bool)
    → is_served t cs known ≡ b → length known ≤ length (add_list t known cs)
list_grows_case t known cs true e =
    subst (λ (b : Bool). length known
    ≤ length (cond b known (known ++ record { table = t; columns = cs } ∷ []))) (sym e)
    (omega arith)
list_grows_case t known cs false e =
    let long = length_push known (record { table = t; columns = cs }) in
    subst (λ (b : Bool). length known
    ≤ length (cond b known (known ++ record { table = t; columns = cs } ∷ []))) (sym e)
    (omega (arith, long))

pub list_grows : (t : ℕ) (known : List plain.Index) (cs : List plain.IndexColumn)
    → length known ≤ length (add_list t known cs)
list_grows t known cs = list_grows_case t known cs (is_served t cs known) refl

pub lists_grow : (t : ℕ) (lists : List (List plain.IndexColumn)) (known : List plain.Index)
    → length known ≤ length (add_lists t known lists)
lists_grow t [] known = omega arith
lists_grow t (cs ∷ lists) known =
    let first = list_grows t known cs in
    let rest = lists_grow t lists (add_list t known cs) in
    omega (arith, first, rest)

pub scans_grow : (ss : List asked.Scan) (known : List plain.Index)
    → length known ≤ length (with_candidates known ss)
scans_grow [] known = omega arith
scans_grow (s ∷ ss) known =
    let first = lists_grow s.table (lists_of s) known in
    let rest = scans_grow ss (add_lists s.table known (lists_of s)) in
    omega (arith, first, rest)

pub lists_append : (t : ℕ) (xs ys : List (List plain.IndexColumn)) (known : List plain.Index)
    → add_lists t known (xs ++ ys) ≡ add_lists t (add_lists t known xs) ys
lists_append t [] ys known = refl
lists_append t (x ∷ xs) ys known = lists_append t xs ys (add_list t known x)

pub scans_append : (xs ys : List asked.Scan) (known : List plain.Index)
    → with_candidates known (xs ++ ys) ≡ with_candidates (with_candidates known xs) ys
scans_append [] ys known = refl
scans_append (x ∷ xs) ys known = scans_append xs ys (add_lists x.table known (lists_of x))

-- where there are too many already, there are too many in the end
pub why_grows : (s : Schema) (all more : List plain.Index) (fault : CandidateFault)
    → length all ≤ length more → IsWhy (behind_usable s all) fault
    → IsWhy (behind_usable s more) fault
why_grows s all more TooMany l h =
    let a = length-drop (length (usable_indexes s)) all in
    let b = length-drop (length (usable_indexes s)) more in
    omega (arith, a, b, l, h)
why_grows s all more Memory l h = tt

pub why_memory : (all : List plain.Index) (fault : CandidateFault) → fault ≡ Memory
    → IsWhy all fault
why_memory all fault e = subst (IsWhy all) (sym e) tt

pub drop_first : {X : Type 0} (xs ys : List X) → drop (length xs) (xs ++ ys) ≡ ys
drop_first [] ys = refl
drop_first (x ∷ xs) ys = drop_first xs ys

pub behind_known : (schema : Schema) (s : Search)
    → behind_usable schema (known schema s) ≡ map plain_index s.found
behind_known schema s = drop_first (usable_indexes schema) (map plain_index s.found)

pub too_many : (schema : Schema) (s : Search) (index : plain.Index)
    → candidate_limit ≤ length s.found
    → IsWhy (behind_usable schema (known schema s ++ index ∷ [])) TooMany
too_many schema s index l =
    let all = known schema s in
    let long = length-drop (length (usable_indexes schema)) (all ++ index ∷ []) in
    let push = length_push all index in
    let both = length-append (usable_indexes schema) (map plain_index s.found) in
    let seen = length-map s.found plain_index in
    omega (arith, long, push, both, seen, l)

pub known_more : (schema : Schema) (old new : Search) (index : Index)
    → new.found ≡ old.found ++ index ∷ []
    → known schema new ≡ known schema old ++ plain_index index ∷ []
known_more schema old new index e =
    ap (λ (x : List Index). usable_indexes schema ++ map plain_index x) e
    ∙ ap (λ (x : List plain.Index). usable_indexes schema ++ x)
    (map-append plain_index old.found (index ∷ []))
    ∙ sym (append_assoc (usable_indexes schema) (map plain_index old.found)
    (plain_index index ∷ []))

pub served_kept : (schema : Schema) (s : Search) (t : ℕ) (cs : List plain.IndexColumn)
    → is_served t cs (known schema s) ≡ true
    → known schema s ≡ add_list t (known schema s) cs
served_kept schema s t cs e =
    sym (ap (λ (b : Bool). cond b (known schema s)
    (known schema s ++ record { table = t; columns = cs } ∷ [])) e)

pub unserved_added : (t : ℕ) (known : List plain.Index) (cs : List plain.IndexColumn)
    → is_served t cs known ≡ false
    → known ++ record { table = t; columns = cs } ∷ [] ≡ add_list t known cs
unserved_added t known cs e =
    sym (ap (λ (b : Bool). cond b known (known ++ record { table = t; columns = cs } ∷ [])) e)

-- names one after the other
abbrev after_names : Naming → List (List ℕ) → List plain.Index → List (List ℕ)
after_names n taken is = reverse (map folded_bytes (names_from n taken is)) ++ taken

after_step : (f : List ℕ) (fs taken : List (List ℕ))
    → reverse (f ∷ fs) ++ taken ≡ reverse fs ++ (f ∷ taken)
after_step f fs taken =
    ap (λ (x : List (List ℕ)). x ++ taken) (reverse-cons f fs)
    ∙ append_assoc (reverse fs) (f ∷ []) taken

names_push : (n : Naming) (taken : List (List ℕ)) (is : List plain.Index) (i : plain.Index)
    → names_from n taken (is ++ i ∷ [])
    ≡ names_from n taken is ++ candidate_name n (after_names n taken is) i ∷ []
names_push n taken [] i = refl
names_push n taken (j ∷ is) i =
    let name = candidate_name n taken j in
    let first = folded_bytes name in
    ap (λ (x : List (List ℕ)). name ∷ x) (names_push n (first ∷ taken) is i)
    ∙ ap (λ (x : List (List ℕ)). name ∷ (names_from n (first ∷ taken) is
    ++ candidate_name n x i ∷ []))
    (sym (after_step first (map folded_bytes (names_from n (first ∷ taken) is)) taken))

map_twice : {X Y Z : Type 0} (f : X → Y) (g : Y → Z) (xs : List X)
    → map g (map f xs) ≡ map (λ x. g (f x)) xs
map_twice f g [] = refl
map_twice {X} {Y} {Z} f g (x ∷ xs) = ap (λ (zs : List Z). g (f x) ∷ zs) (map_twice f g xs)

abbrev name_of : Index → List ℕ
name_of c = c.name

abbrev folded_name : Index → List ℕ
folded_name c = folded_bytes c.name

pub finds_more : (schema : Schema) (old new : Search) (index : Index) → Finds schema old
    → new.found ≡ old.found ++ index ∷ []
    → new.names ≡ old.names ++ folded_bytes index.name ∷ []
    → ((all : List plain.Index) → Serves old.beginnings all
    → Serves new.beginnings (all ++ plain_index index ∷ []))
    → index.name ≡ candidate_name (naming schema) (taken_with schema old.names) (plain_index index)
    → IsCandidateOf schema.tables index → length old.found < candidate_limit → Finds schema new
finds_more schema old new index finds e f g named sound few =
    let n = naming schema in
    let before = map plain_index old.found in
    let taken : taken_with schema old.names ≡ after_names n (all_names schema) before =
    ap (λ (x : List (List ℕ)). reverse x ++ all_names schema)
    (finds.taken ∙ sym (map_twice name_of folded_bytes old.found)
    ∙ ap (map folded_bytes) finds.names) in
    record {
      beginnings =
          subst (λ (x : List plain.Index). Serves new.beginnings x)
          (sym (known_more schema old new index e)) (g (known schema old) finds.beginnings);
      names =
          ap (map name_of) e ∙ map-append name_of old.found (index ∷ [])
          ∙ ap (λ (x : List (List ℕ)). x ++ index.name ∷ []) finds.names
          ∙ ap (λ (x : List ℕ). candidate_names n before ++ x ∷ [])
          (named ∙ ap (λ (x : List (List ℕ)). candidate_name n x (plain_index index)) taken)
          ∙ sym (names_push n (all_names schema) before (plain_index index))
          ∙ sym (ap (λ (x : List plain.Index). candidate_names n x)
          (ap (map plain_index) e ∙ map-append plain_index old.found (index ∷ [])));
      taken =
          f ∙ ap (λ (x : List (List ℕ)). x ++ folded_bytes index.name ∷ []) finds.taken
          ∙ sym (ap (map folded_name) e ∙ map-append folded_name old.found (index ∷ []));
      sound =
          subst (λ (x : List Index). AllByRecursion (IsCandidateOf schema.tables) x) (sym e)
          (all_append (IsCandidateOf schema.tables) old.found (index ∷ []) finds.sound (sound, tt));
      few =
          let long = length_push old.found index in
          subst (λ (x : List Index). length x ≤ candidate_limit) (sym e)
          (omega (arith, long, few));
    }
