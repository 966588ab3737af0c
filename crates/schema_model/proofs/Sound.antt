-- What is added under a name that isn't taken keeps a schema sound.
use Rattle.std.proofs.Common.{◌≡◌, ℕ, zero, suc, ◌<◌, ◌^◌, Bool, true, false, ◌||◌, List, [], ◌∷◌}
use Rattle.std.proofs.Common.{◌++◌, length, refl, ap, sym, ◌∙◌, subst, arith}
use Rattle.std.specs.Cmp.Lexicographic.{same_text}
use Rattle.std.proofs.lemmas.List.{map-append, append_assoc, append-nil, length_push}
use Rattle.std.proofs.lemmas.List.Folds.{list_any-append}
use Rattle.list_laws.proofs.Bools.{or_false_left, or_false_right, neither}
use Rattle.list_laws.proofs.Lists.{all_map, all_push}
use Rattle.sql_meaning.specs.Letters.{folded_bytes}
use Rattle.schema_model.specs.declared.tables.Table.{Table}
use Rattle.schema_model.specs.declared.indexes.Index.{Index}
use Rattle.schema_model.specs.Names.{is_name, has_name, Differ}
use Rattle.schema_model.specs.Schemas.{Schema, table_names, unread_names, index_names, all_names}
use Rattle.schema_model.specs.Schemas.{is_taken, size, with_table, with_unread, with_index}
use Rattle.schema_model.specs.Schemas.{columns_at, IsTable, IsIndexOf, IsSchema}

other_way : (b : Bool) (x n : List ℕ) → is_name x n ≡ b → is_name n x ≡ false → is_name x n ≡ false
other_way false x n e h = e
other_way true x n e h =
    let same = same_text x n (sym e) in
    subst (λ (y : List ℕ). is_name x y ≡ false) same
    (subst (λ (y : List ℕ). is_name y x ≡ false) (sym same) h)

has_between : (x n : List ℕ) (xs ys : List (List ℕ)) → has_name x (xs ++ ys) ≡ false
    → is_name x n ≡ false → has_name x (xs ++ n ∷ ys) ≡ false
has_between x n [] ys h e = neither (is_name x n) _ e h
has_between x n (z ∷ xs) ys h e =
    neither (is_name x z) _ (or_false_left (is_name x z) _ h)
    (has_between x n xs ys (or_false_right (is_name x z) _ h) e)

-- a name that is not there may stand anywhere
pub differ_between : (n : List ℕ) (xs ys : List (List ℕ)) → Differ (xs ++ ys)
    → has_name n (xs ++ ys) ≡ false → Differ (xs ++ n ∷ ys)
differ_between n [] ys d h = (h, d)
differ_between n (x ∷ xs) ys d h = (
  has_between x n xs ys d.0 (other_way (is_name x n) x n refl (or_false_left (is_name n x) _ h)),
  differ_between n xs ys d.1 (or_false_right (is_name n x) _ h),
)

free_name : (s : Schema) (n : List ℕ) → is_taken s n ≡ false → has_name n (all_names s) ≡ false
free_name s n h =
    list_any-append (is_name n) (table_names s.tables) _
    ∙ ap (λ b. has_name n (table_names s.tables) || b)
    (list_any-append (is_name n) (unread_names s.unread) (index_names s.indexes)) ∙ h

pub columns_stay : (tables : List Table) (t : Table) (n : ℕ) → n < length tables
    → columns_at (tables ++ t ∷ []) n ≡ columns_at tables n
columns_stay [] t n h = absurd (omega (arith, h))
columns_stay (x ∷ xs) t zero h = refl
columns_stay (x ∷ xs) t (suc n) h = columns_stay xs t n (omega (arith, h))

index_stays : (tables : List Table) (t : Table) (i : Index) → IsIndexOf tables i
    → IsIndexOf (tables ++ t ∷ []) i
index_stays tables t i h = record {
  table = rw (length_push tables t) (omega (arith, h.table));
  columns = rw (columns_stay tables t i.table h.table) h.columns;
  few = h.few;
}

module _ (s : Schema) (ok : IsSchema s) (room : size s < 2 ^ 31) where
  pub with_table_sound : (t : Table) → is_taken s (folded_bytes t.name) ≡ false → IsTable t
      → IsSchema (with_table s t)
  with_table_sound t free sound =
      let rest = unread_names s.unread ++ index_names s.indexes in
      let same : all_names (with_table s t) ≡ table_names s.tables ++ folded_bytes t.name ∷ rest =
      ap (λ (l : List (List ℕ)). l ++ rest)
      (map-append (λ (x : Table). folded_bytes x.name) s.tables (t ∷ []))
      ∙ append_assoc (table_names s.tables) (folded_bytes t.name ∷ []) rest in
      record {
        differ = subst Differ (sym same)
            (differ_between (folded_bytes t.name) (table_names s.tables) rest ok.differ
            (free_name s (folded_bytes t.name) free));
        few = rw (length_push s.tables t) (omega (arith, room));
        tables = all_push IsTable s.tables t ok.tables sound;
        indexes = all_map (IsIndexOf s.tables) (IsIndexOf (s.tables ++ t ∷ [])) s.indexes
            (index_stays s.tables t) ok.indexes;
      }

  pub with_unread_sound : (n : List ℕ) → is_taken s (folded_bytes n) ≡ false
      → IsSchema (with_unread s n)
  with_unread_sound n free =
      let front = table_names s.tables ++ unread_names s.unread in
      let at : unread_names (s.unread ++ n ∷ []) ++ index_names s.indexes
      ≡ unread_names s.unread ++ folded_bytes n ∷ index_names s.indexes =
      ap (λ (l : List (List ℕ)). l ++ index_names s.indexes)
      (map-append folded_bytes s.unread (n ∷ []))
      ∙ append_assoc (unread_names s.unread) (folded_bytes n ∷ []) (index_names s.indexes) in
      let whole = append_assoc (table_names s.tables) (unread_names s.unread)
      (folded_bytes n ∷ index_names s.indexes) in
      let same = append_assoc (table_names s.tables) (unread_names s.unread) (index_names s.indexes)
      in
      record {
        differ = subst Differ
            (whole ∙ ap (λ (l : List (List ℕ)). table_names s.tables ++ l) (sym at))
            (differ_between (folded_bytes n) front (index_names s.indexes)
            (subst Differ (sym same) ok.differ)
            (ap (has_name (folded_bytes n)) same ∙ free_name s (folded_bytes n) free));
        few = rw (length_push s.unread n) (omega (arith, room));
        tables = ok.tables;
        indexes = ok.indexes;
      }

  pub with_index_sound : (i : Index) → is_taken s (folded_bytes i.name) ≡ false
      → IsIndexOf s.tables i → IsSchema (with_index s i)
  with_index_sound i free sound =
      let n = folded_bytes i.name in
      let front = all_names s in
      let inner : unread_names s.unread ++ index_names (s.indexes ++ i ∷ [])
      ≡ (unread_names s.unread ++ index_names s.indexes) ++ n ∷ [] =
      ap (λ (l : List (List ℕ)). unread_names s.unread ++ l)
      (map-append (λ (x : Index). folded_bytes x.name) s.indexes (i ∷ []))
      ∙ sym (append_assoc (unread_names s.unread) (index_names s.indexes) (n ∷ [])) in
      let same : front ++ [] ≡ front = append-nil front in
      record {
        differ = subst Differ
            (append_assoc (table_names s.tables) (unread_names s.unread ++ index_names s.indexes)
            (n ∷ []) ∙ ap (λ (l : List (List ℕ)). table_names s.tables ++ l) (sym inner))
            (differ_between n front [] (subst Differ (sym same) ok.differ)
            (ap (has_name n) same ∙ free_name s n free));
        few = rw (length_push s.indexes i) (omega (arith, room));
        tables = ok.tables;
        indexes = all_push (IsIndexOf s.tables) s.indexes i ok.indexes sound;
      }
