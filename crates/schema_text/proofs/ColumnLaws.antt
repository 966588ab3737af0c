-- The columns of a table that is read: at most 2,000, of names that differ.
use Rattle.std.proofs.Common.{◌≡◌, ℕ, zero, suc, ◌+◌, ◌<◌, ◌||◌, Bool, true, false, not, cond}
use Rattle.std.proofs.Common.{nat_lt, nat_le, List, [], ◌∷◌, ◌++◌, length, position, Option, None}
use Rattle.std.proofs.Common.{Some, is_some, option_and_then, refl, ap, sym, ◌∙◌, subst, arith}
use Rattle.std.specs.List.{list_any, position_or_len}
use Rattle.std.proofs.lemmas.List.{map-append, append-nil, length_push, length-append}
use Rattle.sql_meaning.specs.Letters.{folded_bytes}
use Rattle.sql_tokens.specs.declared.token.Token.{Token}
use Rattle.schema_model.specs.Names.{is_name, has_name, Differ}
use Rattle.schema_model.specs.Columns.{has_column_name, column_names}
use Rattle.schema_model.specs.declared.columns.Column.{Column}
use Rattle.schema_model.proofs.NameKeys.{list_any-map}
use Rattle.schema_model.proofs.Sound.{differ_between}
use Rattle.schema_text.specs.TableFacts.{AreColumns}
use Rattle.schema_model.specs.Columns.{as_rowid}
use Rattle.schema_model.specs.Schemas.{column_limit}
use Rattle.schema_model.proofs.RowidColumns.{length_kept}
use Rattle.schema_text.specs.TableTexts.{with_alias}
use Rattle.schema_text.specs.Keys.{is_constraint}
use Rattle.schema_text.specs.ColumnTexts.{column_of}
use Rattle.schema_text.specs.TableTexts.{with_column, with_item, columns_from, columns_of}
use Rattle.schema_text.specs.TableTexts.{is_of_type, integer_flag, integer_flags}

any_step : (b r : Bool) (n len : ℕ) → r ≡ nat_lt n len
    → (b || r) ≡ nat_lt (cond (not b) (1 + n) 0) (suc len)
any_step true r n len h = grind arith
any_step false r n len h = let next : 1 + n ≡ suc n = omega arith in rw next (h ∙ same n len)
  where
    same : (n m : ℕ) → nat_lt n m ≡ nat_lt (suc n) (suc m)
    same n m = grind arith

pub any_place : {X : Type 0} (p : X → Bool) (xs : List X)
    → list_any p xs ≡ nat_lt (position_or_len p xs) (length xs)
any_place p [] = refl
any_place p (x ∷ xs) =
    any_step (p x) (list_any p xs) (position_or_len p xs) (length xs) (any_place p xs)

some_or_none : (b : Bool) (n : ℕ) → is_some (cond b (Some n) None) ≡ b
some_or_none true n = refl
some_or_none false n = refl

pub is_found : {X : Type 0} (p : X → Bool) (xs : List X) → is_some (position p xs) ≡ list_any p xs
is_found p xs = some_or_none (nat_lt (position_or_len p xs) (length xs)) (position_or_len p xs)
    ∙ sym (any_place p xs)

or_left : (a b : Bool) → (a || b) ≡ false → a ≡ false
or_left true b e = e
or_left false b e = refl

or_right : (a b : Bool) → (a || b) ≡ false → b ≡ false
or_right true b e = absurd (cc)
or_right false b e = e

below : (m n : ℕ) → nat_le m n ≡ false → n < m
below m n h = grind arith

pushed : (cs : List Column) (c : Column) → AreColumns cs
    → (nat_le column_limit (length cs)
    || is_some (position (has_column_name (folded_bytes c.name)) cs))
    ≡ false → AreColumns (cs ++ c ∷ [])
pushed cs c ok e =
    let name = folded_bytes c.name in
    let free : has_name name (column_names cs) ≡ false =
    list_any-map (λ (x : Column). folded_bytes x.name) (is_name name) cs
    ∙ sym (is_found (has_column_name name) cs) ∙ or_right _ _ e in
    let fewer = below column_limit (length cs) (or_left _ _ e) in
    record {
      few = rw (length_push cs c) (omega (arith, fewer));
      differ = subst Differ (sym (map-append (λ (x : Column). folded_bytes x.name) cs (c ∷ [])))
          (differ_between name (column_names cs) []
          (subst Differ (sym (append-nil (column_names cs))) ok.differ)
          (ap (has_name name) (append-nil (column_names cs)) ∙ free));
    }

abbrev Grown : List Column → ℕ → Option (List Column) → Type 0
Grown cs more None = Unit {0}
Grown cs more (Some ds) = AreColumns ds × (length ds ≡ length cs + more)

grown_column : (cs : List Column) (c : Column) (b : Bool)
    → (nat_le column_limit (length cs)
    || is_some (position (has_column_name (folded_bytes c.name)) cs)) ≡ b
    → AreColumns cs → Grown cs 1 (cond b None (Some (cs ++ c ∷ [])))
grown_column cs c true e ok = tt
grown_column cs c false e ok = (pushed cs c ok e, length_push cs c)

grown_item : (text : List ℕ) (cs : List Column) (item : List Token) (b : Bool) (o : Option Column)
    → AreColumns cs
    → Grown cs (length (cond b [] (is_of_type text [] item ∷ [])))
    (cond b (Some cs) (option_and_then (λ c. with_column cs c) o))
grown_item text cs item true o ok = (ok, omega arith)
grown_item text cs item false None ok = tt
grown_item text cs item false (Some c) ok =
    grown_column cs c (nat_le column_limit (length cs)
    || is_some (position (has_column_name (folded_bytes c.name)) cs)) refl ok

flag_count : (b x y : Bool) → length (cond b [] (x ∷ [])) ≡ length (cond b [] (y ∷ []))
flag_count true x y = refl
flag_count false x y = refl

further : (text : List ℕ) (items : List (List Token)) (cs : List Column) (n : ℕ)
    (o : Option (List Column))
    → ((ds : List Column) → AreColumns ds
    → Grown ds (length (integer_flags text items)) (columns_from text ds items))
    → Grown cs n o → Grown cs (n + length (integer_flags text items))
    (option_and_then (λ ds. columns_from text ds items) o)
further text items cs n None rest g = tt
further text items cs n (Some ds) rest g = counted (columns_from text ds items) (rest ds g.0)
  where
    counted : (o : Option (List Column)) → Grown ds (length (integer_flags text items)) o
        → Grown cs (n + length (integer_flags text items)) o
    counted None h = tt
    counted (Some es) h = (h.0, omega (arith, h.1, g.1))

pub grown : (text : List ℕ) (items : List (List Token)) (cs : List Column) → AreColumns cs
    → Grown cs (length (integer_flags text items)) (columns_from text cs items)
grown text [] cs ok = (ok, omega arith)
grown text (item ∷ items) cs ok =
    let flag = flag_count (is_constraint text item) (is_of_type text [] item) _ in
    let first = subst (λ (n : ℕ). Grown cs n (with_item text cs item)) flag
    (grown_item text cs item (is_constraint text item) (column_of text item) ok) in
    rw (length-append (integer_flag text item) (integer_flags text items))
    (further text items cs (length (integer_flag text item)) (with_item text cs item)
    (λ ds h. grown text items ds h) first)

pub columns_sound : (text : List ℕ) (items : List (List Token)) (ds : List Column)
    → columns_of text items ≡ Some ds
    → AreColumns ds × (length ds ≡ length (integer_flags text items))
columns_sound text items ds e =
    let h = subst (λ (o : Option (List Column)). Grown [] (length (integer_flags text items)) o) e
    (grown text items [] (record { few = omega arith; differ = tt })) in
    (h.0, omega (arith, h.1))

names_kept : (columns : List Column) (n : ℕ)
    → column_names (as_rowid columns n) ≡ column_names columns
names_kept [] n = refl
names_kept (c ∷ cs) zero = refl
names_kept (c ∷ cs) (suc n) =
    ap (λ (names : List (List ℕ)). folded_bytes c.name ∷ names) (names_kept cs n)

pub alias_length : (columns : List Column) (alias : Option ℕ)
    → length (with_alias columns alias) ≡ length columns
alias_length columns None = refl
alias_length columns (Some n) = length_kept columns n

pub alias_sound : (columns : List Column) (alias : Option ℕ) → AreColumns columns
    → AreColumns (with_alias columns alias)
alias_sound columns None ok = ok
alias_sound columns (Some n) ok =
    record { few = rw (length_kept columns n) ok.few; differ = rw (names_kept columns n) ok.differ }
