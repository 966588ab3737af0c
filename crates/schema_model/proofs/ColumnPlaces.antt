-- A column that comes last is found under its name, where no earlier one has that name.
use Rattle.std.proofs.Common.{◌≡◌, ℕ, ◌+◌, ◌≤◌, nat_lt, eqb, Bool, true, false, cond, List, [], ◌∷◌}
use Rattle.std.proofs.Common.{◌++◌, length, position, Option, None, Some, is_some, refl, ap, sym}
use Rattle.std.proofs.Common.{◌∙◌, arith, not, subst}
use Rattle.std.specs.List.{position_or_len}
use Rattle.std.specs.Map.{lookup}
use Rattle.std.specs.Cmp.Lexicographic.{same_text}
use Rattle.std.proofs.lemmas.List.{length_push}
use Rattle.std.proofs.lemmas.List.Folds.{position_or_len_push}
use Rattle.std.proofs.lemmas.List.Sums.{prefix_len-le-length}
use Rattle.std.specs.Global.{Vec}
use Rattle.sql_meaning.specs.Letters.{folded_bytes}
use Rattle.schema_model.specs.Names.{is_name}
use Rattle.schema_model.specs.Columns.{has_column_name}
use Rattle.schema_model.specs.declared.columns.Column.{Column}

abbrev pub or_else : {X : Type 0} → Option X → Option X → Option X
or_else None other = other
or_else (Some x) other = Some x

lookup_step : {X : Type 0} (b : Bool) (x : X) (found pushed last : Option X)
    → pushed ≡ or_else found last → cond b (Some x) pushed ≡ or_else (cond b (Some x) found) last
lookup_step true x found pushed last h = refl
lookup_step false x found pushed last h = h

lookup_push : {K X : Type 0} (test : K → Bool) (es : List (K × X)) (e : K × X)
    → lookup test (es ++ e ∷ []) ≡ or_else (lookup test es) (cond (test e.0) (Some e.1) None)
lookup_push test [] e = refl
lookup_push test (f ∷ es) e = lookup_step (test f.0) f.1 _ _ _ (lookup_push test es e)

position_end : (n len : ℕ) (b : Bool) → n ≤ len
    → cond (nat_lt (cond (eqb n len) (len + cond b 0 1) n) (len + 1))
    (Some (cond (eqb n len) (len + cond b 0 1) n)) None
    ≡ or_else (cond (nat_lt n len) (Some n) None) (cond b (Some len) None)
position_end n len true h = grind arith
position_end n len false h = grind arith

pub position_push : {X : Type 0} (test : X → Bool) (xs : List X) (x : X)
    → position test (xs ++ x ∷ [])
    ≡ or_else (position test xs) (cond (test x) (Some (length xs)) None)
position_push test xs x =
    rw (position_or_len_push test xs x, length_push xs x)
    (position_end (position_or_len test xs) (length xs) (test x)
    (prefix_len-le-length (λ y. not (test y)) xs))

abbrev pub finds : List (Vec ℕ × ℕ) → List ℕ → Option ℕ
finds es name = lookup (λ key. is_name name key.items) es

abbrev pub found_under : List (Vec ℕ × ℕ) → List ℕ → Bool
found_under es name = is_some (finds es name)

pub is_none : {X : Type 0} (o : Option X) → is_some o ≡ false → o ≡ None
is_none None h = refl
is_none (Some x) h = absurd (cc)

module _ (es : List (Vec ℕ × ℕ)) (columns : List Column) (column : Column)
    (kept : (name : List ℕ) → finds es name ≡ position (has_column_name name) columns) where
  -- the name stands earlier
  there_step : (name : List ℕ) (b : Bool) → is_name name (folded_bytes column.name) ≡ b
      → found_under es (folded_bytes column.name) ≡ true
      → finds es name ≡ or_else (finds es name) (cond b (Some (length columns)) None)
  there_step name true e h =
      by (finds es name) (subst (λ (n : List ℕ). found_under es n ≡ true)
      (sym (same_text name (folded_bytes column.name) (sym e))) h)
    where
      by : (o : Option ℕ) → is_some o ≡ true → o ≡ or_else o (Some (length columns))
      by None h = absurd (cc)
      by (Some k) h = refl
  there_step name false e h = by (finds es name)
    where
      by : (o : Option ℕ) → o ≡ or_else o None
      by None = refl
      by (Some k) = refl

  pub stands_earlier : found_under es (folded_bytes column.name) ≡ true → (name : List ℕ)
      → finds es name ≡ position (has_column_name name) (columns ++ column ∷ [])
  stands_earlier h name =
      there_step name (is_name name (folded_bytes column.name)) refl h
      ∙ ap (λ o. or_else o
      (cond (is_name name (folded_bytes column.name)) (Some (length columns)) None)) (kept name)
      ∙ sym (position_push (has_column_name name) columns column)

  pub stands_last : (key : Vec ℕ) → key.items ≡ folded_bytes column.name → (name : List ℕ)
      → finds (es ++ (key, length columns) ∷ []) name
      ≡ position (has_column_name name) (columns ++ column ∷ [])
  stands_last key is name =
      lookup_push (λ k. is_name name k.items) es (key, length columns)
      ∙ ap (λ o. or_else o (cond (is_name name key.items) (Some (length columns)) None)) (kept name)
      ∙ ap (λ n. or_else (position (has_column_name name) columns)
      (cond (is_name name n) (Some (length columns)) None)) is
      ∙ sym (position_push (has_column_name name) columns column)
