-- A row is found by its rowid, since rowids rise.
use Rattle.std.proofs.Common.{◌≡◌, ◌<◌, ℕ, zero, suc, ℤ, Bool, true, false, Option, Some, List, []}
use Rattle.std.proofs.Common.{◌∷◌, ◌++◌, refl, ap, sym, ◌∙◌, map, length, get_or, arith, subst}
use Rattle.std.proofs.Common.{append_assoc, inl, inr}
use Rattle.std.proofs.lemmas.List.{map_push}
use Rattle.list_laws.proofs.Lists.{all_append}
use Rattle.std.specs.Prelude.{slice_get}
use Rattle.std.specs.List.{AllByRecursion}
use Rattle.std.specs.List.Sorted.{IsPartitionedBy, IsPartitionPoint}
use Rattle.std.specs.Ordering.{int_cmp, is_lt}
use Rattle.std.specs.declared.cmp.Ordering.{Ordering}
use Rattle.std.specs.declared.cmp.Ordering.TheVariants.{Less, Equal, Greater}
use Rattle.std.proofs.lemmas.Cmp.{int_cmp_total, tied_itself}
use Rattle.std.proofs.lemmas.Bool.{cases_order}
use Rattle.sql_meaning.specs.Rows as plain
use Rattle.sql_meaning.specs.Schemas.{RisingRows}
use Rattle.schema_model.specs.PlainSchemas.{plain_row, plain_rows}
use Rattle.schema_model.specs.declared.rows.Row.{Row}
use Rattle.plan_form.specs.LoopRows.{IsRowIn}

abbrev pub stands_before : ℤ → Row → Bool
stands_before rowid row = is_lt (int_cmp row.rowid rowid)

all_at_or : {X Y : Type 0} (P : Y → Type 0) (f : X → Y) (xs : List X) (i : ℕ) (d : X)
    → AllByRecursion P (map f xs) → i < length xs → P (f (get_or xs i d))
all_at_or P f [] i d h lt = absurd (omega (arith, lt))
all_at_or P f (x ∷ xs) zero d h lt = h.0
all_at_or P f (x ∷ xs) (suc i) d h lt = all_at_or P f xs i d h.1 (omega (arith, lt))

rising_at : (rows : List Row) (i j : ℕ) (d : Row) → RisingRows (plain_rows rows) → i < j
    → j < length rows → int_cmp (get_or rows i d).rowid (get_or rows j d).rowid ≡ Less
rising_at [] i j d h lt below = absurd (omega (arith, below))
rising_at (row ∷ rows) i zero d h lt below = absurd (omega (arith, lt))
rising_at (row ∷ rows) zero (suc j) d h lt below =
    all_at_or (λ later. int_cmp row.rowid later.rowid ≡ Less) plain_row rows j d h.0
    (omega (arith, below))
rising_at (row ∷ rows) (suc i) (suc j) d h lt below =
    rising_at rows i j d h.1 (omega (arith, lt)) (omega (arith, below))

lt_less : (o : Ordering) → is_lt o ≡ true → o ≡ Less
lt_less Less h = refl
lt_less Equal h = absurd (cc)
lt_less Greater h = absurd (cc)

before_through : (a b c : ℤ) → int_cmp a b ≡ Less → is_lt (int_cmp b c) ≡ true
    → is_lt (int_cmp a c) ≡ true
before_through a b c h k =
    ap is_lt (int_cmp_total.trans a b c h (lt_less (int_cmp b c) k))

-- the rows before a rowid stand before the others
pub partitioned : (rows : List Row) (rowid : ℤ) → RisingRows (plain_rows rows)
    → IsPartitionedBy (stands_before rowid) rows
partitioned [] rowid rising i j d le below h = absurd (omega (arith, below))
partitioned (row ∷ rows) rowid rising zero zero d le below h = h
partitioned (row ∷ rows) rowid rising zero (suc j) d le below h =
    before_through row.rowid (get_or rows j d).rowid rowid
    (all_at_or (λ later. int_cmp row.rowid later.rowid ≡ Less) plain_row rows j d rising.0
    (omega (arith, below))) h
partitioned (row ∷ rows) rowid rising (suc i) zero d le below h = absurd (omega (arith, le))
partitioned (row ∷ rows) rowid rising (suc i) (suc j) d le below h =
    partitioned rows rowid rising.1 i j d (omega (arith, le)) (omega (arith, below)) h

-- a row that is seen stands somewhere
record StandsAt (rows : List Row) (number : ℕ) (row : plain.Row) : Type 0 where
  pub held : Row
  pub seen : plain_row held ≡ row
  pub below : number < length rows
  pub is : get_or rows number held ≡ held

some_is : {X : Type 0} (x y : X) → Some x ≡ Some y → x ≡ y
some_is x y e = cc

stands_at : (rows : List Row) (number : ℕ) (row : plain.Row)
    → slice_get (plain_rows rows) number ≡ Some row → StandsAt rows number row
stands_at [] number row e = absurd (cc)
stands_at (r ∷ rows) zero row e =
    record { held = r; seen = some_is (plain_row r) row e; below = omega arith; is = refl }
stands_at (r ∷ rows) (suc number) row e =
    let s = stands_at rows number row e in
    let lt : number < length rows = s.below in
    record { held = s.held; seen = s.seen; below = omega (arith, lt); is = s.is }

not_itself : (a b : ℤ) → a ≡ b → is_lt (int_cmp a b) ≡ true → ⊥
not_itself a b e h =
    let equal : int_cmp a b ≡ Equal = ap (λ x. int_cmp x b) e ∙ tied_itself int_cmp_total b in
    let no : is_lt (int_cmp a b) ≡ false = ap is_lt equal in cc

pub found_is : (rows : List Row) (rowid : ℤ) (i : ℕ) → RisingRows (plain_rows rows)
    → IsPartitionPoint (λ y. stands_before rowid y ≡ true) (λ y. stands_before rowid y ≡ false)
    rows i
    → (row : plain.Row) → IsRowIn (plain_rows rows) row → row.rowid ≡ rowid
    → slice_get (plain_rows rows) i ≡ Some row
found_is rows rowid i rising point row member same =
    let k = member.number in
    let s = stands_at rows k row member.is in
    let held_id : (get_or rows k s.held).rowid ≡ rowid =
    ap (λ (r : Row). r.rowid) s.is ∙ ap (λ (r : plain.Row). r.rowid) s.seen ∙ same in
    elim (cases_order k i) [
      | inl e ↦ ap (slice_get (plain_rows rows)) (sym e) ∙ member.is
      | inr (inl lt) ↦
          absurd (not_itself (get_or rows k s.held).rowid rowid held_id
          (point.0 k s.held (omega arith) lt))
      | inr (inr lt) ↦
          absurd
          (let high : i < length rows = let b : k < length rows = s.below in omega (arith, b, lt) in
          let no : stands_before rowid (get_or rows i s.held) ≡ false =
          point.1 i s.held (omega arith) high in
          let yes : stands_before rowid (get_or rows i s.held) ≡ true =
          ap is_lt
          (ap (int_cmp (get_or rows i s.held).rowid) (sym held_id)
          ∙ rising_at rows i k s.held rising lt s.below) in cc)
    ]

get_below : (rows : List Row) (n : ℕ) (row : plain.Row) → slice_get (plain_rows rows) n ≡ Some row
    → n < length rows
get_below [] n row e = absurd (cc)
get_below (r ∷ rows) zero row e = omega arith
get_below (r ∷ rows) (suc n) row e =
    let lt : n < length rows = get_below rows n row e in omega (arith, lt)

pub within_more : (rows : List Row) (old new : List ℕ) (n : ℕ) (row : plain.Row)
    → slice_get (plain_rows rows) n ≡ Some row → new ≡ old ++ n ∷ []
    → AllByRecursion (λ number. number < length rows) old
    → AllByRecursion (λ number. number < length rows) new
within_more rows old new n row at e h =
    subst (λ (l : List ℕ). AllByRecursion (λ number. number < length rows) l) (sym e)
    (all_append (λ number. number < length rows) old (n ∷ []) h (get_below rows n row at, tt))

pub numbers_more : (rows : List plain.Row) (old new : List ℕ) (n : ℕ) (row : plain.Row)
    (rest : List plain.Row) (all : List (Option plain.Row))
    → slice_get rows n ≡ Some row → new ≡ old ++ n ∷ []
    → map (slice_get rows) old ++ map Some (row ∷ rest) ≡ all
    → map (slice_get rows) new ++ map Some rest ≡ all
numbers_more rows old new n row rest all at e h =
    ap (λ l. map (slice_get rows) l ++ map Some rest) e
    ∙ ap (λ l. l ++ map Some rest) (map_push (slice_get rows) old n)
    ∙ append_assoc (map (slice_get rows) old) (slice_get rows n ∷ []) (map Some rest)
    ∙ ap (λ o. map (slice_get rows) old ++ o ∷ map Some rest) at ∙ h
