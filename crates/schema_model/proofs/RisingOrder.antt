-- Rowids rise where each is above the one before it.
use Rattle.std.proofs.Common.{◌≡◌, ◌↔◌, ℕ, zero, suc, ◌+◌, ◌<◌, ℤ, int_lt, true, false, List, []}
use Rattle.std.proofs.Common.{◌∷◌, length, drop, get_or, Option, None, Some, refl, sym, ap, subst}
use Rattle.std.proofs.Common.{◌∙◌, arith}
use Rattle.std.specs.List.{AllByRecursion}
use Rattle.std.specs.Cmp.{int_cmp_total}
use Rattle.std.specs.Ordering.{int_cmp}
use Rattle.std.specs.declared.cmp.Ordering.TheVariants.{Less}
use Rattle.std.proofs.lemmas.Int.{ints}
use Rattle.sql_meaning.specs.Rows.{Row}
use Rattle.sql_meaning.specs.Schemas.{RisingRows}
use Rattle.schema_model.specs.PlainSchemas.{plain_row, plain_rows}
use Rattle.schema_model.specs.RisingRowids.{follows}
use Rattle.schema_model.specs.declared.rows.Row as code
use Rattle.list_laws.proofs.Lists.{all_map}

abbrev Precedes : ℤ → Row → Type 0
Precedes rowid later = int_cmp rowid later.rowid ≡ Less

-- all stand behind the last one so far, by rising rowid
abbrev pub RiseAfter : Option ℤ → List Row → Type 0
RiseAfter None rows = RisingRows rows
RiseAfter (Some last) rows = AllByRecursion (Precedes last) rows × RisingRows rows

less : (a b : ℤ) → int_lt a b ≡ true → int_cmp a b ≡ Less
less a b e = grind (arith, ints)

not_less : (a b : ℤ) → int_lt a b ≡ false → int_cmp a b ≡ Less → ⊥
not_less a b e f = grind (arith, ints)

pub rise_on : (last : Option ℤ) (row : Row) (rows : List Row) → follows last row.rowid ≡ true
    → RiseAfter last (row ∷ rows) ↔ RiseAfter (Some row.rowid) rows
rise_on None row rows e = (λ h. h, λ h. h)
rise_on (Some last) row rows e =
    let first = less last row.rowid e in (
      λ h. h.1,
      λ h. (
        (
          first,
          all_map (Precedes row.rowid) (Precedes last) rows
              (λ later. int_cmp_total.trans last row.rowid later.rowid first) h.0,
        ),
        h,
      ),
    )

pub rise_no_more : (last : Option ℤ) (row : Row) (rows : List Row) → follows last row.rowid ≡ false
    → RiseAfter last (row ∷ rows) → ⊥
rise_no_more None row rows e h = absurd (cc)
rise_no_more (Some last) row rows e h = not_less last row.rowid e h.0.0

at_next : (rows : List code.Row) (i : ℕ) (row : code.Row) → i < length rows
    → row ≡ get_or rows i row
    → plain_rows (drop i rows) ≡ plain_row row ∷ plain_rows (drop (i + 1) rows)
at_next [] i row h e = absurd (omega (arith, h))
at_next (r ∷ rs) zero row h e = rw e refl
at_next (r ∷ rs) (suc i) row h e =
    let next : suc i + 1 ≡ suc (i + 1) = omega arith in
    at_next rs i row (omega (arith, h)) e
    ∙ ap (λ (n : ℕ). plain_row row ∷ plain_rows (drop n (r ∷ rs))) (sym next)

-- from one row to the next
pub risen : (R : Type 0) (last : Option ℤ) (rows : List code.Row) (i : ℕ) (row : code.Row)
    → i < length rows → row ≡ get_or rows i row → follows last row.rowid ≡ true
    → RiseAfter last (plain_rows (drop i rows)) ↔ R
    → RiseAfter (Some row.rowid) (plain_rows (drop (i + 1) rows)) ↔ R
risen R last rows i row h e f before =
    let step = rise_on last (plain_row row) (plain_rows (drop (i + 1) rows)) f in
    let here = subst (λ (l : List Row). RiseAfter last l ↔ R) (at_next rows i row h e) before in
    (λ a. here.0 (step.1 a), λ r. step.0 (here.1 r))
