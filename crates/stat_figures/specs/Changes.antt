-- Where members of a list differ from those before them, and in how many columns rows agree.
use Rattle.std.specs.Prelude.{ℕ, ◌+◌, Bool, cond, List, [], ◌∷◌}
use Rattle.std.specs.Ordering.{is_eq}
use Rattle.sql_meaning.specs.Values.{value_cmp}
use Rattle.sql_meaning.specs.Rows.{Row, site_value, AtColumn}
use Rattle.sql_meaning.specs.Schemas.{IndexColumn}

-- in how many columns, from the first on, two rows agree
abbrev pub shared_columns : List IndexColumn → Row → Row → ℕ
shared_columns [] a b = 0
shared_columns (c ∷ cs) a b =
    cond
    (is_eq
    (value_cmp c.collation (site_value (AtColumn c.column) a) (site_value (AtColumn c.column) b)))
    (1 + shared_columns cs a b) 0

-- how many members behind x aren't the same as the one before them
abbrev pub changes : {X : Type 0} → (X → X → Bool) → X → List X → ℕ
changes same x [] = 0
changes same x (y ∷ ys) = cond (same x y) 0 1 + changes same y ys

abbrev pub begins : {X : Type 0} → (X → X → Bool) → List X → ℕ
begins same [] = 0
begins same (x ∷ xs) = 1 + changes same x xs
