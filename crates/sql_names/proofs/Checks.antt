-- Checks after checks.
use Rattle.std.proofs.Common.{◌≡◌, ◌∙◌, Option, None, Some, Result, Ok, Err}
use Rattle.std.proofs.Common.{List, [], ◌∷◌, ◌++◌, refl}
use Rattle.sql_names.specs.Faults.{first_failing, Answers}
use Rattle.sql_names.specs.declared.faults.BindFault.{BindFault}
use Rattle.sql_names.specs.declared.faults.BindFault.TheVariants.{Memory}

pub passed_first : (xs ys : List (Option BindFault)) → first_failing xs ≡ None
    → first_failing (xs ++ ys) ≡ first_failing ys
passed_first [] ys h = refl
passed_first (None ∷ xs) ys h = passed_first xs ys h
passed_first (Some fault ∷ xs) ys h = absurd (cc)

pub failed_first : (fault : BindFault) (xs ys : List (Option BindFault))
    → first_failing xs ≡ Some fault → first_failing (xs ++ ys) ≡ Some fault
failed_first fault [] ys h = absurd (cc)
failed_first fault (None ∷ xs) ys h = failed_first fault xs ys h
failed_first fault (Some other ∷ xs) ys h = h

-- the first failing check of a front is that of the whole
pub fails_through : (fault : BindFault) (xs ys : List (Option BindFault))
    → ((fault ≡ Memory → ⊥) → first_failing xs ≡ Some fault)
    → (fault ≡ Memory → ⊥) → first_failing (xs ++ ys) ≡ Some fault
fails_through fault xs ys h other = failed_first fault xs ys (h other)

-- where a front passes, the first failing check of the rest is that of the whole
pub fails_after : (fault : BindFault) (xs ys : List (Option BindFault)) → first_failing xs ≡ None
    → ((fault ≡ Memory → ⊥) → first_failing ys ≡ Some fault)
    → (fault ≡ Memory → ⊥) → first_failing (xs ++ ys) ≡ Some fault
fails_after fault xs ys passed h other = rw (passed_first xs ys passed) (h other)

pub both_pass : (xs ys : List (Option BindFault)) → first_failing xs ≡ None
    → first_failing ys ≡ None → first_failing (xs ++ ys) ≡ None
both_pass xs ys h k = rw (passed_first xs ys h) k

-- what is said of the checks that come after some that pass
pub answers_after : {X Y : Type 0} (view : X → Y) (r : Result X BindFault)
    (xs ys : List (Option BindFault)) (meant whole : Y) → first_failing xs ≡ None → meant ≡ whole
    → Answers view r ys meant → Answers view r (xs ++ ys) whole
answers_after view (Ok x) xs ys meant whole passed is h = (both_pass xs ys passed h.0, h.1 ∙ is)
answers_after view (Err fault) xs ys meant whole passed is h = fails_after fault xs ys passed h

pub passed_both : (xs ys : List (Option BindFault)) → first_failing (xs ++ ys) ≡ None
    → (first_failing xs ≡ None) × (first_failing ys ≡ None)
passed_both [] ys h = (refl, h)
passed_both (None ∷ xs) ys h = passed_both xs ys h
passed_both (Some fault ∷ xs) ys h = absurd (cc)
