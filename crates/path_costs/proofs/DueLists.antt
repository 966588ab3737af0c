-- Conjuncts that are due, one further, and how many of them are tested.
use Rattle.std.specs.Prelude.{slice_get, IsSomeAnd, count_by, not, ◌&&◌}
use Rattle.std.proofs.Common.{◌≡◌, ℕ, zero, suc, ◌+◌, Bool, true, false, cond, List, [], ◌∷◌, ◌++◌}
use Rattle.std.proofs.Common.{refl, ap, sym, ◌∙◌, drop, append_assoc, add-one, zero-add}
use Rattle.std.proofs.lemmas.List.Sums.{sum_by-cons}
use Rattle.sql_meaning.specs.Statements.{Conjunct, has_number}
use Rattle.sql_meaning.specs.Conjuncts.{first_at}
use Rattle.plan_choice.specs.Offers.{tested_from}
use Rattle.path_costs.specs.Due.{due_from}

due_step : (placed : List ℕ) (item j n : ℕ) (cs : List Conjunct) (due : Bool)
    → IsSomeAnd (slice_get cs n) (λ c. due ≡ first_at placed item c)
    → due_from placed item j (drop n cs)
    ≡ cond due (j ∷ due_from placed item (suc j) (drop (suc n) cs))
    (due_from placed item (suc j) (drop (suc n) cs))
due_step placed item j n [] due h = absurd h
due_step placed item j zero (c ∷ cs) due h =
    ap
    (λ b. cond b (j ∷ due_from placed item (suc j) cs) (due_from placed item (suc j) cs)) (sym h)
due_step placed item j (suc n) (c ∷ cs) due h = due_step placed item j n cs due h

pushed_case : (due : Bool) (before rest all : List ℕ) (n : ℕ)
    → before ++ cond due (n ∷ rest) rest ≡ all
    → cond due (before ++ n ∷ []) before ++ rest ≡ all
pushed_case true before rest all n h = append_assoc before (n ∷ []) rest ∙ h
pushed_case false before rest all n h = h

pub due_more : (placed : List ℕ) (item n : ℕ) (cs : List Conjunct) (due : Bool)
    (before after all : List ℕ)
    → IsSomeAnd (slice_get cs n) (λ c. due ≡ first_at placed item c)
    → after ≡ cond due (before ++ n ∷ []) before
    → before ++ due_from placed item n (drop n cs) ≡ all
    → after ++ due_from placed item (n + 1) (drop (n + 1) cs) ≡ all
due_more placed item n cs due before after all is pushed h =
    rw add-one
    (ap (λ l. l ++ due_from placed item (suc n) (drop (suc n) cs)) pushed
    ∙ pushed_case due before (due_from placed item (suc n) (drop (suc n) cs)) all n
    (ap (λ l. before ++ l) (sym (due_step placed item n n cs due is)) ∙ h))

counted_case : (p : ℕ → Bool) (due : Bool) (j tested : ℕ) (rest : List ℕ)
    → tested ≡ count_by p rest
    → cond (due && p j) 1 0 + tested ≡ count_by p (cond due (j ∷ rest) rest)
counted_case p true j tested rest h =
    ap (λ n. cond (p j) 1 0 + n) h ∙ sym (sum_by-cons (λ y. cond (p y) 1 0) j rest)
counted_case p false j tested rest h = zero-add tested ∙ h

-- those are tested that are due and not consumed
pub tested_is : (consumed placed : List ℕ) (item j : ℕ) (cs : List Conjunct)
    → tested_from consumed placed item j cs
    ≡ count_by (λ n. not (has_number n consumed)) (due_from placed item j cs)
tested_is consumed placed item j [] = refl
tested_is consumed placed item j (c ∷ cs) =
    counted_case (λ n. not (has_number n consumed)) (first_at placed item c) j _ _
    (tested_is consumed placed item (suc j) cs)
