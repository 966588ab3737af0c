-- Which conjuncts can first be evaluated with an item.
use Rattle.std.specs.Prelude.{ℕ, suc, cond, List, [], ◌∷◌}
use Rattle.sql_meaning.specs.Statements.{Conjunct}
use Rattle.sql_meaning.specs.Conjuncts.{first_at}

-- the numbers of those, of conjuncts that are numbered from j on
abbrev pub due_from : List ℕ → ℕ → ℕ → List Conjunct → List ℕ
due_from placed item j [] = []
due_from placed item j (c ∷ cs) =
    cond (first_at placed item c) (j ∷ due_from placed item (suc j) cs)
    (due_from placed item (suc j) cs)
