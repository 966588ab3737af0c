-- What a condition depends on, and that conjuncts say what their conditions say.
use Rattle.std.specs.Prelude.{◌≡◌, ℕ, Bool, List, Option}
use Rattle.list_laws.specs.Nest.{Agree}
use Rattle.sql_meaning.specs.Values.{Value}
use Rattle.sql_meaning.specs.Rows.{Assignment}
use Rattle.sql_meaning.specs.Expressions.{BExpr, names}
use Rattle.sql_meaning.specs.Evaluation.{ev}
use Rattle.sql_meaning.specs.Statements.{Conjunct, chosen_hold}
use Rattle.sql_meaning.specs.Conjuncts.{conjuncts_of}

-- assignments that agree on the items that an expression names give it the same value
abbrev pub ValuesDependOnNamedItems : Type 0
ValuesDependOnNamedItems =
    (params : List Value) (e : BExpr) (env a : Assignment)
    → Agree (names e) env a → ev a params e ≡ ev env params e

-- for each choice of owners, the conditions hold exactly where their conjuncts do
abbrev pub ConjunctsSayTheirConditions : Type 0
ConjunctsSayTheirConditions =
    (chosen : Option ℕ → Bool) (params : List Value) (conditions : List Conjunct)
    (env : Assignment)
    → chosen_hold (λ c. chosen c.owner) params (conjuncts_of conditions) env
    ≡ chosen_hold (λ c. chosen c.owner) params conditions env
