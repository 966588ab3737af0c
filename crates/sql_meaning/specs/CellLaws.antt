-- Values and walks depend on the values of columns, however an assignment holds these.
use Rattle.std.specs.Prelude.{◌≡◌, ℕ, List}
use Rattle.std.specs.List.{AllByRecursion}
use Rattle.sql_meaning.specs.Values.{Value}
use Rattle.sql_meaning.specs.Rows.{Assignment, Site, Row, cell}
use Rattle.sql_meaning.specs.Schemas.{Schema}
use Rattle.sql_meaning.specs.Expressions.{BExpr, names}
use Rattle.sql_meaning.specs.Evaluation.{ev}
use Rattle.sql_meaning.specs.Paths.{Path, walk}

-- each column of these items has the same value in both
abbrev pub SameCells : List ℕ → Assignment → Assignment → Type 0
SameCells items env a =
    AllByRecursion (λ item. (site : Site) → cell a item site ≡ cell env item site) items

-- assignments with the same values in all columns of the items that an expression names give it the
-- same value
abbrev pub ValuesDependOnCells : Type 0
ValuesDependOnCells =
    (params : List Value) (e : BExpr) (env a : Assignment)
    → SameCells (names e) env a → ev a params e ≡ ev env params e

-- and with the same values in all columns, each path gives the same rows in the same order
abbrev pub WalksDependOnCells : Type 0
WalksDependOnCells =
    (schema : Schema) (params : List Value) (path : Path) (rows : List Row) (env a : Assignment)
    → ((item : ℕ) (site : Site) → cell a item site ≡ cell env item site)
    → walk schema params path rows a ≡ walk schema params path rows env
