-- A bound statement, and its rows: what the statement asks for, without any plan.
use Rattle.std.specs.Prelude.{ℕ, Option, Bool, ℤ, List, false, ◌||◌, ◌==◌, [], ◌∷◌, true, ◌&&◌}
use Rattle.std.specs.Prelude.{Some, None, slice_get, not, slice_index_or, cond, map, zero, suc, ◌+◌}
use Rattle.std.specs.Prelude.{length, replicate, ◌≡◌, pos, negsuc, take, drop}
use Rattle.std.specs.List.{filter, AllByRecursion}
use Rattle.list_laws.specs.Nest.{place, product}
use Rattle.sql_meaning.specs.Expressions.{BExpr}
use Rattle.sql_meaning.specs.Values.{Collation, Value, Null, Int, Dec, Text, Blob}
use Rattle.sql_meaning.specs.Items.{Item, FitsExpr}
use Rattle.sql_meaning.specs.Rows.{Assignment, Row, AtRowid, cell}
use Rattle.sql_meaning.specs.Evaluation.{holds, param_value, ev}
use Rattle.sql_meaning.specs.Schemas.{Schema, alias_of, Database}

-- a conjunct of the ON condition of a LEFT JOIN is owned by that item; every other one is common
pub record Conjunct : Type 0 where
  pub expr : BExpr
  pub owner : Option ℕ

-- a key of ORDER BY
pub record SortKey : Type 0 where
  pub expr : BExpr
  pub collation : Collation
  pub falling : Bool

-- LIMIT or OFFSET: a number, or a parameter
pub data Cut : Type 0 where
  Count : (n : ℤ) → Cut
  Given : (number : ℕ) → Cut

-- `rowids` for UPDATE and DELETE, whose result is the rowids of the rows that they change
pub record Bound : Type 0 where
  pub items : List Item
  pub rowids : Bool
  pub results : List BExpr
  pub conjuncts : List Conjunct
  pub keys : List SortKey
  pub limit : Option Cut
  pub offset : Option Cut

abbrev pub has_number : ℕ → List ℕ → Bool
has_number n [] = false
has_number n (m ∷ ms) = (n == m) || has_number n ms

abbrev pub all_in : List ℕ → List ℕ → Bool
all_in [] ms = true
all_in (n ∷ ns) ms = has_number n ms && all_in ns ms

abbrev pub is_empty : List ℕ → Bool
is_empty [] = true
is_empty (n ∷ ns) = false

abbrev pub left_item : Option Item → Bool
left_item None = false
left_item (Some item) = item.left

abbrev pub is_left : Bound → ℕ → Bool
is_left bound item = left_item (slice_get bound.items item)

abbrev pub owned_by : ℕ → Option ℕ → Bool
owned_by item None = false
owned_by item (Some owner) = owner == item

abbrev pub no_owner : Option ℕ → Bool
no_owner None = true
no_owner (Some owner) = false

abbrev pub is_common : Conjunct → Bool
is_common c = no_owner c.owner

-- each conjunct that is chosen holds
abbrev pub chosen_hold : (Conjunct → Bool) → List Value → List Conjunct → Assignment → Bool
chosen_hold chosen params [] env = true
chosen_hold chosen params (c ∷ cs) env =
    (not (chosen c) || holds env params c.expr) && chosen_hold chosen params cs env

-- one of the conjuncts that are chosen does not hold
pub record SomeFails (chosen : Conjunct → Bool) (params : List Value) (conjuncts : List Conjunct)
    (env : Assignment) : Type 0
  where
    pub number : ℕ
    pub conjunct : Conjunct
    pub is : slice_get conjuncts number ≡ Some conjunct
    pub is_chosen : chosen conjunct ≡ true
    pub fails : holds env params conjunct.expr ≡ false

-- the missing row stands where there is no row
abbrev pub or_missing : List (Option Row) → List (Option Row)
or_missing [] = None ∷ []
or_missing (x ∷ xs) = x ∷ xs

abbrev pub table_of : Option Item → ℕ
table_of None = 0
table_of (Some item) = item.table

abbrev pub item_rows : Database → Bound → ℕ → List Row
item_rows database bound item = slice_index_or database (table_of (slice_get bound.items item)) []

-- the rows of an item for given rows of the items to its left: each row of its table; of a LEFT
-- item each row on which its own conjuncts hold, and the missing row where there is no such row
abbrev pub choices : Database → Bound → List Value → ℕ → Assignment → List (Option Row)
choices database bound params item env =
    cond (is_left bound item)
    (or_missing
    (filter
    (λ x. chosen_hold (λ c. owned_by item c.owner) params bound.conjuncts (place env item x))
    (map Some (item_rows database bound item)))) (map Some (item_rows database bound item))

abbrev pub numbers_from : ℕ → ℕ → List ℕ
numbers_from start zero = []
numbers_from start (suc n) = start ∷ numbers_from (start + 1) n

abbrev pub no_rows : Bound → Assignment
no_rows bound = replicate (length bound.items) None

-- one row of each item, in every way, kept where each common conjunct holds (lang_select)
abbrev pub statement_rows : Bound → Database → List Value → List Assignment
statement_rows bound database params =
    filter (chosen_hold is_common params bound.conjuncts)
    (product (choices database bound params) (numbers_from 0 (length bound.items)) (no_rows bound))

abbrev pub item_alias : Schema → Bound → ℕ → Option ℕ
item_alias schema bound item =
    alias_of (slice_get schema.tables (table_of (slice_get bound.items item)))

abbrev pub exprs_of : List Conjunct → List BExpr
exprs_of cs = map (λ c. c.expr) cs

-- each conversion in the conjuncts is the one that its operands ask for
abbrev pub FitsStatement : Schema → Bound → Type 0
FitsStatement schema bound =
    AllByRecursion (λ c. FitsExpr schema bound.items c.expr) bound.conjuncts

-- each owner is a LEFT item
abbrev pub OwnersAreLeft : Bound → Type 0
OwnersAreLeft bound =
    AllByRecursion
    (λ c. (owner : ℕ) → c.owner ≡ Some owner → is_left bound owner ≡ true) bound.conjuncts

abbrev pub int_of : Value → Option ℤ
int_of Null = None
int_of (Int n) = Some n
int_of (Dec u) = None
int_of (Text t) = None
int_of (Blob b) = None

abbrev pub cut_value : List Value → Option Cut → Option ℤ
cut_value params None = None
cut_value params (Some (Count n)) = Some n
cut_value params (Some (Given number)) = int_of (param_value params number)

-- a LIMIT that is negative or no Int makes no cut; such an OFFSET counts as 0
abbrev pub take_cut : {X : Type 0} → Option ℤ → List X → List X
take_cut None xs = xs
take_cut (Some (pos n)) xs = take n xs
take_cut (Some (negsuc n)) xs = xs

abbrev pub drop_cut : {X : Type 0} → Option ℤ → List X → List X
drop_cut None xs = xs
drop_cut (Some (pos n)) xs = drop n xs
drop_cut (Some (negsuc n)) xs = xs

-- the rows that OFFSET and LIMIT leave of a list
abbrev pub cut : {X : Type 0} → Bound → List Value → List X → List X
cut bound params list =
    take_cut (cut_value params bound.limit) (drop_cut (cut_value params bound.offset) list)

-- the result of an assignment: the values of a SELECT, or the rowid that UPDATE and DELETE change
abbrev pub image : Bound → List Value → Assignment → List Value
image bound params env =
    cond bound.rowids (cell env 0 AtRowid ∷ []) (map (ev env params) bound.results)
