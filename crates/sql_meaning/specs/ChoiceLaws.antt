-- Scans and the chosen seeks and unions are offers, so the laws of paths and plans hold of them.
use Rattle.std.specs.Prelude.{◌≡◌, ℕ, Bool, false, true, List, [], Some, slice_get}
use Rattle.sql_meaning.specs.Expressions.{BExprs, Any}
use Rattle.sql_meaning.specs.Schemas.{Schema}
use Rattle.sql_meaning.specs.Paths.{TableScan, IndexScan, Union}
use Rattle.sql_meaning.specs.Statements.{Bound, Conjunct, FitsStatement, has_number, item_alias}
use Rattle.sql_meaning.specs.Statements.{table_of}
use Rattle.sql_meaning.specs.Fitting.{IsIndexOf}
use Rattle.sql_meaning.specs.Conjuncts.{may_serve}
use Rattle.sql_meaning.specs.UsedTerms.{AllOf, AnyOf}
use Rattle.sql_meaning.specs.Offers.{IsOffer}
use Rattle.sql_meaning.specs.OrderState.{columns_at}
use Rattle.sql_meaning.specs.Choices.{Seek, rowid_offer, seek_offer, consumed_of, paths_of}
use Rattle.sql_meaning.specs.Choices.{used_of}
use Rattle.sql_meaning.specs.TermLists.{item_terms, OffersBranches}

abbrev pub TableScansAreOffers : Type 0
TableScansAreOffers =
    (schema : Schema) (bound : Bound) (placed : List ℕ) (item : ℕ) (reverse : Bool)
    → FitsStatement schema bound → has_number item placed ≡ false
    → IsOffer schema bound placed
    (record { item = item; path = TableScan; reverse = reverse; consumed = [] }) (AllOf [])

abbrev pub IndexScansAreOffers : Type 0
IndexScansAreOffers =
    (schema : Schema) (bound : Bound) (placed : List ℕ) (item index : ℕ) (reverse : Bool)
    → FitsStatement schema bound → has_number item placed ≡ false
    → IsIndexOf schema (table_of (slice_get bound.items item)) index
    → IsOffer schema bound placed
    (record { item = item; path = IndexScan index; reverse = reverse; consumed = [] }) (AllOf [])

abbrev pub RowidSeeksAreOffers : Type 0
RowidSeeksAreOffers =
    (schema : Schema) (bound : Bound) (placed : List ℕ) (item : ℕ) (reverse : Bool) (o : Seek)
    → FitsStatement schema bound → has_number item placed ≡ false
    → rowid_offer placed (item_terms schema bound item) ≡ Some o
    → IsOffer schema bound placed
    (record { item = item; path = o.path; reverse = reverse; consumed = consumed_of o.used })
    (AllOf o.used)

abbrev pub IndexSeeksAreOffers : Type 0
IndexSeeksAreOffers =
    (schema : Schema) (bound : Bound) (placed : List ℕ) (item index : ℕ) (reverse : Bool)
    (o : Seek)
    → FitsStatement schema bound → has_number item placed ≡ false
    → IsIndexOf schema (table_of (slice_get bound.items item)) index
    → seek_offer placed (item_alias schema bound item) (item_terms schema bound item) index
    (columns_at (slice_get schema.indexes index)) ≡ Some o
    → IsOffer schema bound placed
    (record { item = item; path = o.path; reverse = reverse; consumed = consumed_of o.used })
    (AllOf o.used)

abbrev pub UnionsAreOffers : Type 0
UnionsAreOffers =
    (schema : Schema) (bound : Bound) (placed : List ℕ) (item : ℕ) (reverse : Bool) (number : ℕ)
    (c : Conjunct) (branches : BExprs) (os : List Seek)
    → FitsStatement schema bound → has_number item placed ≡ false
    → slice_get bound.conjuncts number ≡ Some c → may_serve bound item c ≡ true
    → c.expr ≡ Any branches → OffersBranches schema bound c placed item number branches os
    → IsOffer schema bound placed
    (record { item = item; path = Union (paths_of os); reverse = reverse; consumed = [] })
    (AnyOf (used_of os))
