-- Rows in the order of keys that are evaluated beforehand.
use Rattle.std.specs.Prelude.{ℕ, ◌+◌, List, [], ◌∷◌, map, slice_index_or}
use Rattle.std.specs.declared.cmp.Ordering.{Ordering}
use Rattle.std.specs.declared.cmp.Ordering.TheVariants.{Equal}
use Rattle.std.specs.Ordering.{ordering_then}
use Rattle.sql_meaning.specs.Values.{Value, Null, value_cmp}
use Rattle.sql_meaning.specs.Rows.{Assignment}
use Rattle.sql_meaning.specs.Evaluation.{ev}
use Rattle.sql_meaning.specs.IndexLists.{directed}
use Rattle.sql_meaning.specs.Schemas.{Database}
use Rattle.sql_meaning.specs.Statements.{SortKey}
use Rattle.sql_eval.specs.Environments.{placed}
use Rattle.sql_eval.specs.declared.environment.Place.{Place}

-- the value of each key
abbrev pub key_values : List SortKey → List Value → Assignment → List Value
key_values keys params env = map (λ k. ev env params k.expr) keys

-- the order of the values of a number under a key; a value that isn't there is NULL
abbrev pub value_cmp_at : SortKey → ℕ → List Value → List Value → Ordering
value_cmp_at k number vs ws =
    directed k.falling (value_cmp k.collation) (slice_index_or vs number Null)
    (slice_index_or ws number Null)

-- by each key in turn, the first one for the values of this number
abbrev pub values_cmp_from : ℕ → List SortKey → List Value → List Value → Ordering
values_cmp_from number [] vs ws = Equal
values_cmp_from number (k ∷ ks) vs ws =
    ordering_then (value_cmp_at k number vs ws) (values_cmp_from (number + 1) ks vs ws)

abbrev pub values_cmp : List SortKey → List Value → List Value → Ordering
values_cmp = values_cmp_from 0

-- values of keys beside the places that they are of
abbrev pub Pair : Type 0
Pair = List Value × List Place

abbrev pub keyed_by : Database → List SortKey → List Value → List Place → Pair
keyed_by database keys params places =
    (key_values keys params (placed database places), places)

abbrev pub pairs_cmp : List SortKey → Pair → Pair → Ordering
pairs_cmp keys a b = values_cmp keys a.0 b.0
