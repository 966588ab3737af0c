-- The keys whose stretches equality parts take.
use Rattle.std.specs.Prelude.{List, [], ◌∷◌, cond, map, Vec}
use Rattle.std.specs.Global.{Global}
use Rattle.sql_meaning.specs.Values as plain
use Rattle.sql_meaning.specs.Values.{Null, is_null}
use Rattle.sql_meaning.specs.IndexLists.{SortColumn}
use Rattle.sql_meaning.specs.Walks.{Part, One, Many, NullPart, walked_keys}
use Rattle.sql_value.specs.View.{plain_value}
use Rattle.sql_value.specs.declared.values.Value.{Value}
use denote.Ref.{Bor}

abbrev pub lent_values : List (Bor Value) → List plain.Value
lent_values values = map (λ value. plain_value value.now) values

abbrev pub lent_keys : List (Vec (Bor Value) Global) → List (List plain.Value)
lent_keys lists = map (λ keys. lent_values keys.items) lists

-- in the order of the column; no value is equal to NULL, but IS NULL takes the NULLs
abbrev pub keys_of : SortColumn → Part → List plain.Value
keys_of s (One key) = cond (is_null key) [] (key ∷ [])
keys_of s (Many keys) = walked_keys s keys
keys_of s NullPart = Null ∷ []

-- for each column that a part stands on
abbrev pub keys_for : List SortColumn → List Part → List (List plain.Value)
keys_for [] parts = []
keys_for (s ∷ ss) [] = []
keys_for (s ∷ ss) (part ∷ parts) = keys_of s part ∷ keys_for ss parts
