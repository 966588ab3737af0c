-- A seek by equality parts is the seek by the keys that the parts stand for.
use Rattle.std.proofs.Common.{◌≡◌, ◌≤◌, ℕ, Bool, true, false, cond, List, [], ◌∷◌, ◌++◌}
use Rattle.std.proofs.Common.{length, map, drop, refl, ap, sym, ◌∙◌, append-nil}
use Rattle.std.specs.Prelude.{Option}
use Rattle.std.specs.List.{flat_map}
use Rattle.list_laws.proofs.Lists.{flat_map_same}
use Rattle.list_laws.proofs.Turns.{past_end}
use Rattle.sql_meaning.specs.Values.{Value, Null, is_null}
use Rattle.sql_meaning.specs.Rows.{Row}
use Rattle.sql_meaning.specs.IndexLists.{SortColumn}
use Rattle.sql_meaning.specs.Walks.{End, Part, One, Many, NullPart, key_stretch, seek, walked_keys}
use Rattle.path_walks.specs.Keys.{keys_for}
use Rattle.path_walks.specs.Seeks.{seek_keys}

one_key : (b : Bool) (key : Value) (f : Value → List Row)
    → cond b [] (f key) ≡ flat_map f (cond b [] (key ∷ []))
one_key true key f = refl
one_key false key f = sym (append-nil (f key))

pub seek_is_by_keys : (ss : List SortColumn) (parts : List Part) (low high : Option End)
    (rows : List Row) → seek ss parts low high rows ≡ seek_keys ss (keys_for ss parts) low high rows
seek_is_by_keys [] parts low high rows = refl
seek_is_by_keys (s ∷ ss) [] low high rows = refl
seek_is_by_keys (s ∷ ss) (One key ∷ parts) low high rows =
    ap (λ l. cond (is_null key) [] l) (seek_is_by_keys ss parts low high (key_stretch s key rows))
    ∙ one_key (is_null key) key
    (λ k. seek_keys ss (keys_for ss parts) low high (key_stretch s k rows))
seek_is_by_keys (s ∷ ss) (Many keys ∷ parts) low high rows =
    flat_map_same _ _ (walked_keys s keys)
    (λ key. seek_is_by_keys ss parts low high (key_stretch s key rows))
seek_is_by_keys (s ∷ ss) (NullPart ∷ parts) low high rows =
    seek_is_by_keys ss parts low high (key_stretch s Null rows)
    ∙ sym (append-nil (seek_keys ss (keys_for ss parts) low high (key_stretch s Null rows)))

no_keys : (ss : List SortColumn) → keys_for ss [] ≡ []
no_keys [] = refl
no_keys (s ∷ ss) = refl

-- behind the last part there are no keys
pub keys_end : {P : Type 0} (plain : P → Part) (keys : List (List Value)) (ss : List SortColumn)
    (parts : List P) (i : ℕ) → length parts ≤ i
    → keys ≡ keys ++ keys_for ss (map plain (drop i parts))
keys_end plain keys ss parts i h =
    sym (append-nil keys) ∙ ap (λ l. keys ++ l) (sym (no_keys ss))
    ∙ ap (λ ps. keys ++ keys_for ss (map plain ps)) (sym (past_end parts i h))
