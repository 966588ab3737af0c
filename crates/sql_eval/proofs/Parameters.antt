-- A parameter by its number.
use Rattle.std.proofs.Common.{◌≡◌, ◌≢◌, ◌<◌, ℕ, ◌-◌, zero, suc, List, Some, slice_get, sym, refl}
use Rattle.std.proofs.Common.{map, length, get_or, arith}
use Rattle.std.proofs.lemmas.Option.{slice_get-map, slice_get_read, get_or_from_slice_get}
use Rattle.sql_value.specs.declared.values.Value.{Value}
use Rattle.sql_value.specs.View.{plain_value}
use Rattle.sql_meaning.specs.Values.{Null}
use Rattle.sql_meaning.specs.Evaluation.{param_value}

read_at : (params : List Value) (number : ℕ) (v : Value) → slice_get params number ≡ Some v
    → plain_value v ≡ get_or (map plain_value params) number Null
read_at params number v is =
    sym
    (get_or_from_slice_get (map plain_value params) number (plain_value v) Null
    (rw (slice_get-map plain_value params number, is) refl))

pub param_at : (held params : List Value) (number : ℕ) (v : Value) → held ≡ params
    → number ≢ 0 → number - 1 < length held → v ≡ get_or held (number - 1) v
    → plain_value v ≡ param_value (map plain_value params) number
param_at held params zero v same some below is = absurd (some refl)
param_at held params (suc n) v same some below is =
    let one_less : suc n - 1 ≡ n = omega arith in
    let found : slice_get held (suc n - 1) ≡ Some v =
    slice_get_read held (length held) (suc n - 1) v refl below is in
    read_at params n v (rw (same, one_less) at found)
