-- What holds of each answer holds of the one that is chosen.
use Rattle.std.proofs.Common.{Bool, true, false, cond, Option, None, Some, option_and_then}

abbrev pub MayBe : {X : Type 0} → (X → Type 0) → Option X → Type 0
MayBe P None = Unit {0}
MayBe P (Some x) = P x

pub chosen : {X : Type 0} (P : X → Type 0) (b : Bool) (x y : X) → P x → P y → P (cond b x y)
chosen P true x y h k = h
chosen P false x y h k = k

pub and_then : {X Y : Type 0} (P : Y → Type 0) (f : X → Option Y) (o : Option X)
    → ((x : X) → MayBe P (f x)) → MayBe P (option_and_then f o)
and_then P f None h = tt
and_then P f (Some x) h = h x
