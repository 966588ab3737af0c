-- Lemmas on a line that is written in pieces.
use Rattle.std.proofs.Common.{◌≡◌, ℕ, ◌+◌, List, ◌++◌, Option, Result, Ok, Err, OnOk, OnErr, inl}
use Rattle.std.proofs.Common.{inr, sym, subst, arith, length, take, length-append}
use Rattle.std.proofs.lemmas.List.{take-append-le}
use Rattle.std.proofs.Math.Seq.{take-append-add}
use Rattle.std.specs.Io.KnownBytes.{Appends}
use Rattle.std.proofs.KnownBytes.{Appends-trans}
use Rattle.expert_io.specs.Faults.{HasCause}
use Rattle.expert_io.specs.Written.{AppendsProperPrefix}
use Rattle.expert_main.specs.Promises.{WritesLine, sent}

-- a proper prefix of the front is one of the whole
pub prefix_first : (a b : Option (List ℕ)) (front rest : List ℕ) → AppendsProperPrefix a b front
    → AppendsProperPrefix a b (front ++ rest)
prefix_first a b front rest h =
    let e : take h.0 (front ++ rest) ≡ take h.0 front =
    take-append-le h.0 front rest (omega (arith, h.1)) in
    (h.0, omega (arith, h.1, length-append front rest), subst (Appends a b) (sym e) h.2)

-- the front was written, and then a proper prefix of the rest
pub prefix_then : (a b c : Option (List ℕ)) (front rest : List ℕ) → Appends a b front
    → AppendsProperPrefix b c rest → AppendsProperPrefix a c (front ++ rest)
prefix_then a b c front rest first h = (
  length front + h.0,
  omega (arith, h.1, length-append front rest),
  subst (Appends a c) (sym (take-append-add front rest h.0)) (Appends-trans a b c _ _ first h.2),
)

-- whatever came of it, the line or a proper prefix of it was written
pub writes_line : {T E : Type 0} (r : Result T E) (old new : Option (List ℕ)) (before now : ℕ)
    (line : List ℕ) → OnOk r (Appends old new line)
    → OnErr r (AppendsProperPrefix old new line) → HasCause before now r
    → WritesLine (sent old new before now) line
writes_line (Ok x) old new before now line ok err cause = inl ok
writes_line (Err e) old new before now line ok err cause = inr (err, cause.failed)
