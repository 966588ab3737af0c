-- Tests joined by `&&` and `||`.
use Rattle.std.proofs.Common.{◌≡◌, ◌&&◌, ◌||◌, Bool, true, false, refl}

pub left_of : (v w : Bool) → (v && w) ≡ true → v ≡ true
left_of true w h = refl
left_of false w h = absurd (cc)

pub right_of : (v w : Bool) → (v && w) ≡ true → w ≡ true
right_of true w h = h
right_of false w h = absurd (cc)

pub both : (v w : Bool) → v ≡ true → w ≡ true → (v && w) ≡ true
both v w h g = rw (h, g) refl

pub first_or : (v w : Bool) → v ≡ true → (v || w) ≡ true
first_or v w h = rw h refl

pub or_second : (v w : Bool) → w ≡ true → (v || w) ≡ true
or_second true w h = refl
or_second false w h = h
