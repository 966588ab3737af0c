-- The loops of a prefix are those before it and its last one, and so are they compared.
use Rattle.std.specs.Borrow.{Bor}
use Rattle.std.specs.Ordering.{nat_cmp, ordering_then}
use Rattle.std.specs.Cmp.Lexicographic.{slice_cmp}
use Rattle.std.specs.declared.cmp.Ordering.{Ordering}
use Rattle.std.proofs.Common.{◌≡◌, suc, List, [], ◌∷◌, ◌++◌, length, Option, Some, None, refl}
use Rattle.std.proofs.Common.{sym, ap, ap₂, ◌∙◌, arith}
use Rattle.nearest_prefixes.specs.Prefixes.{SeenLoop, seen_loop, loops_of, loops_step}
use Rattle.nearest_prefixes.specs.Comparing.{step_of, steps_of, last_step}
use Rattle.nearest_prefixes.specs.declared.prefix.Prefix.{Prefix, out-Prefix}
use Rattle.nearest_prefixes.specs.declared.prefix.Prefix.TheFolds.{fold_out-Prefix}
use Rattle.nearest_prefixes.proofs.Reached.{length_more}
use Rattle.nearest_prefixes.proofs.Extensions.{loops_behind}
use Rattle.nearest_prefixes.proofs.Comparisons.{cmp_push}

abbrev last_loop : Prefix → SeenLoop
last_loop x = seen_loop (out-Prefix x).item (out-Prefix x).number (out-Prefix x).offer.now

linked : (x : Prefix) (before : Option (Bor Prefix)) → (out-Prefix x).before ≡ before
    → loops_of x ≡ loops_behind before ++ last_loop x ∷ []
linked x None is = let h = fold_out-Prefix (List SeenLoop) loops_step x in h ∙ rw is refl
linked x (Some b) is = let h = fold_out-Prefix (List SeenLoop) loops_step x in h ∙ rw is refl

linked_length : (x : Prefix) (before : Option (Bor Prefix)) → (out-Prefix x).before ≡ before
    → length (loops_of x) ≡ suc (length (loops_behind before))
linked_length x before is =
    ap length (linked x before is) ∙ length_more (loops_behind before) (last_loop x)

pub linked_cmp : (x y : Prefix) (b d : Bor Prefix) (front last : Ordering)
    → (out-Prefix x).before ≡ Some b → (out-Prefix y).before ≡ Some d
    → (length (loops_of b.now) ≡ length (loops_of d.now)
    → front ≡ slice_cmp nat_cmp (steps_of (loops_of b.now)) (steps_of (loops_of d.now)))
    → last ≡ slice_cmp nat_cmp (last_step x) (last_step y)
    → length (loops_of x) ≡ length (loops_of y)
    → ordering_then front last
    ≡ slice_cmp nat_cmp (steps_of (loops_of x)) (steps_of (loops_of y))
linked_cmp x y b d front last is are h k e =
    let left = linked_length x (Some b) is in
    let right = linked_length y (Some d) are in
    let same : length (loops_of b.now) ≡ length (loops_of d.now) = omega (arith, left, right, e) in
    ap₂ ordering_then (h same) k
    ∙ sym
    (ap₂ (λ ts us. slice_cmp nat_cmp (steps_of ts) (steps_of us)) (linked x (Some b) is)
    (linked y (Some d) are)
    ∙ cmp_push step_of 2 (λ t. refl) (loops_of b.now) (loops_of d.now) (last_loop x) (last_loop y)
    same)

-- one of one loop has as many as another where that has one too
both_single : (x y : Prefix) (before : Option (Bor Prefix)) → (out-Prefix x).before ≡ None
    → (out-Prefix y).before ≡ before → length (loops_of x) ≡ length (loops_of y)
    → (out-Prefix y).before ≡ None
both_single x y None is are e = are
both_single x y (Some d) is are e =
    let one = linked_length x None is in
    let more = linked_length y (Some d) are in
    let some = linked_length d.now (out-Prefix d.now).before refl in
    absurd (omega (arith, e, one, more, some))

single_cmp : (x y : Prefix) → (out-Prefix x).before ≡ None → (out-Prefix y).before ≡ None
    → slice_cmp nat_cmp (last_step x) (last_step y)
    ≡ slice_cmp nat_cmp (steps_of (loops_of x)) (steps_of (loops_of y))
single_cmp x y is are =
    sym
    (ap₂ (λ ts us. slice_cmp nat_cmp (steps_of ts) (steps_of us)) (linked x None is)
    (linked y None are))

pub left_single : (x y : Prefix) → (out-Prefix x).before ≡ None
    → length (loops_of x) ≡ length (loops_of y)
    → slice_cmp nat_cmp (last_step x) (last_step y)
    ≡ slice_cmp nat_cmp (steps_of (loops_of x)) (steps_of (loops_of y))
left_single x y is e = single_cmp x y is (both_single x y (out-Prefix y).before is refl e)

pub right_single : (x y : Prefix) → (out-Prefix y).before ≡ None
    → length (loops_of x) ≡ length (loops_of y)
    → slice_cmp nat_cmp (last_step x) (last_step y)
    ≡ slice_cmp nat_cmp (steps_of (loops_of x)) (steps_of (loops_of y))
right_single x y is e = single_cmp x y (both_single y x (out-Prefix x).before is refl (sym e)) is
