-- One digit more, before those that are there.
use Rattle.std.proofs.Common.{◌≡◌, ℕ, zero, suc, ◌<◌, ◌/◌, ◌%◌, List, [], ◌∷◌, ◌++◌, length, drop}
use Rattle.std.proofs.Common.{set}
use Rattle.std.proofs.Common.{refl, ap, sym, ◌∙◌, arith, append_assoc}
use Rattle.plan_choice.specs.CandidateNames.{hex_digit, hex_digits}

drop_set : (ds : List ℕ) (p d : ℕ) → p < length ds → drop p (set ds p d) ≡ d ∷ drop (suc p) ds
drop_set [] p d l = absurd (omega arith)
drop_set (x ∷ xs) zero d l = refl
drop_set (x ∷ xs) (suc p) d l = drop_set xs p d (omega arith)

pub one_more : (p q r d : ℕ) (ds whole : List ℕ) → suc p ≡ q → p < length ds
    → d ≡ hex_digit (r % 16) → hex_digits q r ++ drop q ds ≡ whole
    → hex_digits p (r / 16) ++ drop p (set ds p d) ≡ whole
one_more p q r d ds whole e l is h =
    ap (λ (x : List ℕ). hex_digits p (r / 16) ++ x) (drop_set ds p d l)
    ∙ ap (λ (x : ℕ). hex_digits p (r / 16) ++ (x ∷ drop (suc p) ds)) is
    ∙ sym (append_assoc (hex_digits p (r / 16)) (hex_digit (r % 16) ∷ []) (drop (suc p) ds))
    ∙ ap (λ (n : ℕ). hex_digits n r ++ drop n ds) e ∙ h

pub length_kept : (ds : List ℕ) (p d : ℕ) → length (set ds p d) ≡ length ds
length_kept [] p d = refl
length_kept (x ∷ xs) zero d = refl
length_kept (x ∷ xs) (suc p) d = ap (λ (n : ℕ). suc n) (length_kept xs p d)
