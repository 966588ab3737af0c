-- Flags that are set one after the other.
use Rattle.std.proofs.Common.{◌≡◌, ◌<◌, ℕ, Bool, true, false, ◌||◌, List, length, get_or, refl, ap}
use Rattle.std.proofs.Common.{sym, ◌∙◌, subst}
use Rattle.expert_advice.specs.Uses.{Marks}

pub or_assoc : (a b c : Bool) → (a || b) || c ≡ a || (b || c)
or_assoc true b c = refl
or_assoc false b c = refl

pub or_none : (a : Bool) → a || false ≡ a
or_none true = refl
or_none false = refl

-- with what is left to be marked, all is
pub record Reaches (now : List Bool) (left : ℕ → Bool) (old : List Bool) (all : ℕ → Bool) : Type 0
  where
    pub each : length now ≡ length old
    pub exact : (n : ℕ) → n < length old
        → get_or now n false || left n ≡ get_or old n false || all n

pub starts : (old : List Bool) (all : ℕ → Bool) → Reaches old all old all
starts old all = record { each = refl; exact = λ n l. refl }

pub goes_on : (now next old : List Bool) (p q all : ℕ → Bool)
    → Reaches now (λ n. p n || q n) old all → Marks now next p → Reaches next q old all
goes_on now next old p q all r m = record {
  each = m.each ∙ r.each;
  exact = λ n l.
      ap (λ (b : Bool). b || q n) (m.exact n (subst (λ (k : ℕ). n < k) (sym r.each) l))
      ∙ or_assoc (get_or now n false) (p n) (q n) ∙ r.exact n l;
}

pub ends : (now old : List Bool) (all : ℕ → Bool) → Reaches now (λ n. false) old all
    → Marks old now all
ends now old all r = record {
  each = r.each;
  exact = λ n l. sym (or_none (get_or now n false)) ∙ r.exact n l;
}
