-- The order of values is a total preorder.
use Rattle.std.proofs.Common.{◌≡◌, ◌↔◌, refl, sym, ◌∙◌}
use Rattle.std.specs.Ordering.{ordering_reverse}
use Rattle.std.specs.declared.cmp.Ordering.{Ordering}
use Rattle.std.specs.declared.cmp.Ordering.TheVariants.{Less, Equal, Greater}
use Rattle.std.specs.Cmp.{IsTotalOrder}
use Rattle.std.proofs.lemmas.Cmp.{tied_itself, tied_back, on_total, then_total, nat_cmp_total}
use Rattle.std.proofs.lemmas.Cmp.{int_cmp_total, nat_list_cmp_total}
use Rattle.sql_meaning.specs.Values.{Value, Collation, value_cmp, Before, Same, class_of, units_of}
use Rattle.sql_meaning.specs.Values.{collation_key}

pub value_cmp_total : (coll : Collation) → IsTotalOrder (value_cmp coll)
value_cmp_total coll =
    then_total (on_total class_of nat_cmp_total)
    (then_total (on_total units_of int_cmp_total)
    (on_total (collation_key coll) nat_list_cmp_total))

no_less : Less ≡ Equal → ⊥
no_less e = absurd (cc)

-- what neither of two answers, each the other turned round, calls less is a tie
tied_cases : (r s : Ordering) → r ≡ ordering_reverse s → (r ≡ Less → ⊥) → (s ≡ Less → ⊥) → r ≡ Equal
tied_cases r Less e f g = absurd (g refl)
tied_cases r Equal e f g = e
tied_cases r Greater e f g = absurd (f e)

pub ties : (coll : Collation) (v w : Value) → Same coll v w
    ↔ ((Before coll v w → ⊥) × (Before coll w v → ⊥))
ties coll v w = (
  λ e. (λ l. no_less (sym l ∙ e), λ l. no_less (sym l ∙ tied_back (value_cmp_total coll) v w e)),
  λ h. tied_cases (value_cmp coll v w) (value_cmp coll w v) ((value_cmp_total coll).antisymm v w)
      h.0 h.1,
)

pub same_reflexive : (coll : Collation) (v : Value) → Same coll v v
same_reflexive coll = tied_itself (value_cmp_total coll)

pub same_symmetric : (coll : Collation) (v w : Value) → Same coll v w → Same coll w v
same_symmetric coll = tied_back (value_cmp_total coll)

pub same_transitive : (coll : Collation) (u v w : Value) → Same coll u v → Same coll v w
    → Same coll u w
same_transitive coll u v w e f = (value_cmp_total coll).congr u v w e ∙ f
