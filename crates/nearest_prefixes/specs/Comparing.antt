-- The order of prefixes, of what is seen of them.
use Rattle.std.specs.Prelude.{ℕ, List, [], ◌∷◌}
use Rattle.std.specs.List.{flat_map}
use Rattle.std.specs.Ordering.{nat_cmp, int_cmp, ordering_then}
use Rattle.std.specs.Cmp.Lexicographic.{slice_cmp}
use Rattle.std.specs.declared.cmp.Ordering.{Ordering}
use Rattle.sql_meaning.specs.OrderState.{state_number}
use Rattle.plan_choice.specs.Settings.{Setting}
use Rattle.nearest_prefixes.specs.Prefixes.{SeenLoop, SeenPrefix}
use Rattle.nearest_prefixes.specs.declared.prefix.Prefix.{Prefix, out-Prefix}

abbrev pub step_of : SeenLoop → List ℕ
step_of t = t.item ∷ t.number ∷ []

abbrev pub last_step : Prefix → List ℕ
last_step x = (out-Prefix x).item ∷ (out-Prefix x).number ∷ []

abbrev pub steps_of : List SeenLoop → List ℕ
steps_of ts = flat_map step_of ts

-- by what is known of all their loops together
abbrev pub figures_cmp : Setting → SeenPrefix → SeenPrefix → Ordering
figures_cmp s a b =
    ordering_then
    (ordering_then (ordering_then (int_cmp a.weight b.weight) (int_cmp a.cost b.cost))
    (int_cmp a.rows b.rows))
    (nat_cmp (state_number s.bound.keys a.state) (state_number s.bound.keys b.state))

-- and then loop by loop
abbrev pub seen_cmp : Setting → SeenPrefix → SeenPrefix → Ordering
seen_cmp s a b =
    ordering_then (figures_cmp s a b) (slice_cmp nat_cmp (steps_of a.loops) (steps_of b.loops))
