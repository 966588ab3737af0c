-- Prefixes that were reached loop by loop, and the levels of them.
use Rattle.std.specs.Borrow.{Bor}
use Rattle.std.specs.List.{AllByRecursion, flat_map}
use Rattle.std.proofs.Common.{◌≡◌, ℕ, zero, suc, ◌+◌, List, [], ◌∷◌, length, refl, sym, ap}
use Rattle.std.proofs.Common.{◌∙◌, subst, arith}
use Rattle.list_laws.specs.Nest.{Distinct}
use Rattle.list_laws.proofs.Lists.{all_map, all_flat_map}
use Rattle.plan_choice.specs.Settings.{Setting}
use Rattle.plan_choice.specs.Prefixes as meant
use Rattle.plan_choice.specs.Choice.{neighbor_count, rivals, next_level, levels}
use Rattle.plan_choice.proofs.OfferedLoops.{placed_more}
use Rattle.nearest_prefixes.specs.declared.prefix.Prefix.{Prefix}
use Rattle.nearest_prefixes.specs.Entering.{alike}
use Rattle.nearest_prefixes.specs.declared.level.Level.{Level}
use Rattle.nearest_prefixes.specs.Growing.{AllShow, IsReached, IsLevel}
use Rattle.nearest_prefixes.specs.Searching.{AreShown, kept_with}
use Rattle.nearest_prefixes.proofs.Alikes.{distinct_more, rivals_alike}
use Rattle.nearest_prefixes.proofs.Finishing.{Agree, all_entered}
use Rattle.nearest_prefixes.proofs.Reached.{extensions_reached, reached_size}

-- no item is placed twice
pub reached_apart : (s : Setting) (count : ℕ) (p : meant.Prefix) → IsReached s count p
    → Distinct (meant.placed_in p)
reached_apart s zero p h = subst (λ (q : meant.Prefix). Distinct (meant.placed_in q)) (sym h) tt
reached_apart s (suc count) p (q, t, h, follows, e) =
    subst (λ (r : meant.Prefix). Distinct (meant.placed_in r)) (sym e)
    (subst Distinct (sym (placed_more q.loops t []))
    (distinct_more s.bound (meant.placed_in q) t.item follows.comes (reached_apart s count q h)))

pub reached_agree : (s : Setting) (count : ℕ) → Agree (IsReached s count) (alike s) (rivals s)
reached_agree s count p q h k =
    rivals_alike s p q (reached_apart s count p h)
    (reached_size s count p h ∙ sym (reached_size s count q k))

pub shown_reached : (s : Setting) (count : ℕ) (ps : List meant.Prefix) (xs : List (Bor Prefix))
    → AllShow s ps xs → AllByRecursion (λ p. length p.loops ≡ count) ps
    → AllByRecursion (IsReached s count) ps
shown_reached s count [] [] h k = tt
shown_reached s count [] (x ∷ xs) h k = absurd h
shown_reached s count (p ∷ ps) [] h k = absurd h
shown_reached s count (p ∷ ps) (x ∷ xs) h k =
    (subst (λ (n : ℕ). IsReached s n p) k.0 h.0.reached, shown_reached s count ps xs h.1 k.1)

-- all extensions, entered one by one, leave the next level
pub next_kept : (s : Setting) (count : ℕ) (ps : List meant.Prefix)
    → AllByRecursion (IsReached s count) ps
    → kept_with s (neighbor_count (length s.bound.items)) [] (flat_map (meant.extensions s) ps)
    ≡ next_level s ps
next_kept s count ps h =
    all_entered s (IsReached s (suc count)) (reached_agree s (suc count))
    (neighbor_count (length s.bound.items)) (flat_map (meant.extensions s) ps)
    (all_flat_map (IsReached s (suc count)) (meant.extensions s) ps
    (all_map _ _ ps (λ p r. extensions_reached s count p r) h))

-- what was entered into an empty list is a level
pub level_made : (s : Setting) (count most : ℕ) (kept : List meant.Prefix) (xs : List (Bor Prefix))
    (level : Level) → most ≡ neighbor_count (length s.bound.items)
    → AllByRecursion (IsReached s count) kept → level.kept.now ≡ xs
    → AreShown s (suc count) (kept_with s most [] (flat_map (meant.extensions s) kept)) xs
    → IsLevel s (suc count) level (next_level s kept)
level_made s count most kept xs level m h e shown =
    let all = flat_map (meant.extensions s) kept in
    let same = ap (λ (n : ℕ). kept_with s n [] all) m ∙ next_kept s count kept h in
    let made = subst (λ (ps : List meant.Prefix). AreShown s (suc count) ps xs) same shown in
    record {
      each = subst (AllShow s (next_level s kept)) (sym e) made.each;
      size = made.size;
    }

-- one level more
pub levels_more : (s : Setting) (n : ℕ) (ps : List meant.Prefix)
    → levels s (n + 1) ps ≡ next_level s (levels s n ps)
levels_more s zero ps = refl
levels_more s (suc n) ps =
    let e : suc n + 1 ≡ suc (n + 1) = omega arith in
    ap (λ m. levels s m ps) e ∙ levels_more s n (next_level s ps)
