-- Loops that were taken of offers, one after the other, are offers.
use Rattle.std.proofs.Common.{◌≡◌, ℕ, Bool, false, List, [], ◌∷◌, ◌++◌, map, refl, ap}
use Rattle.sql_meaning.specs.UsedTerms.{Used}
use Rattle.sql_meaning.specs.Offers.{AreOffers, loop_items}
use Rattle.plan_choice.specs.Settings.{Setting}
use Rattle.plan_choice.specs.OfferLaws.{IsOffered}
use Rattle.plan_choice.specs.Prefixes.{OfferedLoop, loop_of, items_of, placed_from}
use Rattle.plan_choice.specs.Choice.{with_directions}

abbrev pub IsOfferedLoop : Setting → List ℕ → OfferedLoop → Type 0
IsOfferedLoop s placed t = (reverse : Bool) → IsOffered s placed t.item reverse t.offer

abbrev pub AreOfferedLoops : Setting → List ℕ → List OfferedLoop → Type 0
AreOfferedLoops s placed [] = Unit {0}
AreOfferedLoops s placed (t ∷ ts) =
    IsOfferedLoop s placed t × AreOfferedLoops s (t.item ∷ placed) ts

pub one_more : (s : Setting) (placed : List ℕ) (ts : List OfferedLoop) (t : OfferedLoop)
    → AreOfferedLoops s placed ts
    → IsOfferedLoop s (placed_from ts placed) t → AreOfferedLoops s placed (ts ++ t ∷ [])
one_more s placed [] t h k = (k, tt)
one_more s placed (u ∷ us) t h k = (h.0, one_more s (u.item ∷ placed) us t h.1 k)

pub placed_more : (ts : List OfferedLoop) (t : OfferedLoop) (placed : List ℕ)
    → placed_from (ts ++ t ∷ []) placed ≡ t.item ∷ placed_from ts placed
placed_more [] t placed = refl
placed_more (u ∷ us) t placed = placed_more us t (u.item ∷ placed)

pub items_more : (ts : List OfferedLoop) (t : OfferedLoop) → items_of (ts ++ t ∷ [])
    ≡ items_of ts ++ t.item ∷ []
items_more [] t = refl
items_more (u ∷ us) t = ap (λ is. u.item ∷ is) (items_more us t)

-- the terms that each loop uses
abbrev pub used_by : List OfferedLoop → List Used
used_by ts = map (λ t. t.offer.used) ts

pub offers_plain : (s : Setting) (placed : List ℕ) (ts : List OfferedLoop)
    → AreOfferedLoops s placed ts
    → AreOffers s.schema s.bound placed (map loop_of ts) (used_by ts)
offers_plain s placed [] h = tt
offers_plain s placed (t ∷ ts) h = (h.0 false, offers_plain s (t.item ∷ placed) ts h.1)

pub offers_directed : (s : Setting) (placed : List ℕ) (ts : List OfferedLoop) (ds : List Bool)
    → AreOfferedLoops s placed ts
    → AreOffers s.schema s.bound placed (with_directions (map loop_of ts) ds) (used_by ts)
offers_directed s placed [] ds h = tt
offers_directed s placed (t ∷ ts) [] h =
    (h.0 false, offers_directed s (t.item ∷ placed) ts [] h.1)
offers_directed s placed (t ∷ ts) (d ∷ ds) h =
    (h.0 d, offers_directed s (t.item ∷ placed) ts ds h.1)

pub items_plain : (ts : List OfferedLoop) → loop_items (map loop_of ts) ≡ items_of ts
items_plain [] = refl
items_plain (t ∷ ts) = ap (λ is. t.item ∷ is) (items_plain ts)

pub items_directed : (ts : List OfferedLoop) (ds : List Bool)
    → loop_items (with_directions (map loop_of ts) ds) ≡ items_of ts
items_directed [] ds = refl
items_directed (t ∷ ts) [] = ap (λ is. t.item ∷ is) (items_directed ts [])
items_directed (t ∷ ts) (d ∷ ds) = ap (λ is. t.item ∷ is) (items_directed ts ds)
