-- The places of a prefix and of its rivals, among prefixes of the code that show others.
use Rattle.std.specs.Borrow.{Bor}
use Rattle.std.specs.List.{AllByRecursion, insert, remove}
use Rattle.std.specs.Ordering.{is_gt, is_le}
use Rattle.std.specs.declared.cmp.Ordering.{Ordering}
use Rattle.std.specs.declared.cmp.Ordering.TheVariants.{Less, Equal, Greater}
use Rattle.std.proofs.Common.{◌≡◌, ◌≤◌, ◌<◌, ℕ, ◌+◌, Bool, true, false, List, []}
use Rattle.std.proofs.Common.{length, ◌++◌, take, Option, Some, None, refl, sym, ap, ◌∙◌, subst}
use Rattle.std.proofs.Common.{drop, get_or, arith}
use Rattle.std.proofs.lemmas.List.{drop_all, get_or_default}
use Rattle.plan_choice.specs.Settings.{Setting}
use Rattle.plan_choice.specs.Prefixes as meant
use Rattle.plan_choice.specs.Choice.{nearer}
use Rattle.nearest_prefixes.specs.declared.prefix.Prefix.{Prefix}
use Rattle.nearest_prefixes.specs.Growing.{Shows, AllShow}
use Rattle.nearest_prefixes.specs.Keeping.{drop_rival, joined}
use Rattle.nearest_prefixes.specs.Entering.{alike, entry_from, rival_from}
use Rattle.nearest_prefixes.specs.Searching.{AreShown}
use Rattle.nearest_prefixes.proofs.Entries.{rival_dropped, joined_nowhere, joined_past, joined_at}
use Rattle.nearest_prefixes.proofs.Entries.{without_at}
use Rattle.nearest_prefixes.proofs.Keepings.{all_joined}
use Rattle.nearest_prefixes.proofs.ShownLists.{shown_length, shown_at, shown_remove, size_at}

-- what comparing prefixes answers
abbrev Compares : Setting → Prefix → Prefix → Ordering → Type 0
Compares s x y o =
    (p q : meant.Prefix) → Shows s p x → Shows s q y → length p.loops ≡ length q.loops
    → o ≡ nearer s p q

abbrev Matches : Setting → Prefix → Prefix → Bool → Type 0
Matches s x y b = (p q : meant.Prefix) → Shows s p x → Shows s q y → b ≡ alike s p q

abbrev pub IsPlace : Setting → List (Bor Prefix) → Prefix → Option ℕ → Type 0
IsPlace s xs x o =
    (count : ℕ) (ps : List meant.Prefix) (p : meant.Prefix) → AreShown s count ps xs
    → Shows s p x → length p.loops ≡ count → o ≡ entry_from (alike s) (nearer s) p 0 ps

-- it depends on those from here on
abbrev pub PlaceFrom : Setting → List (Bor Prefix) → Prefix → ℕ → Type 0
PlaceFrom s xs x n =
    (count : ℕ) (ps : List meant.Prefix) (p : meant.Prefix) → AreShown s count ps xs
    → Shows s p x → length p.loops ≡ count
    → entry_from (alike s) (nearer s) p n (drop n ps)
    ≡ entry_from (alike s) (nearer s) p 0 ps

not_le : (o : Ordering) → is_gt o ≡ true → is_le o ≡ false
not_le Less h = sym h
not_le Equal h = sym h
not_le Greater h = refl

is_at_most : (o : Ordering) → is_gt o ≡ false → is_le o ≡ true
is_at_most Less h = refl
is_at_most Equal h = refl
is_at_most Greater h = sym h

pub place_here : (s : Setting) (xs : List (Bor Prefix)) (x : Prefix) (n : ℕ) (y : Bor Prefix)
    (o : Ordering) → n < length xs → y ≡ get_or xs n y → Compares s y.now x o → is_gt o ≡ true
    → PlaceFrom s xs x n → IsPlace s xs x (Some n)
place_here s xs x n y o l e f g h = λ count ps p shown k size.
    let at = shown_at s ps xs n y shown.each l e in
    let q = at.prefix in
    let same = size_at count ps n q shown.size at.rest ∙ sym size in
    let above : is_le (nearer s q p) ≡ false =
    ap is_le (sym (f q p at.shows k same)) ∙ not_le o g in
    sym (rw (at.rest, above) refl) ∙ h count ps p shown k size

pub place_nowhere : (s : Setting) (xs : List (Bor Prefix)) (x : Prefix) (n : ℕ) (y z : Bor Prefix)
    (o : Ordering) (b : Bool) → n < length xs → y ≡ get_or xs n y → z ≡ get_or xs n z
    → Compares s y.now x o → is_gt o ≡ false → Matches s z.now x b → b ≡ true → PlaceFrom s xs x n
    → IsPlace s xs x None
place_nowhere s xs x n y z o b l e d f g m i h = λ count ps p shown k size.
    let at = shown_at s ps xs n y shown.each l e in
    let q = at.prefix in
    let same = size_at count ps n q shown.size at.rest ∙ sym size in
    let up : is_le (nearer s q p) ≡ true =
    ap is_le (sym (f q p at.shows k same)) ∙ is_at_most o g in
    let both = subst (λ (w : Bor Prefix). Shows s q w.now)
    (e ∙ get_or_default xs n y z l ∙ sym d) in
    let rival : alike s q p ≡ true = sym (m q p (both at.shows) k) ∙ i in
    sym (rw (at.rest, up, rival) refl) ∙ h count ps p shown k size

pub place_later : (s : Setting) (xs : List (Bor Prefix)) (x : Prefix) (n : ℕ) (y z : Bor Prefix)
    (o : Ordering) (b : Bool) → n < length xs → y ≡ get_or xs n y → z ≡ get_or xs n z
    → Compares s y.now x o → is_gt o ≡ false → Matches s z.now x b → b ≡ false → PlaceFrom s xs x n
    → PlaceFrom s xs x (n + 1)
place_later s xs x n y z o b l e d f g m i h = λ count ps p shown k size.
    let at = shown_at s ps xs n y shown.each l e in
    let q = at.prefix in
    let same = size_at count ps n q shown.size at.rest ∙ sym size in
    let up : is_le (nearer s q p) ≡ true =
    ap is_le (sym (f q p at.shows k same)) ∙ is_at_most o g in
    let both = subst (λ (w : Bor Prefix). Shows s q w.now)
    (e ∙ get_or_default xs n y z l ∙ sym d) in
    let rival : alike s q p ≡ false = sym (m q p (both at.shows) k) ∙ i in
    sym (rw (at.rest, up, rival) refl) ∙ h count ps p shown k size

pub place_last : (s : Setting) (xs : List (Bor Prefix)) (x : Prefix) (n : ℕ) → length xs ≤ n
    → n ≤ length xs → PlaceFrom s xs x n → IsPlace s xs x (Some (length xs))
place_last s xs x n past within h = λ count ps p shown k size.
    let long = shown_length s ps xs shown.each in
    let end : drop n ps ≡ [] = drop_all n ps (omega (arith, past, long)) in
    let here : length xs ≡ n = omega (arith, past, within) in
    ap (λ (m : ℕ). Some m) here ∙ sym (rw end refl) ∙ h count ps p shown k size

abbrev pub IsRivalAt : Setting → List (Bor Prefix) → Prefix → ℕ → Option ℕ → Type 0
IsRivalAt s xs x from o =
    (ps : List meant.Prefix) (p : meant.Prefix) → AllShow s ps xs → Shows s p x
    → o ≡ rival_from (alike s) p from (drop from ps)

abbrev pub RivalFrom : Setting → List (Bor Prefix) → Prefix → ℕ → ℕ → Type 0
RivalFrom s xs x from n =
    (ps : List meant.Prefix) (p : meant.Prefix) → AllShow s ps xs → Shows s p x
    → rival_from (alike s) p n (drop n ps) ≡ rival_from (alike s) p from (drop from ps)

pub rival_here : (s : Setting) (xs : List (Bor Prefix)) (x : Prefix) (from n : ℕ) (y : Bor Prefix)
    (b : Bool) → n < length xs → y ≡ get_or xs n y → Matches s y.now x b → b ≡ true
    → RivalFrom s xs x from n → IsRivalAt s xs x from (Some n)
rival_here s xs x from n y b l e m i h = λ ps p shown k.
    let at = shown_at s ps xs n y shown l e in
    let rival : alike s at.prefix p ≡ true = sym (m at.prefix p at.shows k) ∙ i in
    sym (rw (at.rest, rival) refl) ∙ h ps p shown k

pub rival_later : (s : Setting) (xs : List (Bor Prefix)) (x : Prefix) (from n : ℕ) (y : Bor Prefix)
    (b : Bool) → n < length xs → y ≡ get_or xs n y → Matches s y.now x b → b ≡ false
    → RivalFrom s xs x from n → RivalFrom s xs x from (n + 1)
rival_later s xs x from n y b l e m i h = λ ps p shown k.
    let at = shown_at s ps xs n y shown l e in
    let rival : alike s at.prefix p ≡ false = sym (m at.prefix p at.shows k) ∙ i in
    sym (rw (at.rest, rival) refl) ∙ h ps p shown k

pub rival_nowhere : (s : Setting) (xs : List (Bor Prefix)) (x : Prefix) (from n : ℕ)
    → length xs ≤ n → RivalFrom s xs x from n → IsRivalAt s xs x from None
rival_nowhere s xs x from n past h = λ ps p shown k.
    let long = shown_length s ps xs shown in
    let end : drop n ps ≡ [] = drop_all n ps (omega (arith, past, long)) in
    sym (rw end refl) ∙ h ps p shown k

-- what is left shows what is left without the first rival
abbrev pub LosesRival : Setting → ℕ → List (Bor Prefix) → Prefix → List (Bor Prefix) → Type 0
LosesRival s from xs x ys =
    (ps : List meant.Prefix) (p : meant.Prefix) → AllShow s ps xs → Shows s p x
    → AllShow s (take from ps ++ drop_rival (alike s) p (drop from ps)) ys

rival_lost : (s : Setting) (ps : List meant.Prefix) (p : meant.Prefix) (from : ℕ)
    (xs : List (Bor Prefix)) (o : Option ℕ) → AllShow s ps xs → from ≤ length xs
    → o ≡ rival_from (alike s) p from (drop from ps)
    → without_at ps o ≡ take from ps ++ drop_rival (alike s) p (drop from ps)
rival_lost s ps p from xs o shown l e =
    let long = shown_length s ps xs shown in
    ap (without_at ps) e ∙ sym (rival_dropped (alike s) p ps from (omega (arith, l, long)))

pub loses_one : (s : Setting) (xs : List (Bor Prefix)) (x : Prefix) (from n : ℕ)
    → from ≤ length xs → IsRivalAt s xs x from (Some n) → LosesRival s from xs x (remove xs n)
loses_one s xs x from n l h = λ ps p shown k.
    subst (λ (qs : List meant.Prefix). AllShow s qs (remove xs n))
    (rival_lost s ps p from xs (Some n) shown l (h ps p shown k)) (shown_remove s n ps xs shown)

pub loses_none : (s : Setting) (xs : List (Bor Prefix)) (x : Prefix) (from : ℕ)
    → from ≤ length xs → IsRivalAt s xs x from None → LosesRival s from xs x xs
loses_none s xs x from l h = λ ps p shown k.
    subst (λ (qs : List meant.Prefix). AllShow s qs xs)
    (rival_lost s ps p from xs None shown l (h ps p shown k)) shown

-- what is kept shows what is kept of those with one that comes
abbrev pub Joins : Setting → ℕ → List (Bor Prefix) → Prefix → List (Bor Prefix) → Type 0
Joins s most xs x ys =
    (count : ℕ) (ps : List meant.Prefix) (p : meant.Prefix) → AreShown s count ps xs
    → Shows s p x → length p.loops ≡ count
    → AreShown s count (joined most (alike s) (nearer s) ps p) ys

joins_each : (s : Setting) (most count : ℕ) (ps qs : List meant.Prefix) (p : meant.Prefix)
    (ys : List (Bor Prefix)) → AllByRecursion (λ q. length q.loops ≡ count) ps
    → length p.loops ≡ count → AllShow s qs ys → qs ≡ joined most (alike s) (nearer s) ps p
    → AreShown s count (joined most (alike s) (nearer s) ps p) ys
joins_each s most count ps qs p ys sizes size each e =
    record {
      each = subst (λ (rs : List meant.Prefix). AllShow s rs ys) e each;
      size = all_joined (λ q. length q.loops ≡ count) most (alike s) (nearer s) ps p sizes size;
    }

pub joins_at : (s : Setting) (most n : ℕ) (xs ys : List (Bor Prefix)) (x : Prefix)
    → IsPlace s xs x (Some n)
    → ((ps : List meant.Prefix) (p : meant.Prefix) → AllShow s ps xs → Shows s p x
    → AllShow s (take most (insert (take n ps ++ drop_rival (alike s) p (drop n ps)) n p)) ys)
    → Joins s most xs x ys
joins_at s most n xs ys x h f = λ count ps p shown k size.
    joins_each s most count ps _ p ys shown.size size (f ps p shown.each k)
    (joined_at most (alike s) (nearer s) p ps n (sym (h count ps p shown k size)))

pub joins_past : (s : Setting) (most n : ℕ) (xs : List (Bor Prefix)) (x : Prefix)
    → length xs ≤ most → IsPlace s xs x (Some n) → most ≤ n → Joins s most xs x xs
joins_past s most n xs x l h past = λ count ps p shown k size.
    let long = shown_length s ps xs shown.each in
    joins_each s most count ps ps p xs shown.size size shown.each
    (joined_past most (alike s) (nearer s) p ps n (omega (arith, l, long))
    (sym (h count ps p shown k size)) past)

pub joins_nowhere : (s : Setting) (most : ℕ) (xs : List (Bor Prefix)) (x : Prefix)
    → length xs ≤ most → IsPlace s xs x None → Joins s most xs x xs
joins_nowhere s most xs x l h = λ count ps p shown k size.
    let long = shown_length s ps xs shown.each in
    joins_each s most count ps ps p xs shown.size size shown.each
    (joined_nowhere most (alike s) (nearer s) p ps (omega (arith, l, long))
    (sym (h count ps p shown k size)))
