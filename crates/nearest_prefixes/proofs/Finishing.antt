-- Members that were entered one by one are those of the next level.
use Rattle.std.specs.List.{AllByRecursion}
use Rattle.std.specs.Prelude.{fold}
use Rattle.std.proofs.Common.{◌≡◌, ℕ, Bool, true, false, cond, List, [], ◌∷◌, refl, ap, ◌∙◌}
use Rattle.std.proofs.Common.{take}
use Rattle.list_laws.specs.FirstComing.{has, keep_first}
use Rattle.list_laws.specs.Order.{sort_by}
use Rattle.list_laws.proofs.SortedViews.{all_sort}
use Rattle.plan_choice.specs.Settings.{Setting}
use Rattle.plan_choice.specs.Prefixes.{Prefix}
use Rattle.plan_choice.specs.Choice.{nearer, rivals}
use Rattle.plan_choice.proofs.OneItem.{nearer_total}
use Rattle.nearest_prefixes.specs.Entering.{alike}
use Rattle.nearest_prefixes.specs.Keeping.{joined}
use Rattle.nearest_prefixes.proofs.Keepings.{joined_all}
use Rattle.nearest_prefixes.proofs.Alikes.{alike_equiv}

-- relations that are the same of all members
abbrev pub Agree : {X : Type 0} → (X → Type 0) → (X → X → Bool) → (X → X → Bool) → Type 0
Agree {X} P E F = (x y : X) → P x → P y → E x y ≡ F x y

has_same : {X : Type 0} (P : X → Type 0) (E F : X → X → Bool) → Agree P E F → (seen : List X)
    (x : X) → AllByRecursion P seen → P x → has E seen x ≡ has F seen x
has_same P E F f [] x h p = refl
has_same P E F f (y ∷ ys) x h p = rw (f y x h.0 p, has_same P E F f ys x h.1 p) refl

same_case : {X : Type 0} (x : X) (us vs ws zs : List X) (b c : Bool) → b ≡ c → us ≡ vs → ws ≡ zs
    → cond b us (x ∷ ws) ≡ cond c vs (x ∷ zs)
same_case x us vs ws zs true true e h k = h
same_case x us vs ws zs false false e h k = ap (λ ts. x ∷ ts) k
same_case x us vs ws zs true false e h k = absurd (cc)
same_case x us vs ws zs false true e h k = absurd (cc)

pub keep_same : {X : Type 0} (P : X → Type 0) (E F : X → X → Bool) → Agree P E F
    → (xs seen : List X) → AllByRecursion P xs → AllByRecursion P seen
    → keep_first E seen xs ≡ keep_first F seen xs
keep_same P E F f [] seen h k = refl
keep_same P E F f (x ∷ xs) seen h k =
    same_case x (keep_first E seen xs) (keep_first F seen xs) (keep_first E (x ∷ seen) xs)
    (keep_first F (x ∷ seen) xs) (has E seen x) (has F seen x)
    (has_same P E F f seen x k h.0) (keep_same P E F f xs seen h.1 k)
    (keep_same P E F f xs (x ∷ seen) h.1 (h.0, k))

-- entered one by one, prefixes are those that sorting leaves
pub all_entered : (s : Setting) (P : Prefix → Type 0) → Agree P (alike s) (rivals s) → (n : ℕ)
    (all : List Prefix) → AllByRecursion P all
    → fold (joined n (alike s) (nearer s)) [] all
    ≡ take n (keep_first (rivals s) [] (sort_by (nearer s) all))
all_entered s P f n all h =
    joined_all (alike_equiv s) (nearer_total s) n all
    ∙ ap (take n)
    (keep_same P (alike s) (rivals s) f (sort_by (nearer s) all) []
    (all_sort P (nearer s) all h) tt)
