-- The assignments of nested loops differ in the items of the loops alone.
use Rattle.std.specs.List.{AllByRecursion}
use Rattle.std.specs.Ordering.{ordering_then, is_le, then_cmp}
use Rattle.std.specs.declared.cmp.Ordering.TheVariants.{Equal as Ties, Less}
use Rattle.std.specs.declared.cmp.Ordering.{Ordering}
use Rattle.std.proofs.Common.{◌≡◌, ℕ, Some, List, None, ap, sym, ◌∙◌, get_or, [], ◌∷◌, refl, ap₂}
use Rattle.std.proofs.Common.{Bool, true, false, cond, Option, ◌≢◌, map}
use Rattle.std.proofs.lemmas.Cmp.{tied_itself}
use Rattle.list_laws.specs.Nest.{place, Step, nested, step_items}
use Rattle.list_laws.specs.Order.{Ascends}
use Rattle.list_laws.proofs.Lists.{all_map, all_always, all_flat_map, all_both}
use Rattle.list_laws.proofs.Nests.{Differs, place_other}
use Rattle.list_laws.proofs.NestOrders.{Crosses, Ascends-flat_map, pairs_from, tied_all}
use Rattle.list_laws.proofs.NestOrders.{pairs_strictly, tied_block, ascends_cond, less_then}
use Rattle.sql_meaning.specs.Rows.{Site, Assignment, row_value, Row}
use Rattle.sql_meaning.specs.Expressions.{bare_column}
use Rattle.sql_meaning.specs.Statements.{SortKey}
use Rattle.sql_meaning.specs.Values.{Value, value_cmp}
use Rattle.sql_meaning.specs.Evaluation.{ev}
use Rattle.sql_meaning.specs.IndexLists.{directed}
use Rattle.sql_meaning.specs.Orders.{by_keys}
use Rattle.sql_meaning.specs.Plans.{missing_if}
use Rattle.sql_meaning.proofs.Terms.{bare_is}
use Rattle.sql_meaning.proofs.Order.{value_cmp_total}
use Rattle.sql_meaning.proofs.TiedPositions.{directed_tie}
use Rattle.list_laws.specs.Order.{RisesStrictly}

-- the key is a column of the item
pub record IsOwn (item : ℕ) (k : SortKey) : Type 0 where
  pub site : Site
  pub is : bare_column k.expr ≡ Some (record { item = item; site = site })

own_value : (params : List Value) (item : ℕ) (k : SortKey) (a b : Assignment) → IsOwn item k
    → get_or a item None ≡ get_or b item None → ev a params k.expr ≡ ev b params k.expr
own_value params item k a b o h =
    bare_is a params k.expr _ o.is ∙ ap (row_value o.site) h ∙ sym (bare_is b params k.expr _ o.is)

-- own keys look at the item's row alone
own_same : (params : List Value) (item : ℕ) (ks : List SortKey) (a b c d : Assignment)
    → AllByRecursion (IsOwn item) ks → get_or a item None ≡ get_or c item None
    → get_or b item None ≡ get_or d item None → by_keys params ks a b ≡ by_keys params ks c d
own_same params item [] a b c d o h g = refl
own_same params item (k ∷ ks) a b c d o h g =
    ap₂ ordering_then
    (ap₂ (directed k.falling (value_cmp k.collation)) (own_value params item k a c o.0 h)
    (own_value params item k b d o.0 g)) (own_same params item ks a b c d o.1 h g)

keys_itself : (params : List Value) (ks : List SortKey) (a : Assignment)
    → by_keys params ks a a ≡ Ties
keys_itself params [] a = refl
keys_itself params (k ∷ ks) a =
    rw (directed_tie k.falling k.collation (ev a params k.expr) (ev a params k.expr)
    (tied_itself (value_cmp_total k.collation) (ev a params k.expr))) (keys_itself params ks a)

cond_all : (P : Assignment → Type 0) (b : Bool) (xs : List Assignment) → AllByRecursion P xs
    → AllByRecursion P (cond b xs [])
cond_all P true xs h = h
cond_all P false xs h = tt

-- each member of the nested walks is the given assignment but for the loops' items
nested_differs : (ts : List (Step (Option Row))) (env : Assignment)
    → AllByRecursion (Differs (step_items ts) env) (nested ts env)
nested_differs [] env = ((λ i n. refl), tt)
nested_differs (t ∷ ts) env =
    all_flat_map _ _ (t.walk env)
    (all_always _ (t.walk env)
    (λ x. cond_all _ (t.test (place env t.item x)) _
    (all_map _ _ _ (λ a d j n. d j n.1 ∙ place_other env t.item j x n.0)
    (nested_differs ts (place env t.item x)))))

-- the assignments that follow a row of a loop, and that they have this row
abbrev pub follow : Step (Option Row) → List (Step (Option Row)) → Assignment → Option Row
    → List Assignment
follow t ts env x = cond (t.test (place env t.item x)) (nested ts (place env t.item x)) []

abbrev pub Has : ℕ → Assignment → Option Row → Assignment → Type 0
Has item env x a = get_or a item None ≡ get_or (place env item x) item None

follow_has : (t : Step (Option Row)) (ts : List (Step (Option Row))) (env : Assignment)
    (x : Option Row)
    → AllByRecursion (λ j. j ≢ t.item) (step_items ts)
    → AllByRecursion (Has t.item env x) (follow t ts env x)
follow_has t ts env x n =
    cond_all _ (t.test (place env t.item x)) _
    (all_map _ _ _ (λ a d. d t.item n) (nested_differs ts (place env t.item x)))

crossing : (cmp : Assignment → Assignment → Ordering) (t : Step (Option Row))
    (ts : List (Step (Option Row))) (env : Assignment) (x y : Option Row)
    → AllByRecursion (λ j. j ≢ t.item) (step_items ts)
    → ((a b : Assignment) → Has t.item env x a → Has t.item env y b → is_le (cmp a b) ≡ true)
    → Crosses cmp (follow t ts env x) (follow t ts env y)
crossing cmp t ts env x y n f =
    all_map _ _ (follow t ts env x)
    (λ a p. all_map _ _ (follow t ts env y) (λ b q. f a b p q) (follow_has t ts env y n))
    (follow_has t ts env x n)

-- two rows of a loop, by keys that are its columns
abbrev pub by_own : List Value → Assignment → ℕ → List SortKey → Option Row → Option Row → Ordering
by_own params env item ks x y = by_keys params ks (place env item x) (place env item y)

-- the last keys: the walk is in order by them, and what follows comes as it likes
pub nested_ends : (params : List Value) (ks : List SortKey) (t : Step (Option Row))
    (ts : List (Step (Option Row))) (env : Assignment)
    → AllByRecursion (λ j. j ≢ t.item) (step_items ts) → AllByRecursion (IsOwn t.item) ks
    → Ascends (by_own params env t.item ks) (t.walk env)
    → Ascends (by_keys params ks) (nested (t ∷ ts) env)
nested_ends params ks t ts env n own rises =
    Ascends-flat_map (by_keys params ks) (follow t ts env) (t.walk env)
    (all_always _ (t.walk env)
    (λ x. tied_all (by_keys params ks) (follow t ts env x) (Has t.item env x)
    (λ a b p q. own_same params t.item ks a b (place env t.item x) (place env t.item x) own p q
    ∙ keys_itself params ks (place env t.item x)) (follow_has t ts env x n)))
    (pairs_from (by_keys params ks) (follow t ts env) (by_own params env t.item ks)
    (t.walk env) rises
    (λ x y le. crossing (by_keys params ks) t ts env x y n
    (λ a b p q. ap is_le
    (own_same params t.item ks a b (place env t.item x) (place env t.item y) own p q)
    ∙ le)))

-- a distinct loop: what follows is in order by the keys that are left
pub nested_passes : (params : List Value) (ks left : List SortKey) (t : Step (Option Row))
    (ts : List (Step (Option Row))) (env : Assignment)
    → AllByRecursion (λ j. j ≢ t.item) (step_items ts) → AllByRecursion (IsOwn t.item) ks
    → RisesStrictly (by_own params env t.item ks) (t.walk env)
    → ((x : Option Row) → Ascends (by_keys params left) (nested ts (place env t.item x)))
    → Ascends (then_cmp (by_keys params ks) (by_keys params left)) (nested (t ∷ ts) env)
nested_passes params ks left t ts env n own strictly later =
    Ascends-flat_map both (follow t ts env) (t.walk env)
    (all_always _ (t.walk env)
    (λ x. tied_block (by_keys params ks) (by_keys params left) (follow t ts env x)
    (Has t.item env x)
    (λ a b p q. own_same params t.item ks a b (place env t.item x) (place env t.item x) own p q
    ∙ keys_itself params ks (place env t.item x)) (follow_has t ts env x n)
    (ascends_cond (by_keys params left) (t.test (place env t.item x)) _ (later x))))
    (pairs_strictly both (follow t ts env) (by_own params env t.item ks) (t.walk env) strictly
    (λ x y less. crossing both t ts env x y n
    (λ a b p q. less_then (by_keys params ks a b) (by_keys params left a b)
    (own_same params t.item ks a b (place env t.item x) (place env t.item y) own p q ∙ less))))
  where
    both : Assignment → Assignment → Ordering
    both = then_cmp (by_keys params ks) (by_keys params left)

-- from rows to loops
pub rises_map : {X : Type 0} (R S : X → X → Ordering) (P : X → Type 0)
    → ((x y : X) → P x → P y → R x y ≡ Less → S x y ≡ Less) → (xs : List X) → AllByRecursion P xs
    → RisesStrictly R xs → RisesStrictly S xs
rises_map R S P f [] p h = tt
rises_map R S P f (x ∷ xs) p h =
    (all_both _ _ _ xs (λ y q e. f x y p.0 q e) p.1 h.0, rises_map R S P f xs p.1 h.1)

pub ascends_map : {X : Type 0} (R S : X → X → Ordering) (P : X → Type 0)
    → ((x y : X) → P x → P y → R x y ≡ Less → is_le (S x y) ≡ true) → (xs : List X)
    → AllByRecursion P xs → RisesStrictly R xs → Ascends S xs
ascends_map R S P f [] p h = tt
ascends_map R S P f (x ∷ xs) p h =
    (all_both _ _ _ xs (λ y q e. f x y p.0 q e) p.1 h.0, ascends_map R S P f xs p.1 h.1)

all_some : {X Y : Type 0} (g : X → Y) (P : Y → Type 0) (xs : List X)
    → AllByRecursion (λ x. P (g x)) xs → AllByRecursion P (map g xs)
all_some g P [] h = tt
all_some g P (x ∷ xs) h = (h.0, all_some g P xs h.1)

pub rises_some : {X Y : Type 0} (g : X → Y) (S : Y → Y → Ordering) (xs : List X)
    → RisesStrictly (λ x y. S (g x) (g y)) xs → RisesStrictly S (map g xs)
rises_some g S [] h = tt
rises_some g S (x ∷ xs) h = (all_some g (λ y. S (g x) y ≡ Less) xs h.0, rises_some g S xs h.1)

pub ascends_some : {X Y : Type 0} (g : X → Y) (S : Y → Y → Ordering) (xs : List X)
    → Ascends (λ x y. S (g x) (g y)) xs → Ascends S (map g xs)
ascends_some g S [] h = tt
ascends_some g S (x ∷ xs) h =
    (all_some g (λ y. is_le (S (g x) y) ≡ true) xs h.0, ascends_some g S xs h.1)

-- a LEFT loop gives its walk or one missing row
pub rises_missing : (S : Option Row → Option Row → Ordering) (b : Bool) (xs : List (Option Row))
    → RisesStrictly S xs → RisesStrictly S (missing_if b xs)
rises_missing S true [] h = (tt, tt)
rises_missing S true (x ∷ xs) h = h
rises_missing S false xs h = h

pub ascends_missing : (S : Option Row → Option Row → Ordering) (b : Bool) (xs : List (Option Row))
    → Ascends S xs → Ascends S (missing_if b xs)
ascends_missing S true [] h = (tt, tt)
ascends_missing S true (x ∷ xs) h = h
ascends_missing S false xs h = h
