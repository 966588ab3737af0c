-- An item that isn't placed may as well have the missing row: each of its columns is NULL either
-- way, so expressions, walks and nested loops give the same.
use Rattle.std.proofs.Common.{◌≡◌, ℕ, zero, suc, Bool, true, false, cond, not, ◌||◌, ◌&&◌, Option, Some}
use Rattle.std.proofs.Common.{None, List, [], ◌∷◌, ◌++◌, refl, ap, ap₂, sym, ◌∙◌, map}
use Rattle.std.specs.List.{AllByRecursion, flat_map}
use Rattle.std.specs.Prelude.{replicate, ◌+◌}
use Rattle.std.proofs.lemmas.List.{map-set}
use Rattle.list_laws.specs.Nest.{place, Step, nested}
use Rattle.list_laws.proofs.Lists.{all_always, flat_map_same}
use Rattle.sql_meaning.specs.Values.{Value}
use Rattle.sql_meaning.specs.Truth.{truth3}
use Rattle.sql_meaning.specs.Rows.{Row, Assignment, Site, AtRowid, row_value, cell}
use Rattle.sql_meaning.specs.Expressions.{BExpr, names}
use Rattle.sql_meaning.specs.Evaluation.{ev, holds, is_true}
use Rattle.sql_meaning.specs.Statements.{Bound, Conjunct, chosen_hold, image, has_number}
use Rattle.sql_meaning.specs.Conjuncts.{level_test, first_at}
use Rattle.sql_meaning.proofs.Cells.{ev_cells}

abbrev pub settle : Option (Option Row) → Option (Option Row)
settle None = Some None
settle (Some x) = Some x

abbrev pub filled : Assignment → Assignment
filled env = map settle env

settled_value : (site : Site) (x : Option (Option Row)) → row_value site (settle x) ≡ row_value site x
settled_value site None = refl
settled_value site (Some x) = refl

pub filled_cell : (env : Assignment) (item : ℕ) (site : Site)
    → cell (filled env) item site ≡ cell env item site
filled_cell [] item site = refl
filled_cell (x ∷ env) zero site = settled_value site x
filled_cell (x ∷ env) (suc item) site = filled_cell env item site

ev_filled : (params : List Value) (e : BExpr) (env : Assignment)
    → ev (filled env) params e ≡ ev env params e
ev_filled params e env =
    ev_cells params e env (filled env) (all_always _ (names e) (λ item site. filled_cell env item site))

pub holds_filled : (params : List Value) (e : BExpr) (env : Assignment)
    → holds (filled env) params e ≡ holds env params e
holds_filled params e env = ap (λ v. is_true (truth3 v)) (ev_filled params e env)

values_filled : (params : List Value) (es : List BExpr) (env : Assignment)
    → map (ev (filled env) params) es ≡ map (ev env params) es
values_filled params [] env = refl
values_filled params (e ∷ es) env =
    ap₂ (λ v vs. v ∷ vs) (ev_filled params e env) (values_filled params es env)

image_filled : (bound : Bound) (params : List Value) (env : Assignment)
    → image bound params (filled env) ≡ image bound params env
image_filled bound params env =
    ap₂ (λ rowid values. cond bound.rowids (rowid ∷ []) values) (filled_cell env 0 AtRowid)
    (values_filled params bound.results env)

pub images_filled : (bound : Bound) (params : List Value) (envs : List Assignment)
    → map (image bound params) (map filled envs) ≡ map (image bound params) envs
images_filled bound params [] = refl
images_filled bound params (env ∷ envs) =
    ap₂ (λ v vs. v ∷ vs) (image_filled bound params env) (images_filled bound params envs)

pub place_filled : (env : Assignment) (item : ℕ) (x : Option Row)
    → place (filled env) item x ≡ filled (place env item x)
place_filled env item x = sym (map-set settle env item (Some x))

pub chosen_filled : (chosen : Conjunct → Bool) (params : List Value) (cs : List Conjunct)
    (env : Assignment) → chosen_hold chosen params cs (filled env) ≡ chosen_hold chosen params cs env
chosen_filled chosen params [] env = refl
chosen_filled chosen params (c ∷ cs) env =
    ap₂ (λ h r. (not (chosen c) || h) && r) (holds_filled params c.expr env)
    (chosen_filled chosen params cs env)

pub level_filled : (chosen : Conjunct → Bool) (params : List Value) (consumed placed : List ℕ)
    (item j : ℕ) (cs : List Conjunct) (env : Assignment)
    → level_test chosen params consumed placed item j cs (filled env)
    ≡ level_test chosen params consumed placed item j cs env
level_filled chosen params consumed placed item j [] env = refl
level_filled chosen params consumed placed item j (c ∷ cs) env =
    ap₂
    (λ h r. (not (chosen c && (first_at placed item c && not (has_number j consumed))) || h) && r)
    (holds_filled params c.expr env)
    (level_filled chosen params consumed placed item (j + 1) cs env)

-- a step that sees no difference
pub record IsBlind (t : Step (Option Row)) : Type 0 where
  pub walk : (env : Assignment) → t.walk (filled env) ≡ t.walk env
  pub test : (env : Assignment) → t.test (filled env) ≡ t.test env

cond_case : (b : Bool) (xs ys : List Assignment) → ys ≡ map filled xs
    → cond b ys [] ≡ map filled (cond b xs [])
cond_case true xs ys e = e
cond_case false xs ys e = refl

map-append : {X Y : Type 0} (f : X → Y) (xs ys : List X) → map f (xs ++ ys) ≡ map f xs ++ map f ys
map-append f [] ys = refl
map-append f (x ∷ xs) ys = ap (λ l. f x ∷ l) (map-append f xs ys)

map-flat_map : {X Y Z : Type 0} (f : Y → Z) (g : X → List Y) (xs : List X)
    → flat_map (λ x. map f (g x)) xs ≡ map f (flat_map g xs)
map-flat_map f g [] = refl
map-flat_map f g (x ∷ xs) =
    ap (λ l. map f (g x) ++ l) (map-flat_map f g xs) ∙ sym (map-append f (g x) (flat_map g xs))

pub nested_filled : (ts : List (Step (Option Row))) → AllByRecursion IsBlind ts → (env : Assignment)
    → nested ts (filled env) ≡ map filled (nested ts env)
nested_filled [] h env = refl
nested_filled (t ∷ ts) h env =
    ap
    (flat_map
    (λ x. cond (t.test (place (filled env) t.item x)) (nested ts (place (filled env) t.item x)) []))
    (h.0.walk env)
    ∙ flat_map_same _ _ (t.walk env)
    (λ x. ap (λ a. cond (t.test a) (nested ts a) []) (place_filled env t.item x)
    ∙ ap (λ b. cond b (nested ts (filled (place env t.item x))) []) (h.0.test (place env t.item x))
    ∙ cond_case (t.test (place env t.item x)) (nested ts (place env t.item x)) _
    (nested_filled ts h.1 (place env t.item x)))
    ∙ map-flat_map filled
    (λ x. cond (t.test (place env t.item x)) (nested ts (place env t.item x)) []) (t.walk env)

pub filled_start : (n : ℕ) → filled (replicate n None) ≡ replicate n (Some None)
filled_start zero = refl
filled_start (suc n) = ap (λ l. Some None ∷ l) (filled_start n)
