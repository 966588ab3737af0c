-- The conditions that are due, one conjunct further.
use Rattle.std.proofs.Common.{◌≡◌, ℕ, ◌+◌, Bool, true, false, cond, Option, Some, List, [], ◌∷◌}
use Rattle.std.proofs.Common.{◌++◌, refl, ap, sym, ◌∙◌, map, drop, append_assoc, subst}
use Rattle.std.specs.Prelude.{slice_get, IsSomeAnd}
use Rattle.std.proofs.lemmas.List.{map_push}
use Rattle.list_laws.proofs.Turns.{dropped_get}
use Rattle.sql_meaning.specs.Expressions.{BExpr}
use Rattle.sql_meaning.specs.Statements.{Conjunct}
use Rattle.bound_rows.specs.Levels.{is_due, due_exprs}

pub seen_pushed : {X Y : Type 0} (seen : X → Y) (b : Bool) (old : List X) (x : X)
    → map seen (cond b (old ++ x ∷ []) old) ≡ cond b (map seen old ++ seen x ∷ []) (map seen old)
seen_pushed seen true old x = map_push seen old x
seen_pushed seen false old x = refl

some_case : (P : Conjunct → Type 0) (o : Option Conjunct) (c : Conjunct) → o ≡ Some c
    → IsSomeAnd o P → P c
some_case P o c e h = subst (λ (z : Option Conjunct). IsSomeAnd z P) e h

pushed_case : (b : Bool) (before rest all : List BExpr) (e : BExpr)
    → before ++ cond b (e ∷ rest) rest ≡ all
    → cond b (before ++ e ∷ []) before ++ rest ≡ all
pushed_case true before rest all e h = append_assoc before (e ∷ []) rest ∙ h
pushed_case false before rest all e h = h

pub due_more : (owned : Bool) (numbers items : List ℕ) (item n : ℕ) (cs : List Conjunct)
    (c : Conjunct) (r : Bool) (before after all : List BExpr)
    → slice_get cs n ≡ Some c
    → IsSomeAnd (slice_get cs n) (λ d. r ≡ is_due owned numbers items item n d)
    → after ≡ cond r (before ++ c.expr ∷ []) before
    → before ++ due_exprs owned numbers items item n (drop n cs) ≡ all
    → after ++ due_exprs owned numbers items item (n + 1) (drop (n + 1) cs) ≡ all
due_more owned numbers items item n cs c r before after all at due pushed h =
    let rest = due_exprs owned numbers items item (n + 1) (drop (n + 1) cs) in
    let is : r ≡ is_due owned numbers items item n c = some_case _ (slice_get cs n) c at due in
    ap (λ l. l ++ rest) pushed
    ∙ pushed_case r before rest all c.expr
    (ap (λ b. before ++ cond b (c.expr ∷ rest) rest) is
    ∙ ap (λ l. before ++ due_exprs owned numbers items item n l) (sym (dropped_get cs n c at)) ∙ h)
