-- The stack in an array, and its levels.
use Rattle.std.proofs.Common.{◌≡◌, ℕ, zero, suc, ◌+◌, ◌<◌, ◌≤◌, nat_lt, Bool, true, false, List, []}
use Rattle.std.proofs.Common.{◌∷◌, length, map, drop, get_or, slice_set, subst, refl, ap}
use Rattle.std.proofs.Common.{sym, ◌∙◌, arith, add-one, get_or-set_same, get_or-set_other}
use Rattle.std.proofs.Common.{drop_of_length-le}
use Rattle.std.proofs.lemmas.List.{length-map}
use Rattle.sql_tokens.specs.Terminals.{terminal_of}
use Rattle.sql_tokens.specs.declared.token.Token.{Token}
use Rattle.sql_lex.specs.Depth.{depth_step_of, depth_steps}
use Rattle.sql_lex.specs.Depth.{stack_of, total, next_levels, base_level, depth_from, AllCounted}
use Rattle.sql_lex.specs.Depth.{IsBased, depth_limit}
use Rattle.sql_lex.proofs.Fronts.{first_behind}
use Rattle.sql_lex.specs.declared.depth.DepthStep.{DepthStep}
use Rattle.sql_lex.specs.declared.depth.DepthStep.TheVariants as step
use Rattle.sql_lex.specs.declared.depth.Level.{Level}

pub length-stack : (levels : List Level) (n : ℕ) → length (stack_of levels n) ≡ n
length-stack levels zero = refl
length-stack levels (suc n) = let e = length-stack levels n in omega arith

counted : (ls : List Level) → AllCounted ls → length ls ≤ total ls
counted [] h = omega arith
counted (l ∷ ls) h = let a = h.0 in let b = counted ls h.1 in omega arith

-- no more levels than the sum and one
pub based_length : (ls : List Level) → IsBased ls → length ls ≤ total ls + 1
unfolding IsBased
based_length [] h = omega arith
based_length (l ∷ ls) h = let b = counted ls h in omega arith

pub based_next : (m : DepthStep) (ls : List Level) → IsBased ls → IsBased (next_levels m ls)
unfolding IsBased
based_next m [] h = h
based_next step.Open (l ∷ ls) h = (omega arith, h)
based_next step.Close (l ∷ []) h = h
based_next step.Close (l ∷ k ∷ ls) h = h.1
based_next step.Deeper (l ∷ ls) h = h
based_next step.Between (l ∷ ls) h = h
based_next step.And (l ∷ ls) h = h
based_next step.Reset (l ∷ ls) h = h
based_next step.Other (l ∷ ls) h = h

pub some_next : (m : DepthStep) (ls : List Level) → 0 < length ls → 0 < length (next_levels m ls)
some_next m [] h = h
some_next step.Open (l ∷ ls) h = omega arith
some_next step.Close (l ∷ []) h = h
some_next step.Close (l ∷ k ∷ ls) h = omega arith
some_next step.Deeper (l ∷ ls) h = h
some_next step.Between (l ∷ ls) h = h
some_next step.And (l ∷ ls) h = h
some_next step.Reset (l ∷ ls) h = h
some_next step.Other (l ∷ ls) h = h

stack_set : (levels : List Level) (k n : ℕ) (v : Level) → n ≤ k
    → stack_of (slice_set levels k v) n ≡ stack_of levels n
stack_set levels k zero v le = refl
stack_set levels k (suc n) v le =
    ap (λ x. x ∷ stack_of (slice_set levels k v) n)
    (get_or-set_other levels k n v base_level (λ e. omega arith))
    ∙ ap (λ xs. get_or levels n base_level ∷ xs) (stack_set levels k n v (omega arith))

pub stack_push : (levels : List Level) (n : ℕ) (v : Level) → n < length levels
    → stack_of (slice_set levels n v) (n + 1) ≡ v ∷ stack_of levels n
stack_push levels n v lt =
    rw (add-one, get_or-set_same levels n v base_level lt, stack_set levels n n v (omega arith))
    refl

pub ruleset stack_steps = (stack_push, length-stack)

pub base_based : IsBased (base_level ∷ [])
unfolding IsBased
base_based = tt

pub below_counted : (ls mid rest : List Level) (top below : Level) → IsBased ls → ls ≡ top ∷ mid
    → mid ≡ below ∷ rest → 1 ≤ below.count
unfolding IsBased
below_counted [] mid rest top below h e f = absurd (cc)
below_counted (l ∷ []) mid rest top below h e f = absurd (cc)
below_counted (l ∷ k ∷ ls) mid rest top below h e f = let same : k ≡ below = cc in
    subst (λ (q : Level). 1 ≤ q.count) same h.0

deep_now : (ls : List Level) (m : DepthStep) (ms : List DepthStep)
    → depth_limit < total (next_levels m ls)
    → nat_lt depth_limit (depth_from ls (m ∷ ms)) ≡ true
unfolding depth_from
deep_now ls m ms h = grind arith

deep_later : (ls : List Level) (m : DepthStep) (ms : List DepthStep)
    → total (next_levels m ls) ≤ depth_limit
    → nat_lt depth_limit (depth_from ls (m ∷ ms))
    ≡ nat_lt depth_limit (depth_from (next_levels m ls) ms)
unfolding depth_from
deep_later ls m ms h = grind arith

pub now :
    (steps : List DepthStep) (i : ℕ) (ls next : List Level) (m : DepthStep) (whole : Bool)
    → i < length steps
    → m ≡ get_or steps i step.Open
    → next ≡ next_levels m ls
    → depth_limit < total next
    → nat_lt depth_limit (depth_from ls (drop i steps)) ≡ whole
    → true ≡ whole
now steps i ls next m whole lt at is deep h =
    sym (deep_now ls m (drop (i + 1) steps)
    (subst (λ (q : List Level). depth_limit < total q) is deep))
    ∙ sym (ap (λ q. nat_lt depth_limit (depth_from ls q)) (first_behind steps i step.Open m lt at))
    ∙ h

pub later :
    (steps : List DepthStep) (i : ℕ) (ls next : List Level) (m : DepthStep) (whole : Bool)
    → i < length steps
    → m ≡ get_or steps i step.Open
    → next ≡ next_levels m ls
    → total next ≤ depth_limit
    → nat_lt depth_limit (depth_from ls (drop i steps)) ≡ whole
    → nat_lt depth_limit (depth_from next (drop (i + 1) steps)) ≡ whole
later steps i ls next m whole lt at is low h =
    ap (λ q. nat_lt depth_limit (depth_from q (drop (i + 1) steps))) is
    ∙ sym (deep_later ls m (drop (i + 1) steps)
    (subst (λ (q : List Level). total q ≤ depth_limit) is low))
    ∙ sym (ap (λ q. nat_lt depth_limit (depth_from ls q)) (first_behind steps i step.Open m lt at))
    ∙ h

pub over :
    (steps : List DepthStep) (i : ℕ) (ls : List Level) (whole : Bool)
    → length steps ≤ i
    → nat_lt depth_limit (depth_from ls (drop i steps)) ≡ whole
    → false ≡ whole
unfolding depth_from
over steps i ls whole ge h =
    ap (λ q. nat_lt depth_limit (depth_from ls q)) (sym (drop_of_length-le steps ge)) ∙ h

-- a step for each token
pub length-depth_steps :
    (text : List ℕ) (tokens : List Token) → length (depth_steps text tokens) ≡ length tokens
length-depth_steps text tokens =
    length-map (map (terminal_of text) tokens) depth_step_of
    ∙ length-map tokens (terminal_of text)
