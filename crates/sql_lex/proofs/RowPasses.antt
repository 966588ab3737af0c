-- All parentheses, a window at a time.
use Rattle.std.proofs.Common.{◌≡◌, ℕ, ◌+◌, ◌<◌, ◌≤◌, max, Bool, true, false, ◌||◌, List, []}
use Rattle.std.proofs.Common.{◌∷◌, length, map, drop, get_or, drop_of_length-le}
use Rattle.std.proofs.Common.{refl, ap, sym, ◌∙◌, arith}
use Rattle.std.proofs.lemmas.List.{length-map}
use Rattle.sql_tokens.specs.Terminals.{terminal_of}
use Rattle.sql_tokens.specs.declared.token.Token.{Token}
use Rattle.sql_lex.specs.Rows.{room, step_of, row_steps}
use Rattle.sql_lex.specs.Rows.{State, start, next_state, next_stack, finds, top_counts, top_from}
use Rattle.sql_lex.specs.Rows.{counts, any_from, row_from, row_in, depth_behind, deepest_of}
use Rattle.sql_lex.proofs.Fronts.{first_behind}
use Rattle.sql_lex.specs.declared.row_values.RowStep.{RowStep}
use Rattle.sql_lex.specs.declared.row_values.RowStep.TheVariants as step

exchange : (a b c d : Bool) → ((a || b) || (c || d)) ≡ ((a || c) || (b || d))
exchange true b c d = refl
exchange false true true d = refl
exchange false true false d = refl
exchange false false c d = refl

top_split : (base : ℕ) (bs : List Bool)
    → top_from base bs ≡ (top_counts base bs || top_from (base + room) bs)
top_split base [] = refl
top_split base (true ∷ bs) = grind arith
top_split base (false ∷ bs) = grind arith

counts_split : (base : ℕ) (s : State) (m : RowStep)
    → counts base s m ≡ (finds base s m || counts (base + room) s m)
counts_split base s step.Comma = top_split base s.stack
counts_split base s step.Open = refl
counts_split base s step.Close = refl
counts_split base s step.In = refl
counts_split base s step.Other = refl

pub split : (base : ℕ) (s : State) (ms : List RowStep)
    → any_from base s ms ≡ (row_from base s ms || any_from (base + room) s ms)
unfolding any_from row_from
split base s [] = refl
split base s (m ∷ ms) =
    rw (counts_split base s m, split base (next_state m s) ms) (exchange (finds base s m) _ _ _)

length_next : (m : RowStep) (bs : List Bool) (a : Bool)
    → length (next_stack m bs a) ≡ depth_behind m (length bs)
length_next step.Open bs a = omega arith
length_next step.Close [] a = refl
length_next step.Close (b ∷ bs) a = omega arith
length_next step.Comma bs a = refl
length_next step.In bs a = refl
length_next step.Other bs a = refl

shallow_top : (base : ℕ) (bs : List Bool) → length bs ≤ base → top_from base bs ≡ false
shallow_top base [] h = refl
shallow_top base (b ∷ bs) h = grind arith

shallow_here : (base : ℕ) (s : State) (m : RowStep) → length s.stack ≤ base
    → counts base s m ≡ false
shallow_here base s step.Comma h = shallow_top base s.stack h
shallow_here base s step.Open h = refl
shallow_here base s step.Close h = refl
shallow_here base s step.In h = refl
shallow_here base s step.Other h = refl

pub shallow : (base : ℕ) (s : State) (ms : List RowStep) → deepest_of (length s.stack) ms ≤ base
    → any_from base s ms ≡ false
unfolding any_from deepest_of
shallow base s [] h = refl
shallow base s (m ∷ ms) h =
    let here : length s.stack ≤ base = omega arith in
    let e = length_next m s.stack s.after in
    rw (shallow_here base s m here) (shallow base (next_state m s) ms (rw e (omega arith)))

pub found_in : (base : ℕ) (ms : List RowStep) → row_in base ms ≡ true
    → any_from base start ms ≡ true
unfolding row_in
found_in base ms h = split base start ms ∙ ap (λ b. b || any_from (base + room) start ms) h

pub none_in : (base : ℕ) (ms : List RowStep) → row_in base ms ≡ false
    → any_from (base + room) start ms ≡ any_from base start ms
unfolding row_in
none_in base ms h = sym (split base start ms ∙ ap (λ b. b || any_from (base + room) start ms) h)

at_least : (d : ℕ) (ms : List RowStep) → d ≤ deepest_of d ms
unfolding deepest_of
at_least d [] = omega arith
at_least d (m ∷ ms) = omega arith

deepest_first : (d : ℕ) (q ms : List RowStep) (m : RowStep) → q ≡ m ∷ ms
    → deepest_of d q ≡ max d (deepest_of (depth_behind m d) ms)
unfolding deepest_of
deepest_first d q ms m is = ap (deepest_of d) is

pub deepest_turn :
    (steps : List RowStep) (i d e most more whole : ℕ) (m : RowStep)
    → i < length steps
    → d ≤ most
    → m ≡ get_or steps i step.Open
    → e ≡ depth_behind m d
    → more ≡ max most e
    → max most (deepest_of d (drop i steps)) ≡ whole
    → max more (deepest_of e (drop (i + 1) steps)) ≡ whole
deepest_turn steps i d e most more whole m lt le at is so h =
    let front = first_behind steps i step.Open m lt at in
    let a = deepest_first d _ _ _ front in
    let b : deepest_of (depth_behind m d) (drop (i + 1) steps) ≡ deepest_of e (drop (i + 1) steps)
    = ap (λ k. deepest_of k (drop (i + 1) steps)) (sym is) in
    let f = at_least e (drop (i + 1) steps) in
    omega (arith, a, b, f)

-- a step for each token
pub length-row_steps : (text : List ℕ) (tokens : List Token)
    → length (row_steps text tokens) ≡ length tokens
length-row_steps text tokens =
    length-map (map (terminal_of text) tokens) step_of ∙ length-map tokens (terminal_of text)

pub deepest_over :
    (steps : List RowStep) (i d most whole : ℕ)
    → length steps ≤ i
    → d ≤ most
    → max most (deepest_of d (drop i steps)) ≡ whole
    → most ≡ whole
unfolding deepest_of
deepest_over steps i d most whole ge le h =
    let rest : deepest_of d (drop i steps) ≡ d = ap (deepest_of d) (drop_of_length-le steps ge) in
    omega (arith, rest, h)
