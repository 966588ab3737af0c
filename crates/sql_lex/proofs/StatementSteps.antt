-- One step of the statements.
use Rattle.std.proofs.Common.{◌≡◌, ℕ, zero, suc, ◌+◌, ◌-◌, ◌<◌, ◌≤◌, max, Bool, true, false, cond}
use Rattle.std.proofs.Common.{List, [], ◌∷◌, ◌++◌, length, drop, map, refl, ap, sym, ◌∙◌, arith}
use Rattle.std.proofs.Common.{add-zero, add-one, append_assoc, append-nil, length-drop, drop-drop}
use Rattle.std.proofs.Common.{drop_of_length-le, drop-cons}
use Rattle.std.specs.Prelude.{slice_get, ◌&&◌}
use Rattle.sql_tokens.specs.declared.terminal.Terminal.{Terminal}
use Rattle.sql_tokens.specs.declared.terminal.Terminal.TheVariants as terminal
use Rattle.sql_tokens.specs.declared.symbols.Symbol.TheVariants as symbol
use Rattle.sql_lex.specs.Looks.{is_symbol}
use Rattle.sql_lex.specs.Statements.{trigger_len, ends_trigger, run_len, spans_from, spans_of_run}
use Rattle.std.proofs.lemmas.List.{drop-map}
use Rattle.sql_tokens.specs.declared.token.Token.{Token}
use Rattle.sql_lex.specs.declared.statement_runs.Span.{Span}

passed : (k p : ℕ) (ts : List Terminal) → spans_from k p ts ≡ spans_from 0 (p + k) (drop k ts)
unfolding spans_from
passed zero p ts = rw add-zero refl
passed (suc k) p [] = refl
passed (suc k) p (t ∷ ts) =
    let e : p + 1 + k ≡ p + suc k = omega arith in
    passed k (p + 1) ts ∙ ap (λ q. spans_from 0 q (drop k ts)) e

after_first :
    (n p : ℕ) (t : Terminal) (ts : List Terminal)
    → spans_from (n - 1) (p + 1) ts ≡ spans_from 0 (p + max n 1) (drop (max n 1) (t ∷ ts))
after_first zero p t ts = refl
after_first (suc k) p t ts =
    let e : p + 1 + k ≡ p + suc k = omega arith in
    let d : suc k - 1 ≡ k = omega arith in
    let x : max (suc k) 1 ≡ suc k = omega arith in
    rw (x, d) (passed k (p + 1) ts ∙ ap (λ q. spans_from 0 q (drop k ts)) e)

step :
    (p : ℕ) (ts : List Terminal)
    → 0 < length ts
    → spans_from 0 p ts
    ≡ spans_of_run p (run_len ts)
    ++ spans_from 0 (p + max (run_len ts) 1) (drop (max (run_len ts) 1) ts)
unfolding spans_from
step p [] some = absurd (omega arith)
step p (t ∷ ts) some =
    ap (λ rest. spans_of_run p (run_len (t ∷ ts)) ++ rest)
    (after_first (run_len (t ∷ ts)) p t ts)

-- one turn of the loop
pub turn :
    (ts : List Terminal) (found more whole : List Span) (start run : ℕ)
    → start < length ts
    → run ≡ run_len (drop start ts)
    → more ≡ found ++ spans_of_run start run
    → found ++ spans_from 0 start (drop start ts) ≡ whole
    → more ++ spans_from 0 (start + max run 1) (drop (start + max run 1) ts) ≡ whole
turn ts found more whole start run lt is new old =
    let there : 0 < length (drop start ts) = omega (arith, length-drop start ts) in
    let stepped :
    spans_from 0 start (drop start ts)
    ≡ spans_of_run start run
    ++ spans_from 0 (start + max run 1) (drop (max run 1) (drop start ts))
    = rw is (step start (drop start ts) there) in
    rw (new, append_assoc, ← drop-drop (max run 1) start ts, ← stepped) old

pub ended :
    (ts : List Terminal) (found whole : List Span) (start : ℕ)
    → length ts ≤ start
    → found ++ spans_from 0 start (drop start ts) ≡ whole
    → found ≡ whole
unfolding spans_from
ended ts found whole start ge e = sym (append-nil found) ∙ rw (drop_of_length-le ts ge) at e

one_more :
    (q : List Terminal) (t : Terminal) (ts : List Terminal)
    → q ≡ t ∷ ts
    → ends_trigger q ≡ false
    → trigger_len q ≡ 1 + trigger_len ts
unfolding trigger_len
one_more q t ts is e =
    ap trigger_len is ∙ ap (λ b. cond b 2 (1 + trigger_len ts)) (sym (ap ends_trigger is) ∙ e)

-- one turn of a trigger's loop
pub trigger_turn :
    (ts : List Terminal) (n : ℕ)
    → n < length ts
    → ends_trigger (drop n ts) ≡ false
    → n + trigger_len (drop n ts) ≡ n + 1 + trigger_len (drop (n + 1) ts)
trigger_turn ts n lt e =
    let a = one_more _ _ _ (drop-cons ts n terminal.Bad lt) e in
    let b : trigger_len (drop (n + 1) ts) ≡ trigger_len (drop (suc n) ts)
    = ap (λ k. trigger_len (drop k ts)) (add-one n) in
    omega (arith, a, b)

pub trigger_end :
    (ts : List Terminal) (n : ℕ)
    → n < length ts
    → ends_trigger (drop n ts) ≡ true
    → trigger_len (drop n ts) ≡ 2
unfolding trigger_len
trigger_end ts n lt e =
    let is = drop-cons ts n terminal.Bad lt in
    ap trigger_len is
    ∙ ap (λ b. cond b 2 (1 + trigger_len (drop (suc n) ts))) (sym (ap ends_trigger is) ∙ e)

third : (ts : List Terminal) → is_symbol symbol.Semicolon (slice_get ts 2) ≡ true → 3 ≤ length ts
unfolding is_symbol
third [] e = absurd (cc)
third (a ∷ []) e = absurd (cc)
third (a ∷ b ∷ []) e = absurd (cc)
third (a ∷ b ∷ c ∷ ts) e = omega arith

second_true : (a b : Bool) → (a && b) ≡ true → b ≡ true
second_true true b e = e
second_true false b e = absurd (cc)

-- a trigger's end has three tokens
pub trigger_end_len : (ts : List Terminal) → ends_trigger ts ≡ true → 3 ≤ length ts
unfolding ends_trigger
trigger_end_len ts e = third ts (second_true _ _ e)

-- what stands from a place on, and what is seen there
pub seen_rest :
    (f : Token → Terminal) (n : ℕ) (tokens rest : List Token)
    → rest ≡ drop n tokens
    → map f rest ≡ drop n (map f tokens)
seen_rest f n tokens rest e = ap (map f) e ∙ sym (drop-map f n tokens)

-- a trigger that nothing ends
pub trigger_over :
    (ts : List Terminal) (n : ℕ) → length ts ≤ n → trigger_len (drop n ts) ≡ 0
unfolding trigger_len
trigger_over ts n ge = ap trigger_len (drop_of_length-le ts ge)
