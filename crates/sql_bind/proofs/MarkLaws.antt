-- Marks after marks.
use Rattle.std.proofs.Common.{◌≡◌, ◌<◌, ◌+◌, ℕ, Bool, true, false, ◌||◌, List, [], ◌∷◌, ◌++◌}
use Rattle.std.proofs.Common.{length, get_or, take, replicate, filter, zero, suc, cond, refl, ap}
use Rattle.std.proofs.Common.{sym, ◌∙◌, arith}
use Rattle.std.specs.Borrow.{Bor}
use Rattle.std.specs.List.{slice_index_or, list_any, range_with_len}
use Rattle.std.proofs.lemmas.List.{length-replicate, get_or-replicate}
use Rattle.std.proofs.lemmas.List.Folds.{list_any-append}
use Rattle.std.proofs.Math.Bool.{or_assoc}
use Rattle.std.proofs.lemmas.List.{take_more}
use Rattle.sql_bound.specs.declared.expression.BExpr.{BExpr}
use Rattle.sql_bound.specs.Expressions.{expr_of}
use Rattle.sql_bound.proofs.Members.{plain_members}
use Rattle.sql_bind.specs.Needs.{names_column, some_names_column}
use Rattle.sql_bind.specs.Marks.{Marks, marked_numbers}
use Rattle.sql_meaning.specs.Expressions as plain
use Rattle.sql_bind.proofs.Ranges.{kept_more}

pub marks_as : (n m : ℕ → Bool) (old new : List Bool) → ((column : ℕ) → n column ≡ m column)
    → Marks n old new → Marks m old new
marks_as n m old new same h = record {
  length_kept = h.length_kept;
  each = λ column below. h.each column below
      ∙ ap (λ b. slice_index_or old column false || b) (same column);
}

pub marks_both : (n m : ℕ → Bool) (old mid new : List Bool) → Marks n old mid → Marks m mid new
    → Marks (λ column. n column || m column) old new
marks_both n m old mid new h k = record {
  length_kept = k.length_kept ∙ h.length_kept;
  each = λ column below.
      k.each column (rw h.length_kept below) ∙ ap (λ b. b || m column) (h.each column below)
      ∙ or_assoc (slice_index_or old column false) (n column) (m column);
}

or_false : (b : Bool) → b ≡ (b || false)
or_false true = refl
or_false false = refl

named_push : (item column : ℕ) (members : List (Bor BExpr)) (member : Bor BExpr)
    → some_names_column item column (plain_members (members ++ member ∷ []))
    ≡ (some_names_column item column (plain_members members)
    || names_column item column (expr_of member.now))
named_push item column [] member = sym (or_false (names_column item column (expr_of member.now)))
named_push item column (m ∷ ms) member =
    let first = names_column item column (expr_of m.now) in
    ap (λ b. first || b) (named_push item column ms member)
    ∙ sym
    (or_assoc first (some_names_column item column (plain_members ms))
    (names_column item column (expr_of member.now)))

-- a turn of the loop over members
pub marks_turn : (item : ℕ) (members : List (Bor BExpr)) (i : ℕ) (d : Bor BExpr)
    (old mid new : List Bool) → i < length members
    → Marks (λ column. some_names_column item column (plain_members (take i members))) old mid
    → Marks (λ column. names_column item column (expr_of (get_or members i d).now)) mid new
    → Marks (λ column. some_names_column item column (plain_members (take (i + 1) members))) old new
marks_turn item members i d old mid new below h k =
    marks_as _ _ old new
    (λ column.
    sym
    (ap (λ ms. some_names_column item column (plain_members ms)) (take_more members i d below)
    ∙ named_push item column (take i members) (get_or members i d)))
    (marks_both (λ column. some_names_column item column (plain_members (take i members)))
    (λ column. names_column item column (expr_of (get_or members i d).now)) old mid new h k)

pub marks_parts : (item : ℕ) (es fs gs : List plain.BExpr) (m0 m1 m2 m3 : List Bool)
    → Marks (λ column. list_any (names_column item column) es) m0 m1
    → Marks (λ column. list_any (names_column item column) fs) m1 m2
    → Marks (λ column. list_any (names_column item column) gs) m2 m3
    → Marks (λ column. list_any (names_column item column) (es ++ (fs ++ gs))) m0 m3
marks_parts item es fs gs m0 m1 m2 m3 h k l =
    marks_as _ _ m0 m3
    (λ column.
    sym
    (list_any-append (names_column item column) es (fs ++ gs)
    ∙ ap (λ b. list_any (names_column item column) es || b)
    (list_any-append (names_column item column) fs gs)))
    (marks_both (λ column. list_any (names_column item column) es)
    (λ column. list_any (names_column item column) fs || list_any (names_column item column) gs)
    m0 m1 m3 h
    (marks_both (λ column. list_any (names_column item column) fs)
    (λ column. list_any (names_column item column) gs) m1 m2 m3 k l))

filter_same : (p q : ℕ → Bool) (n : ℕ) → ((k : ℕ) → k < n → p k ≡ q k)
    → filter p (range_with_len 0 n) ≡ filter q (range_with_len 0 n)
filter_same p q zero h = refl
filter_same p q (suc n) h =
    let e : suc n ≡ n + 1 = omega arith in
    let before = filter_same p q n (λ k below. h k (omega (arith, below))) in
    ap (λ k. filter p (range_with_len 0 k)) e ∙ kept_more p n
    ∙ ap (λ ks. ks ++ cond (p n) (n ∷ []) []) before
    ∙ ap (λ b. filter q (range_with_len 0 n) ++ cond b (n ∷ []) []) (h n (omega arith))
    ∙ sym (kept_more q n)
    ∙ sym (ap (λ k. filter q (range_with_len 0 k)) e)

-- the numbers that are marked where nothing was
pub marked_named : (named : ℕ → Bool) (width : ℕ) (marks : List Bool)
    → Marks named (replicate width false) marks
    → marked_numbers marks ≡ filter named (range_with_len 0 width)
marked_named named width marks h =
    let whole : length marks ≡ width = h.length_kept ∙ length-replicate width false in
    rw whole
    (filter_same (λ column. slice_index_or marks column false) named width
    (λ column below.
    h.each column (rw (length-replicate width false) below)
    ∙ ap (λ b. b || named column) (get_or-replicate width column false false below)))
