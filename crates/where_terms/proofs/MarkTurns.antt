-- Masks of items: what is marked is what is named.
use Rattle.std.proofs.Common.{◌≡◌, ◌<◌, ◌+◌, ℕ, Bool, true, false, ◌||◌, ◌==◌, List, [], ◌∷◌, ◌++◌}
use Rattle.std.proofs.Common.{refl, ap, sym, ◌∙◌, length, get_or, drop, map, subst, bit_or}
use Rattle.std.proofs.Common.{◌^◌}
use Rattle.std.specs.List.{AllByRecursion}
use Rattle.std.proofs.lemmas.Bool.{lt-ltb}
use Rattle.std.specs.Borrow.{Bor}
use Rattle.sql_meaning.specs.Statements.{has_number, is_empty}
use Rattle.sql_meaning.specs.Expressions.{names, all_names}
use Rattle.sql_bound.specs.declared.expression.BExpr.{BExpr}
use Rattle.sql_bound.specs.declared.key.KeyExpr.{KeyExpr}
use Rattle.sql_bound.specs.Expressions.{expr_of}
use Rattle.sql_bound.specs.Naming.{IsPlaced}
use Rattle.sql_bound.specs.Statements.{key_expr_of}
use Rattle.std.proofs.lemmas.Nat.{one_shl}
use Rattle.sql_bound.proofs.Bits.{no_item, one_moved}
use Rattle.sql_bound.proofs.Members.{plain_members}
use Rattle.where_terms.specs.Masks.{marked, marked_all, key_names}
use Rattle.list_laws.proofs.Turns.{dropped_or}

pub marked-append : (mask : ℕ) (xs ys : List ℕ)
    → marked_all mask (xs ++ ys) ≡ marked_all (marked_all mask xs) ys
marked-append mask [] ys = refl
marked-append mask (x ∷ xs) ys = marked-append (marked mask x) xs ys

pub marks_both : (mask : ℕ) (xs ys : List ℕ) (a b : ℕ) → a ≡ marked_all mask xs
    → b ≡ marked_all a ys → b ≡ marked_all mask (xs ++ ys)
marks_both mask xs ys a b is here =
    here ∙ ap (λ m. marked_all m ys) is ∙ sym (marked-append mask xs ys)

pub members_turn : (members : List (Bor BExpr)) (i : ℕ) (d : Bor BExpr) (mask made whole : ℕ)
    → i < length members → made ≡ marked_all mask (names (expr_of (get_or members i d).now))
    → marked_all mask (all_names (plain_members (drop i members))) ≡ whole
    → marked_all made (all_names (plain_members (drop (i + 1) members))) ≡ whole
members_turn members i d mask made whole below is inv =
    ap (λ m. marked_all m (all_names (plain_members (drop (i + 1) members)))) is
    ∙ sym
    (marked-append mask (names (expr_of (get_or members i d).now))
    (all_names (plain_members (drop (i + 1) members))))
    ∙ ap (λ ms. marked_all mask (all_names (plain_members ms))) (sym (dropped_or members i d below))
    ∙ inv

pub keys_turn : (keys : List KeyExpr) (i : ℕ) (d : KeyExpr) (mask made whole : ℕ)
    → i < length keys → made ≡ marked_all mask (names (expr_of (get_or keys i d).expr.now))
    → marked_all mask (key_names (map key_expr_of (drop i keys))) ≡ whole
    → marked_all made (key_names (map key_expr_of (drop (i + 1) keys))) ≡ whole
keys_turn keys i d mask made whole below is inv =
    ap (λ m. marked_all m (key_names (map key_expr_of (drop (i + 1) keys)))) is
    ∙ sym
    (marked-append mask (names (expr_of (get_or keys i d).expr.now))
    (key_names (map key_expr_of (drop (i + 1) keys))))
    ∙ ap (λ ks. marked_all mask (key_names (map key_expr_of ks))) (sym (dropped_or keys i d below))
    ∙ inv

-- the items of the one list before those of the other, the last first
abbrev behind : List ℕ → List ℕ → List ℕ
behind [] ms = ms
behind (n ∷ ns) ms = behind ns (n ∷ ms)

placed_all : (mask : ℕ) (ns ms : List ℕ) → AllByRecursion (λ n. n < 64) ns → IsPlaced mask ms
    → IsPlaced (marked_all mask ns) (behind ns ms)
placed_all mask [] ms small p = p
placed_all mask (n ∷ ns) ms small p =
    let bit : IsPlaced (bit_or mask (2 ^ n)) (n ∷ ms) =
    subst (λ (b : ℕ). IsPlaced (bit_or mask b) (n ∷ ms)) (one_shl n 64 small.0)
    (one_moved mask n 64 ms small.0 p) in
    let one : IsPlaced (marked mask n) (n ∷ ms) = rw (lt-ltb n 64 small.0) bit in
    placed_all (marked mask n) ns (n ∷ ms) small.1 one

or_turn : (a b c : Bool) → (b || (a || c)) ≡ ((a || b) || c)
or_turn true true c = refl
or_turn true false c = refl
or_turn false true c = refl
or_turn false false c = refl

or_none : (b : Bool) → (b || false) ≡ b
or_none true = refl
or_none false = refl

named_behind : (k : ℕ) (ns ms : List ℕ)
    → has_number k (behind ns ms) ≡ (has_number k ns || has_number k ms)
named_behind k [] ms = refl
named_behind k (n ∷ ns) ms =
    named_behind k ns (n ∷ ms) ∙ or_turn (k == n) (has_number k ns) (has_number k ms)

some_behind : (ns : List ℕ) (m : ℕ) (ms : List ℕ) → is_empty (behind ns (m ∷ ms)) ≡ false
some_behind [] m ms = refl
some_behind (n ∷ ns) m ms = some_behind ns n (m ∷ ms)

none_behind : (ns : List ℕ) → is_empty (behind ns []) ≡ is_empty ns
none_behind [] = refl
none_behind (n ∷ ns) = some_behind ns n []

pub marks_are_placed : (ns : List ℕ) → AllByRecursion (λ n. n < 64) ns
    → IsPlaced (marked_all 0 ns) ns
marks_are_placed ns small =
    let p = placed_all 0 ns [] small no_item in
    record {
      each = λ k. sym (named_behind k ns [] ∙ or_none (has_number k ns)) ∙ p.each k;
      none = sym (none_behind ns) ∙ p.none;
    }
