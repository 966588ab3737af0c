-- The whole of the lexemes: what is read of them, and what they spell.
use Rattle.std.proofs.Common.{◌≡◌, Some, List, [], ◌∷◌, ◌++◌, length, refl, ap, sym, ◌∙◌, subst}
use Rattle.std.proofs.Common.{arith}
use Rattle.std.proofs.lemmas.List.{append-nil}
use Rattle.sql_tree.specs.Statements.{StatementTree}
use Rattle.sql_read.specs.declared.lexeme.DescentFault.{DescentFault}
use Rattle.sql_read.specs.declared.lexeme.DescentFault.TheVariants as fault
use Rattle.sql_read.specs.Lexemes.{Lexeme}
use Rattle.sql_read.specs.Reading.{Fails}
use Rattle.sql_read.specs.Expressions.{below, expr_at}
use Rattle.sql_read.specs.Statements.{statement_at, ended, whole_at}
use Rattle.sql_parse.specs.Statements.{IsSpelled}
use Rattle.sql_parse.proofs.Steps.{bind_ok}
use Rattle.sql_parse.proofs.Sound.{expressions_sound}
use Rattle.sql_parse.proofs.SoundStatements.{statement_ok}
use Rattle.sql_parse.proofs.CompleteStatements.{statement_read}

ended_ok : (x y : StatementTree) (rest : List Lexeme) → ended x rest ≡ Some y
    → (x ≡ y) × (rest ≡ [])
ended_ok x y [] e = (cc, refl)
ended_ok x y (t ∷ rest) e = cc

-- what is read is spelled
pub read_is_spelled : (ts : List Lexeme) (x : StatementTree) → whole_at ts ≡ Some x → IsSpelled ts x
unfolding whole_at
read_is_spelled ts x e =
    let n = length ts in
    let d = bind_ok (statement_at (expr_at (below n)) ts) _ _ e in
    let end = ended_ok d.0.0 x d.0.1 d.2 in
    let t = statement_ok (expr_at (below n)) (expressions_sound n) ts d.0.0 d.0.1 d.1 in
    let all : t.0 ≡ ts = sym (t.1 ∙ ap (λ r. t.0 ++ r) end.1 ∙ append-nil t.0) in
    subst (λ q. IsSpelled q x) all (subst (λ z. IsSpelled t.0 z) end.0 t.2)

-- what is spelled is read
pub spelled_is_read : (ts : List Lexeme) (x : StatementTree) → IsSpelled ts x → whole_at ts ≡ Some x
unfolding whole_at
spelled_is_read ts x s =
    let read : statement_at (expr_at (below (length ts))) ts ≡ Some (x, []) =
    statement_read (length ts) s (omega arith) in
    rw read refl

-- at most one tree
pub one_tree : (ts : List Lexeme) (x y : StatementTree) → IsSpelled ts x → IsSpelled ts y → x ≡ y
one_tree ts x y s t =
    let a = spelled_is_read ts x s in
    let b = spelled_is_read ts y t in
    cc

pub not_spelled : (ts : List Lexeme) (e : DescentFault) → Fails e (whole_at ts)
    → (x : StatementTree) → IsSpelled ts x → e ≡ fault.Memory
not_spelled ts fault.Syntax none x s = let some = spelled_is_read ts x s in cc
not_spelled ts fault.Memory none x s = refl
