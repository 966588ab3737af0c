-- A turn of the loop over members: what they name together with those before them.
use Rattle.std.proofs.Common.{◌≡◌, ◌<◌, ◌+◌, ℕ, List, ◌∷◌, length, get_or, drop, ap, sym, ◌∙◌}
use Rattle.std.proofs.Common.{add-one, drop-cons}
use Rattle.std.specs.Borrow.{Bor}
use Rattle.sql_meaning.specs.Expressions.{names, all_names}
use Rattle.sql_bound.specs.declared.expression.BExpr.{BExpr}
use Rattle.sql_bound.specs.declared.serving.Standing.{Standing}
use Rattle.sql_bound.specs.Expressions.{expr_of}
use Rattle.sql_bound.specs.Naming.{farther_of, standing_all}
use Rattle.sql_bound.proofs.Members.{plain_members}
use Rattle.sql_bound.proofs.Standings.{standing-append, farther_assoc}

pub standing_turn : (mask item : ℕ) (members : List (Bor BExpr)) (i : ℕ) (d : Bor BExpr)
    (all made whole : Standing) → i < length members
    → made
    ≡ farther_of all (standing_all mask item (names (expr_of (get_or members i d).now)))
    → farther_of all (standing_all mask item (all_names (plain_members (drop i members)))) ≡ whole
    → farther_of made (standing_all mask item (all_names (plain_members (drop (i + 1) members))))
    ≡ whole
standing_turn mask item members i d all made whole below is invariant =
    let here = names (expr_of (get_or members i d).now) in
    let rest = all_names (plain_members (drop (i + 1) members)) in
    let cut : drop i members ≡ get_or members i d ∷ drop (i + 1) members =
    rw add-one (drop-cons members i d below) in
    let before = rw cut at invariant in
    rw is
    (farther_assoc all (standing_all mask item here) (standing_all mask item rest)
    ∙ ap (farther_of all) (sym (standing-append mask item here rest))
    ∙ before)
