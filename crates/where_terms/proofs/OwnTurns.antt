-- A turn of the loop over the conjuncts of a statement.
use Rattle.std.proofs.Common.{◌≡◌, ◌<◌, ◌+◌, ℕ, List, [], ◌∷◌, ◌++◌, Option}
use Rattle.std.proofs.Common.{refl, ap, sym, ◌∙◌, length, zero, suc, arith, drop, add-one}
use Rattle.std.proofs.Common.{slice_get}
use Rattle.sql_meaning.specs.Schemas.{Schema}
use Rattle.sql_meaning.specs.Statements.{Bound, Conjunct}
use Rattle.sql_meaning.specs.Terms.{Term}
use Rattle.sql_meaning.specs.Serving.{Served, numbered_term, direct_terms}
use Rattle.where_terms.specs.Owns.{own_at_item, allowed_at}
use Rattle.where_terms.proofs.Steps.{made_more}

here : (schema : Schema) (b : Bound) (item number : ℕ) (cs : List Conjunct) (n : ℕ) → n < length cs
    → direct_terms (own_at_item schema b.items item) b item number (drop n cs)
    ≡ numbered_term number (allowed_at schema b item (slice_get cs n))
    ++ direct_terms (own_at_item schema b.items item) b item (suc number) (drop (suc n) cs)
here schema b item number [] n below = absurd (omega arith)
here schema b item number (c ∷ cs) zero below = refl
here schema b item number (c ∷ cs) (suc n) below = here schema b item number cs n (omega arith)

pub own_turn : (schema : Schema) (b : Bound) (item number : ℕ) (cs : List Conjunct)
    (made more whole : List Term) (s : Option Served) → number < length cs
    → s ≡ allowed_at schema b item (slice_get cs number) → more ≡ made ++ numbered_term number s
    → made ++ direct_terms (own_at_item schema b.items item) b item number (drop number cs) ≡ whole
    → more ++ direct_terms (own_at_item schema b.items item) b item (number + 1)
    (drop (number + 1) cs) ≡ whole
own_turn schema b item number cs made more whole s below is m inv =
    rw add-one
    (made_more made (numbered_term number s)
    (direct_terms (own_at_item schema b.items item) b item (suc number) (drop (suc number) cs)) more
    _ whole m
    (here schema b item number cs number below
    ∙ ap
    (λ o. numbered_term number o
    ++ direct_terms (own_at_item schema b.items item) b item (suc number) (drop (suc number) cs))
    (sym is)) inv)
