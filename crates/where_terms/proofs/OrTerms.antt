-- OR terms as the code lists them are those of the meaning.
use Rattle.std.proofs.Common.{◌≡◌, ◌<◌, ◌+◌, ◌-◌, ℕ, Bool, true, false, List, [], ◌∷◌, ◌++◌}
use Rattle.std.proofs.Common.{Some, refl, ap, ap₂, sym, ◌∙◌, map, cond, length}
use Rattle.std.proofs.Common.{zero, suc, arith, drop, add-one, slice_get}
use Rattle.std.specs.List.{filter}
use Rattle.list_laws.proofs.Turns.{map_same}
use Rattle.sql_meaning.specs.Schemas.{Schema}
use Rattle.sql_meaning.specs.Items.{Item}
use Rattle.sql_meaning.specs.Expressions.{BExpr, BExprs, Nil, More, Any, ColumnRef, flat}
use Rattle.sql_meaning.specs.Statements.{Bound, Conjunct, numbers_from}
use Rattle.sql_meaning.specs.Conjuncts.{may_derive, may_serve}
use Rattle.sql_meaning.specs.Serving.{or_served, first_served}
use Rattle.sql_meaning.specs.TermLists.{derived_if, derived_terms, branch_terms, branch_column}
use Rattle.sql_meaning.specs.TermLists.{terms_of_branches, if_each_has_terms, branch_own}
use Rattle.sql_meaning.specs.TermLists.{branch_likes}
use Rattle.sql_meaning.specs.TermLists.{has_term, gathered, or_term, or_terms_of, or_terms_from}
use Rattle.sql_meaning.specs.TermLists.{OrTerm, ItemTerms, unless_served}
use Rattle.sql_meaning.proofs.TermLists.{itself}
use Rattle.sql_bound.specs.Fits.{width}
use Rattle.where_terms.specs.Listed.{sites, column_from, branch_from, branches_from}
use Rattle.where_terms.specs.Listed.{or_found_in, or_found_at}
use Rattle.where_terms.proofs.Steps.{made_more}

derived_none : (schema : Schema) (items : List Item) (item : ℕ) (c : ColumnRef)
    → derived_terms schema items [] item c ≡ []
derived_none schema items item c = rw (itself c) refl

derived_either : (schema : Schema) (items : List Item) (es : List BExpr) (item : ℕ) (c : ColumnRef)
    (b : Bool) → derived_terms schema items (cond b es []) item c
    ≡ derived_if b (derived_terms schema items es item c)
derived_either schema items es item c true = refl
derived_either schema items es item c false = derived_none schema items item c

branch_same : (schema : Schema) (b : Bound) (c : Conjunct) (item number : ℕ) (e : BExpr)
    → branch_from schema b item number (may_derive b item c) e
    ≡ branch_terms schema b c item number e
branch_same schema b c item number e =
    ap (filter has_term)
    (map_same
    (column_from schema b.items item (branch_own schema b item number (flat e))
    (branch_likes schema b item (flat e)) (cond (may_derive b item c) (flat e) []))
    (branch_column schema b c item number (flat e))
    (λ site. ap
    (λ ts. gathered site (branch_own schema b item number (flat e)) ts
    (branch_likes schema b item (flat e)))
    (derived_either schema b.items (flat e) item (record { item = item; site = site })
    (may_derive b item c)))
    (sites (width schema b.items item)))

branches_same : (schema : Schema) (b : Bound) (c : Conjunct) (item number : ℕ) (es : BExprs)
    → branches_from schema b item number (may_derive b item c) es
    ≡ terms_of_branches schema b c item number es
branches_same schema b c item number Nil = refl
branches_same schema b c item number (More e es) =
    ap₂ if_each_has_terms (branch_same schema b c item number e)
    (branches_same schema b c item number es)

in_expr : (schema : Schema) (b : Bound) (c : Conjunct) (item number : ℕ) (e : BExpr)
    → or_found_in schema b item number (Some c) e ≡ or_terms_of schema b c item number e
in_expr schema b c item number (Any es) =
    ap (λ bs. unless_served (or_served item es (first_served item es)) (or_term number bs))
    (branches_same schema b c item number es)
in_expr schema b c item number e = refl

at_conjunct : (schema : Schema) (b : Bound) (c : Conjunct) (item number : ℕ)
    → or_found_at schema b item number (Some c)
    ≡ cond (may_serve b item c) (or_terms_of schema b c item number c.expr) []
at_conjunct schema b c item number =
    ap (λ ts. cond (may_serve b item c) ts []) (in_expr schema b c item number c.expr)

or_here : (schema : Schema) (b : Bound) (item number : ℕ) (cs : List Conjunct) (n : ℕ)
    → n < length cs
    → or_terms_from schema b item number (drop n cs)
    ≡ or_found_at schema b item number (slice_get cs n)
    ++ or_terms_from schema b item (suc number) (drop (suc n) cs)
or_here schema b item number [] n below = absurd (omega arith)
or_here schema b item number (c ∷ cs) zero below =
    ap (λ ts. ts ++ or_terms_from schema b item (suc number) cs)
    (sym (at_conjunct schema b c item number))
or_here schema b item number (c ∷ cs) (suc n) below =
    or_here schema b item number cs n (omega arith)

pub or_turn : (schema : Schema) (b : Bound) (item number : ℕ) (cs : List Conjunct)
    (made more whole here : List OrTerm) → number < length cs
    → here ≡ or_found_at schema b item number (slice_get cs number)
    → more ≡ made ++ here
    → made ++ or_terms_from schema b item number (drop number cs) ≡ whole
    → more ++ or_terms_from schema b item (number + 1) (drop (number + 1) cs) ≡ whole
or_turn schema b item number cs made more whole here below is m inv =
    rw add-one
    (made_more made here (or_terms_from schema b item (suc number) (drop (suc number) cs))
    more _ whole m
    (or_here schema b item number cs number below
    ∙ ap (λ t. t ++ or_terms_from schema b item (suc number) (drop (suc number) cs)) (sym is)) inv)

pub number_turn : (f : ℕ → ItemTerms) (n i : ℕ) (made more whole : List ItemTerms)
    (x : ItemTerms) → i < n
    → x ≡ f i → more ≡ made ++ x ∷ [] → made ++ map f (numbers_from i (n - i)) ≡ whole
    → more ++ map f (numbers_from (i + 1) (n - (i + 1))) ≡ whole
number_turn f n i made more whole x below is m inv =
    let one : n - i ≡ suc (n - (i + 1)) = omega arith in
    made_more made (x ∷ []) (map f (numbers_from (i + 1) (n - (i + 1)))) more _ whole m
    (rw one (ap (λ y. y ∷ map f (numbers_from (i + 1) (n - (i + 1)))) (sym is))) inv
