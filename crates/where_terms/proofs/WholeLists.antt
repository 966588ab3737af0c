-- The list over places is the list over all columns; and turns of the loops over branches and ORs.
use Rattle.std.proofs.Common.{◌≡◌, ◌<◌, ◌+◌, ℕ, Bool, true, false, List, [], ◌∷◌, ◌++◌, Option}
use Rattle.std.proofs.Common.{Some, None}
use Rattle.std.proofs.Common.{refl, ap, sym, ◌∙◌, length, get_or, drop, map, option_map, zero, suc}
use Rattle.std.proofs.Common.{add-one, ◌==◌}
use Rattle.std.specs.List.{filter}
use Rattle.std.specs.Borrow.{Bor}
use Rattle.std.proofs.lemmas.List.{append_assoc}
use Rattle.sql_meaning.specs.Expressions.{ColumnRef, BExpr}
use Rattle.sql_meaning.specs.Rows.{AtRowid, AtColumn}
use Rattle.sql_meaning.specs.Schemas.{Schema}
use Rattle.sql_meaning.specs.Items.{Item}
use Rattle.sql_meaning.specs.Statements.{Bound, numbers_from}
use Rattle.sql_meaning.specs.Terms.{Term}
use Rattle.sql_meaning.specs.Choices.{ColumnTerms}
use Rattle.sql_meaning.specs.TermLists.{Pair, link_pairs, gathered, derived_along, has_term}
use Rattle.sql_meaning.specs.TermLists.{if_each_has_terms}
use Rattle.sql_bound.specs.declared.expression.BExpr.{BExpr as Held}
use Rattle.sql_bound.specs.Expressions.{expr_of}
use Rattle.sql_bound.proofs.Members.{plain_members}
use Rattle.where_terms.specs.Linked.{linked_in}
use Rattle.where_terms.specs.Derived.{has_constant}
use Rattle.where_terms.specs.Sites.{sites_from}
use Rattle.where_terms.specs.Listed.{sites, column_from, columns_from, branch_from, branches_from}
use Rattle.where_terms.specs.Listed.{chosen_in}
use Rattle.sql_bound.specs.Fits.{width}
use Rattle.std.proofs.Common.{arith, slice_get, cond, ap₂, not}
use Rattle.std.proofs.lemmas.Bool.{ne_eqb}
use Rattle.std.specs.List.{flat_map}
use Rattle.sql_meaning.specs.Statements.{Conjunct, exprs_of}
use Rattle.where_terms.proofs.Constants.{constants_suffice}
use Rattle.list_laws.proofs.Turns.{dropped_or, map_same}
use Rattle.where_terms.proofs.Steps.{made_more}

abbrev gathered_of : Schema → List Item → List Term → List Term → List BExpr → List Pair → ColumnRef
    → ColumnTerms
gathered_of schema items own likes es ps c =
    gathered c.site own
    (derived_along schema items (filter has_constant es) c.item c (linked_in ps c)) likes

columns_are : (n k : ℕ) → sites_from (suc n) k ≡ map AtColumn (numbers_from n k)
columns_are n zero = refl
columns_are n (suc k) =
    ap (λ ss. AtColumn n ∷ ss)
    (columns_are (suc n) k ∙ ap (λ m. map AtColumn (numbers_from m k)) (sym (add-one n)))

sites_are : (w : ℕ) → sites_from 0 (w + 1) ≡ sites w
sites_are w = rw add-one (ap (λ ss. AtRowid ∷ ss) (columns_are 0 w))

pub listed_is : (schema : Schema) (items : List Item) (item : ℕ) (own likes : List Term)
    (es cs : List BExpr) (ps : List Pair) (w : ℕ) → cs ≡ filter has_constant es
    → ps ≡ link_pairs schema items es → w ≡ width schema items item
    → filter has_term
    (map
    (λ site. gathered site own
    (derived_along schema items cs item (record { item = item; site = site })
    (linked_in ps (record { item = item; site = site }))) likes)
    (sites_from 0 (w + 1)))
    ≡ columns_from schema items item own likes es
listed_is schema items item own likes es cs ps w constant links wide =
    ap₂
    (λ ks qs. filter has_term
    (map
    (λ site. gathered site own
    (derived_along schema items ks item (record { item = item; site = site })
    (linked_in qs (record { item = item; site = site }))) likes)
    (sites_from 0 (w + 1)))) constant links
    ∙ ap (filter has_term)
    (map_same
    (λ site. gathered_of schema items own likes es (link_pairs schema items es)
    (record { item = item; site = site }))
    (column_from schema items item own likes es)
    (λ site. ap (λ ts. gathered site own ts likes)
    (constants_suffice schema items (record { item = item; site = site })
    (linked_in (link_pairs schema items es) (record { item = item; site = site })) es))
    (sites_from 0 (w + 1)))
    ∙ ap (λ ss. filter has_term (map (column_from schema items item own likes es) ss))
    (sites_are w ∙ ap sites wide)

pub some_mapped : {X Y : Type 0} (f : X → Y) (xs : List X) (b : Bool) → b ≡ (length xs == 0)
    → b ≡ false → map f xs ≡ [] → ⊥
some_mapped f [] b is none e = cc
some_mapped f (x ∷ xs) b is none e = cc

some_length : (n : ℕ) → (suc n == 0) ≡ false
some_length n = ne_eqb (suc n) 0 (λ e. absurd (omega (arith, e)))

branch_more : (made : List (List ColumnTerms)) (c : ColumnTerms) (cs : List ColumnTerms)
    (o : Option (List (List ColumnTerms)))
    → option_map (λ bs. (made ++ (c ∷ cs) ∷ []) ++ bs) o
    ≡ option_map (λ bs. made ++ bs) (if_each_has_terms (c ∷ cs) o)
branch_more made c cs None = refl
branch_more made c cs (Some bs) =
    ap Some (append_assoc made ((c ∷ cs) ∷ []) bs)
    ∙ ap (λ b. option_map (λ os. made ++ os) (cond (not b) (Some ((c ∷ cs) ∷ bs)) None))
    (sym (some_length (length cs)))

branch_step : (made : List (List ColumnTerms)) (columns : List ColumnTerms)
    (o : Option (List (List ColumnTerms))) → (columns ≡ [] → ⊥)
    → option_map (λ bs. (made ++ columns ∷ []) ++ bs) o
    ≡ option_map (λ bs. made ++ bs) (if_each_has_terms columns o)
branch_step made [] o some = absurd (some refl)
branch_step made (c ∷ cs) o some = branch_more made c cs o

pub branches_turn : (schema : Schema) (b : Bound) (item number : ℕ) (derives : Bool)
    (members : List (Bor Held)) (i : ℕ) (d : Bor Held) (made more : List (List ColumnTerms))
    (columns : List ColumnTerms) (whole : Option (List (List ColumnTerms))) → i < length members
    → columns ≡ branch_from schema b item number derives (expr_of (get_or members i d).now)
    → (columns ≡ [] → ⊥) → more ≡ made ++ columns ∷ []
    → option_map (λ bs. made ++ bs)
    (branches_from schema b item number derives (plain_members (drop i members))) ≡ whole
    → option_map (λ bs. more ++ bs)
    (branches_from schema b item number derives (plain_members (drop (i + 1) members)))
    ≡ whole
branches_turn schema b item number derives members i d made more columns whole below is some m inv =
    let rest = branches_from schema b item number derives
    (plain_members (drop (i + 1) members)) in
    ap (λ xs. option_map (λ bs. xs ++ bs) rest) m
    ∙ branch_step made columns rest some
    ∙ ap (λ cs. option_map (λ bs. made ++ bs) (if_each_has_terms cs rest)) is
    ∙ ap
    (λ ms. option_map (λ bs. made ++ bs)
    (branches_from schema b item number derives (plain_members ms)))
    (sym (dropped_or members i d below))
    ∙ inv

none_without : (o : Option (List (List ColumnTerms))) → if_each_has_terms [] o ≡ None
none_without None = refl
none_without (Some bs) = refl

-- a branch without a term ends the list
pub branches_end : (schema : Schema) (b : Bound) (item number : ℕ) (derives : Bool)
    (members : List (Bor Held)) (i : ℕ) (d : Bor Held) (made : List (List ColumnTerms))
    (columns : List ColumnTerms) (whole : Option (List (List ColumnTerms))) → i < length members
    → columns ≡ branch_from schema b item number derives (expr_of (get_or members i d).now)
    → columns ≡ []
    → option_map (λ bs. made ++ bs)
    (branches_from schema b item number derives (plain_members (drop i members))) ≡ whole
    → None ≡ whole
branches_end schema b item number derives members i d made columns whole below is none inv =
    let rest = branches_from schema b item number derives
    (plain_members (drop (i + 1) members)) in
    ap (option_map (λ bs. made ++ bs)) (sym (none_without rest))
    ∙ ap (λ cs. option_map (λ bs. made ++ bs) (if_each_has_terms cs rest)) (sym none ∙ is)
    ∙ ap
    (λ ms. option_map (λ bs. made ++ bs)
    (branches_from schema b item number derives (plain_members ms)))
    (sym (dropped_or members i d below))
    ∙ inv

pub none_mapped : {X Y : Type 0} (f : X → Y) (xs : List X) (b : Bool) → b ≡ (length xs == 0)
    → b ≡ true → map f xs ≡ []
none_mapped f [] b is none = refl
none_mapped f (x ∷ xs) b is none =
    let clash : true ≡ false = sym none ∙ is ∙ some_length (length xs) in absurd (cc)

chosen_step : (c : Conjunct) (cs : List Conjunct) (v : Bool)
    → map (λ d. d.expr) (cond v (c ∷ cs) cs)
    ≡ cond v (c.expr ∷ []) [] ++ map (λ d. d.expr) cs
chosen_step c cs true = refl
chosen_step c cs false = refl

chosen_here : (chosen : Conjunct → Bool) (cs : List Conjunct) (n : ℕ) → n < length cs
    → exprs_of (filter chosen (drop n cs))
    ≡ chosen_in chosen (slice_get cs n) ++ exprs_of (filter chosen (drop (suc n) cs))
chosen_here chosen [] n below = absurd (omega arith)
chosen_here chosen (c ∷ cs) zero below = chosen_step c (filter chosen cs) (chosen c)
chosen_here chosen (c ∷ cs) (suc n) below = chosen_here chosen cs n (omega arith)

pub chosen_turn : (chosen : Conjunct → Bool) (n : ℕ) (cs : List Conjunct)
    (made more here whole : List BExpr)
    → n < length cs → here ≡ chosen_in chosen (slice_get cs n) → more ≡ made ++ here
    → made ++ exprs_of (filter chosen (drop n cs)) ≡ whole
    → more ++ exprs_of (filter chosen (drop (n + 1) cs)) ≡ whole
chosen_turn chosen n cs made more here whole below is m inv =
    rw add-one
    (made_more made here (exprs_of (filter chosen (drop (suc n) cs))) more _ whole m
    (chosen_here chosen cs n below
    ∙ ap (λ es. es ++ exprs_of (filter chosen (drop (suc n) cs))) (sym is)) inv)

pub likes_of_exprs : (f : BExpr → List Term) (cs : List Conjunct)
    → flat_map f (exprs_of cs) ≡ flat_map (λ c. f c.expr) cs
likes_of_exprs f [] = refl
likes_of_exprs f (c ∷ cs) = ap (λ ts. f c.expr ++ ts) (likes_of_exprs f cs)

pub columns_same : (schema : Schema) (items : List Item) (item : ℕ)
    (own mine likes bounds : List Term) (es fs : List BExpr) → own ≡ mine → likes ≡ bounds → es ≡ fs
    → columns_from schema items item own likes es ≡ columns_from schema items item mine bounds fs
columns_same schema items item own mine likes bounds es fs o l e =
    ap₂ (λ xs ys. columns_from schema items item xs likes ys) o e
    ∙ ap (λ xs. columns_from schema items item mine xs fs) l
