-- A turn of the loop over the keys of ORDER BY.
use Rattle.std.proofs.Common.{◌≡◌, ◌<◌, ◌+◌, ◌==◌, ◌&&◌, ℕ, suc, Bool, true, false, not, cond}
use Rattle.std.proofs.Common.{List, [], ◌∷◌, Option, Some, None, map, length, drop}
use Rattle.std.proofs.Common.{get_or, refl, ap, sym, ◌∙◌, append_assoc, arith, length-drop}
use Rattle.std.proofs.lemmas.Bool.{eqb-true, eq-eqb, ne_eqb}
use Rattle.std.proofs.lemmas.List.{length-map}
use Rattle.list_laws.proofs.Bools.{alike}
use Rattle.sql_meaning.specs.Expressions.{ColumnRef, bare_column}
use Rattle.sql_meaning.specs.Rows.{Site, AtRowid, AtColumn}
use Rattle.sql_meaning.specs.Schemas.{IndexColumn}
use Rattle.sql_meaning.specs.Statements.{SortKey}
use Rattle.plan_choice.specs.Scans.{key_column, then_columns, at_key, if_own, key_columns}
use Rattle.sql_bound.specs.Statements.{sort_key_of}
use Rattle.sql_bound.specs.declared.statement.BKey.{BKey}
use Rattle.list_laws.proofs.Turns.{dropped_or}
use Rattle.statement_scans.specs.Orders.{site_step, ref_step, key_step, joined, list_if}

column_first : (c : IndexColumn) (later : Option (List IndexColumn))
    → then_columns c later ≡ joined (Some (c ∷ [])) later
column_first c None = refl
column_first c (Some cs) = refl

last_case : (falling : Bool)
    → cond falling None (Some []) ≡ joined (cond (not falling) (Some []) None) (Some [])
last_case true = refl
last_case false = refl

not_last : (n : ℕ) → (suc n == 0) ≡ false
not_last n = ne_eqb (suc n) 0 (λ e. absurd (omega (arith, e)))

site_case : (item : ℕ) (k : SortKey) (ks : List SortKey) (site : Site)
    → at_key k ks site (key_columns item ks)
    ≡ joined (site_step k (length ks == 0) site) (key_columns item ks)
site_case item k ks (AtColumn column) = column_first (key_column k column) (key_columns item ks)
site_case item k [] AtRowid = last_case k.falling
site_case item k (next ∷ rest) AtRowid =
    ap (λ b. joined (cond (b && not k.falling) (Some []) None) (key_columns item (next ∷ rest)))
    (sym (not_last (length rest)))

own_case : (b : Bool) (a s : Option (List IndexColumn)) (later : Option (List IndexColumn))
    → a ≡ joined s later → cond b a None ≡ joined (cond b s None) later
own_case true a s later e = e
own_case false a s later e = refl

ref_case : (item : ℕ) (k : SortKey) (ks : List SortKey) (o : Option ColumnRef)
    → if_own item o (λ site. at_key k ks site (key_columns item ks))
    ≡ joined (ref_step item k (length ks == 0) o) (key_columns item ks)
ref_case item k ks None = refl
ref_case item k ks (Some c) =
    own_case (c.item == item) (at_key k ks c.site (key_columns item ks))
    (site_step k (length ks == 0) c.site) (key_columns item ks) (site_case item k ks c.site)

ends : (keys : List BKey) (i : ℕ) → i < length keys
    → (length (map sort_key_of (drop (i + 1) keys)) == 0) ≡ (i + 1 == length keys)
ends keys i below =
    let seen = length-map (drop (i + 1) keys) sort_key_of in
    let left = length-drop (i + 1) keys in
    let n = length (map sort_key_of (drop (i + 1) keys)) in
    alike (n == 0) (i + 1 == length keys)
    (λ e. let none : n ≡ 0 = eqb-true n 0 e in
    eq-eqb (i + 1) (length keys) (omega (arith, seen, left, none, below)))
    (λ e. let last : i + 1 ≡ length keys = eqb-true (i + 1) (length keys) e in
    eq-eqb n 0 (omega (arith, seen, left, last)))

-- a key, and those behind it
key_cons : (item : ℕ) (keys : List BKey) (i : ℕ) (d : BKey) → i < length keys
    → key_columns item (map sort_key_of (drop i keys))
    ≡ joined (key_step item (sort_key_of (get_or keys i d)) (i + 1 == length keys))
    (key_columns item (map sort_key_of (drop (i + 1) keys)))
key_cons item keys i d below =
    let k = sort_key_of (get_or keys i d) in
    let ks = map sort_key_of (drop (i + 1) keys) in
    ap (λ (l : List BKey). key_columns item (map sort_key_of l)) (dropped_or keys i d below)
    ∙ ref_case item k ks (bare_column k.expr)
    ∙ ap (λ b. joined (key_step item k b) (key_columns item ks)) (ends keys i below)

joined_twice : (made : List IndexColumn) (here later : Option (List IndexColumn))
    → joined (Some made) (joined here later) ≡ joined (joined (Some made) here) later
joined_twice made None later = refl
joined_twice made (Some cs) None = refl
joined_twice made (Some cs) (Some ds) = ap Some (sym (append_assoc made cs ds))

pub key_turn : (item : ℕ) (keys : List BKey) (i : ℕ) (d : BKey) (given : Bool)
    (made more : List IndexColumn) (here whole : Option (List IndexColumn)) → i < length keys
    → here ≡ key_step item (sort_key_of (get_or keys i d)) (i + 1 == length keys)
    → list_if given more ≡ joined (Some made) here
    → joined (Some made) (key_columns item (map sort_key_of (drop i keys))) ≡ whole
    → joined (list_if given more) (key_columns item (map sort_key_of (drop (i + 1) keys))) ≡ whole
key_turn item keys i d given made more here whole below is pushed h =
    let later = key_columns item (map sort_key_of (drop (i + 1) keys)) in
    ap (λ o. joined o later) (pushed ∙ ap (joined (Some made)) is)
    ∙ sym (joined_twice made
    (key_step item (sort_key_of (get_or keys i d)) (i + 1 == length keys)) later)
    ∙ ap (joined (Some made)) (sym (key_cons item keys i d below)) ∙ h
