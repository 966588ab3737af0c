-- Steps, columns and nodes that are the same are equal.
use Rattle.std.proofs.Common.{◌≡◌, ℕ, ◌&&◌, ◌==◌, Bool, true, false, refl, sym, ap, ◌∙◌}
use Rattle.std.proofs.lemmas.Bool.{eqb-true, eq-eqb}
use Rattle.list_laws.proofs.Bools.{and_left, and_right, both_true}
use Rattle.sql_meaning.specs.Orders as plain
use Rattle.plan_choice.specs.Candidates.{same_entry}
use Rattle.sql_value.specs.View.{plain_collation}
use Rattle.sql_value.specs.declared.values.Collation.{Collation}
use Rattle.sql_value.specs.declared.values.Collation.TheVariants.{Binary, Nocase, Rtrim}
use Rattle.schema_model.specs.CreateTexts.{same_collation}
use Rattle.schema_model.specs.PlainSchemas.{plain_index_column}
use Rattle.schema_model.specs.declared.indexes.IndexColumn.{IndexColumn}
use Rattle.candidate_index.specs.declared.beginnings.Node.{Node}
use Rattle.candidate_index.specs.declared.beginnings.Node.TheVariants.{Table, Behind}
use Rattle.candidate_index.specs.declared.beginnings.Step.{Step}
use Rattle.candidate_index.specs.Beginnings.{same_node, same_step, step_of}

node_is : (a b : Node) → same_node a b ≡ true → a ≡ b
node_is (Table a) (Table b) e = ap Table (eqb-true a b e)
node_is (Table a) (Behind b) e = absurd (cc)
node_is (Behind a) (Table b) e = absurd (cc)
node_is (Behind a) (Behind b) e = ap Behind (eqb-true a b e)

node_same : (a : Node) → same_node a a ≡ true
node_same (Table a) = eq-eqb a a refl
node_same (Behind a) = eq-eqb a a refl

collation_is : (a b : Collation) → same_collation a b ≡ true → a ≡ b
collation_is Binary Binary e = refl
collation_is Binary Nocase e = absurd (cc)
collation_is Binary Rtrim e = absurd (cc)
collation_is Nocase Binary e = absurd (cc)
collation_is Nocase Nocase e = refl
collation_is Nocase Rtrim e = absurd (cc)
collation_is Rtrim Binary e = absurd (cc)
collation_is Rtrim Nocase e = absurd (cc)
collation_is Rtrim Rtrim e = refl

collation_same : (a : Collation) → same_collation a a ≡ true
collation_same Binary = refl
collation_same Nocase = refl
collation_same Rtrim = refl

-- the view of collations keeps them apart
collation_seen : (a b : Collation)
    → plain.same_collation (plain_collation a) (plain_collation b) ≡ same_collation a b
collation_seen Binary Binary = refl
collation_seen Binary Nocase = refl
collation_seen Binary Rtrim = refl
collation_seen Nocase Binary = refl
collation_seen Nocase Nocase = refl
collation_seen Nocase Rtrim = refl
collation_seen Rtrim Binary = refl
collation_seen Rtrim Nocase = refl
collation_seen Rtrim Rtrim = refl

flag_is : (a b : Bool) → plain.same_flag a b ≡ true → a ≡ b
flag_is true b e = sym e
flag_is false true e = absurd (cc)
flag_is false false e = refl

flag_same : (a : Bool) → plain.same_flag a a ≡ true
flag_same true = refl
flag_same false = refl

abbrev column : ℕ → Collation → Bool → IndexColumn
column n x d = record { column = n; coll = x; desc = d }

columns_equal : (m n : ℕ) (x y : Collation) (d e : Bool) → m ≡ n → x ≡ y → d ≡ e
    → column m x d ≡ column n y e
columns_equal m n x y d e p q r =
    ap (λ k. column k x d) p ∙ ap (λ k. column n k d) q ∙ ap (λ k. column n y k) r

column_is : (m n : ℕ) (x y : Collation) (d e : Bool)
    → ((m == n) && (same_collation x y && plain.same_flag d e)) ≡ true
    → column m x d ≡ column n y e
column_is m n x y d e h =
    let rest = and_right (m == n) _ h in
    columns_equal m n x y d e (eqb-true m n (and_left (m == n) _ h))
    (collation_is x y (and_left (same_collation x y) _ rest))
    (flag_is d e (and_right (same_collation x y) _ rest))

column_same : (m : ℕ) (x : Collation) (d : Bool)
    → ((m == m) && (same_collation x x && plain.same_flag d d)) ≡ true
column_same m x d =
    both_true (m == m) _ (eq-eqb m m refl)
    (both_true (same_collation x x) _ (collation_same x) (flag_same d))

-- the column of a step
abbrev pub entry_of : Step → IndexColumn
entry_of s = column s.number s.coll s.desc

steps_equal : (a b : Node) (c d : IndexColumn) → a ≡ b → c ≡ d → step_of a c ≡ step_of b d
steps_equal a b c d p q = ap (λ k. step_of k c) p ∙ ap (step_of b) q

pub step_is : (s t : Step) → same_step s t ≡ true → s ≡ t
step_is s t h =
    steps_equal s.from t.from (entry_of s) (entry_of t)
    (node_is s.from t.from (and_left (same_node s.from t.from) _ h))
    (column_is s.number t.number s.coll t.coll s.desc t.desc
    (and_right (same_node s.from t.from) _ h))

pub step_same : (s : Step) → same_step s s ≡ true
step_same s = both_true (same_node s.from s.from) _ (node_same s.from)
    (column_same s.number s.coll s.desc)

pub entry_is : (c d : IndexColumn)
    → same_entry (plain_index_column c) (plain_index_column d) ≡ true → c ≡ d
entry_is c d h =
    column_is c.column d.column c.coll d.coll c.desc d.desc
    (sym (ap (λ b. (c.column == d.column) && (b && plain.same_flag c.desc d.desc))
    (collation_seen c.coll d.coll)) ∙ h)

pub entry_same : (c : IndexColumn)
    → same_entry (plain_index_column c) (plain_index_column c) ≡ true
entry_same c =
    ap (λ b. (c.column == c.column) && (b && plain.same_flag c.desc c.desc))
    (collation_seen c.coll c.coll)
    ∙ column_same c.column c.coll c.desc
