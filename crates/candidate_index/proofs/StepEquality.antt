-- The equality that is derived for steps is that of their parts.
use Rattle.std.proofs.Common.{◌≡◌, ◌&&◌, Bool, true, false, List, refl, ap, ◌∙◌}
use Rattle.std.specs.List.{position, position_or_len, list_any}
use Rattle.std.specs.Prelude.{◌==◌}
use mathlib.Core.Bool.{beq}
use Rattle.candidate_index.specs.contracts.beginnings.StepPartialEq.TheImpl as of_steps
use Rattle.candidate_index.specs.contracts.beginnings.NodePartialEq.TheImpl as of_nodes
use Rattle.sql_value.specs.contracts.values.CollationPartialEq.TheImpl as of_collations
use Rattle.sql_meaning.specs.Orders.{same_flag}
use Rattle.sql_value.specs.declared.values.Collation.{Collation}
use Rattle.sql_value.specs.declared.values.Collation.TheVariants.{Binary, Nocase, Rtrim}
use Rattle.schema_model.specs.CreateTexts.{same_collation}
use Rattle.candidate_index.specs.declared.beginnings.Node.{Node}
use Rattle.candidate_index.specs.declared.beginnings.Node.TheVariants.{Table, Behind}
use Rattle.candidate_index.specs.declared.beginnings.Step.{Step}
use Rattle.candidate_index.specs.Beginnings.{same_node, same_step}

nodes_are : (a b : Node) → (of_nodes.eq-value).it a b ≡ same_node a b
nodes_are (Table a) (Table b) = refl
nodes_are (Table a) (Behind b) = refl
nodes_are (Behind a) (Table b) = refl
nodes_are (Behind a) (Behind b) = refl

collations_are : (a b : Collation) → (of_collations.eq-value).it a b ≡ same_collation a b
collations_are Binary Binary = refl
collations_are Binary Nocase = refl
collations_are Binary Rtrim = refl
collations_are Nocase Binary = refl
collations_are Nocase Nocase = refl
collations_are Nocase Rtrim = refl
collations_are Rtrim Binary = refl
collations_are Rtrim Nocase = refl
collations_are Rtrim Rtrim = refl

flags_are : (a b : Bool) → beq a b ≡ same_flag a b
flags_are true true = refl
flags_are true false = refl
flags_are false true = refl
flags_are false false = refl

pub equal_is : (s t : Step) → (of_steps.eq-value).it s t ≡ same_step s t
equal_is s t =
    ap (λ k. k && ((s.number == t.number)
    && ((of_collations.eq-value).it s.coll t.coll && beq s.desc t.desc))) (nodes_are s.from t.from)
    ∙ ap (λ k. same_node s.from t.from && ((s.number == t.number) && (k && beq s.desc t.desc)))
    (collations_are s.coll t.coll)
    ∙ ap (λ k. same_node s.from t.from
    && ((s.number == t.number) && (same_collation s.coll t.coll && k)))
    (flags_are s.desc t.desc)

-- tests that say the same find the same
tests_are : (s : Step) → (of_steps.eq-value).it s ≡ same_step s
tests_are s = λ i t. equal_is s t i

pub position_is : (s : Step) (steps : List Step)
    → position ((of_steps.eq-value).it s) steps ≡ position (same_step s) steps
position_is s steps = ap (λ (p : Step → Bool). position p steps) (tests_are s)

pub place_is : (s : Step) (steps : List Step)
    → position_or_len ((of_steps.eq-value).it s) steps ≡ position_or_len (same_step s) steps
place_is s steps = ap (λ (p : Step → Bool). position_or_len p steps) (tests_are s)

pub any_is : (s : Step) (steps : List Step)
    → list_any ((of_steps.eq-value).it s) steps ≡ list_any (same_step s) steps
any_is s steps = ap (λ (p : Step → Bool). list_any p steps) (tests_are s)
