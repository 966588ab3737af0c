-- Candidates as the code has them are those that are defined, under their names.
use Rattle.std.specs.List.{AllByRecursion}
use Rattle.std.proofs.Common.{◌≡◌, ◌++◌, ℕ, List, [], ◌∷◌, refl, sym, ap, ◌∙◌, subst}
use Rattle.std.proofs.Common.{drop, length, map}
use Rattle.std.proofs.lemmas.List.{length-map, map-append}
use Rattle.sql_meaning.specs.Schemas as plain
use Rattle.plan_choice.specs.Advice.{Request, advice, full_schema}
use Rattle.plan_choice.specs.CandidateNames.{candidate_names}
use Rattle.sql_value.specs.declared.values.Collation.{Collation}
use Rattle.sql_value.specs.declared.values.Collation.TheVariants.{Binary, Nocase, Rtrim}
use Rattle.schema_model.specs.PlainSchemas.{plain_index, plain_index_column}
use Rattle.sql_value.specs.View.{plain_collation}
use Rattle.schema_model.specs.PlainSchemas.{plain_schema}
use Rattle.schema_model.specs.Schemas.{Schema}
use Rattle.schema_model.specs.declared.indexes.Index.{Index}
use Rattle.schema_model.specs.declared.indexes.IndexColumn.{IndexColumn}
use Rattle.schema_model.specs.declared.tables.Table.{Table}
use Rattle.candidate_index.specs.Known.{IsCandidateOf}
use Rattle.candidate_index.specs.Naming.{collation_of, column_of, naming}
use Rattle.expert_advice.specs.Full.{with_candidates}
use Rattle.expert_report.specs.Advice.{each_named, named, with_named}

collation_back : (c : Collation) → collation_of (plain_collation c) ≡ c
collation_back Binary = refl
collation_back Nocase = refl
collation_back Rtrim = refl

column_back : (c : IndexColumn) → column_of (plain_index_column c) ≡ c
column_back c = rw (collation_back c.coll) refl

columns_back : (cs : List IndexColumn) → map column_of (map plain_index_column cs) ≡ cs
columns_back [] = refl
columns_back (c ∷ cs) = rw (column_back c, columns_back cs) refl

index_back : (tables : List Table) (i : Index) → IsCandidateOf tables i
    → named i.name (plain_index i) ≡ i
index_back tables i h = rw (columns_back i.columns, sym h.unique, sym h.usable) refl

each_back : (tables : List Table) (is : List Index) → AllByRecursion (IsCandidateOf tables) is
    → each_named (map (λ i. i.name) is) (map plain_index is) ≡ is
each_back tables [] h = refl
each_back tables (i ∷ is) h =
    ap (λ (j : Index). j ∷ each_named (map (λ k. k.name) is) (map plain_index is))
    (index_back tables i h.0)
    ∙ ap (λ (js : List Index). i ∷ js) (each_back tables is h.1)

drop_first : {X : Type 0} (xs ys : List X) → drop (length xs) (xs ++ ys) ≡ ys
drop_first [] ys = refl
drop_first (x ∷ xs) ys = drop_first xs ys

-- behind the indexes of a schema
pub these_behind : (r : Request) (own : Schema) (made : List Index)
    → r.schema ≡ plain_schema own → plain_schema (with_candidates own made) ≡ full_schema r
    → map plain_index made ≡ (advice r).candidates
these_behind r own made is schema =
    sym (drop_first (map plain_index own.indexes) (map plain_index made))
    ∙ ap (drop (length (map plain_index own.indexes)))
    (sym (map-append plain_index own.indexes made))
    ∙ ap (λ (s : plain.Schema). drop (length s.indexes)
    (plain_schema (with_candidates own made)).indexes) (sym is)
    ∙ ap (λ (s : plain.Schema). drop (length r.schema.indexes) s.indexes) schema

pub named_again : (own : Schema) (made : List Index) (candidates : List plain.Index)
    → map (λ i. i.name) made ≡ candidate_names (naming own) (map plain_index made)
    → AllByRecursion (IsCandidateOf own.tables) made → map plain_index made ≡ candidates
    → with_candidates own made ≡ with_named own candidates
named_again own made candidates names sound are =
    ap (with_candidates own)
    (sym (each_back own.tables made sound)
    ∙ ap (λ (ns : List (List ℕ)). each_named ns (map plain_index made)) names
    ∙ ap (λ (cs : List plain.Index). each_named (candidate_names (naming own) cs) cs) are)
