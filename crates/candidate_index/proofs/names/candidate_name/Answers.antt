use Rattle.std.specs.Prelude.{slice_index_or}
use Rattle.std.proofs.Common.{◌≡◌, ◌+◌, ◌++◌, ℕ, List, [], map, length, ap, sym, subst, ◌∙◌, arith}
use Rattle.std.proofs.Common.{IfOk, Result, Ok, Err}
use Rattle.std.proofs.Common.{◌<◌, ◌^◌, false}
use Rattle.sql_meaning.specs.Letters.{folded_bytes}
use Rattle.sql_meaning.specs.Schemas as plain
use Rattle.schema_model.specs.Names.{has_name}
use Rattle.plan_choice.specs.CandidateNames as meant
use Rattle.schema_model.specs.CreateTexts.{column_text}
use Rattle.schema_model.specs.Schemas.{columns_at, columns_of, size}
use Rattle.schema_model.specs.PlainSchemas.{plain_index_column}
use Rattle.schema_model.specs.declared.columns.Column.{Column}
use Rattle.schema_model.specs.declared.indexes.IndexColumn.{IndexColumn}
use Rattle.candidate_index.specs.Naming.{naming, taken_with}
use Rattle.candidate_index.proofs.TakenNames.{taken_length, name_at, columns_back, not_made}
use Rattle.candidate_index.proofs.names.candidate_name.Goals as goal

pub free_name-requires : goal.free_name-requires
free_name-requires c =
    let exact = c.name_count.ensures.exact in
    let long = taken_length c.args.schema.now c.args.made.now in
    let count = c.requires.count in
    omega (arith, exact, long, count)

pub returns-clause-exact : goal.returns-clause-exact
returns-clause-exact c =
    let schema = c.args.schema.now in
    let columns = c.args.columns.now in
    let taken = taken_with schema c.args.made.now in
    let named : List ℕ → ℕ → ℕ → List ℕ =
    λ t k h. meant.free_name (meant.is_taken taken) t k h in
    let name = slice_index_or (naming schema).tables c.args.table [] in
    let exact = c.name_count.ensures.exact in
    let long = taken_length schema c.args.made.now in
    let made = c.requires.count in
    let count : c.name_count.result + c.args.count ≡ length taken =
    omega (arith, exact, long, made) in
    let own : c.as_slice.result.now ≡ columns_at schema.tables c.args.table =
    c.as_slice.ensures ∙ sym (ap columns_of c.table-of_table.ensures) in
    let text =
    c.as_slice-3.ensures ∙ c.in_ok-append_columns.ensures.ok
    ∙ ap (λ (x : List ℕ). x ++ column_text c.as_slice.result.now columns) c.new-text.ensures
    ∙ ap (λ (x : List Column). column_text x columns) own
    ∙ ap (λ (x : List IndexColumn). column_text (columns_at schema.tables c.args.table) x)
    (sym (columns_back columns)) in
    subst (λ (x : List ℕ). IfOk c.free_name.result (λ name. name ≡ x))
    (ap (λ (t : List ℕ). named t (c.name_count.result + c.args.count) c.name_sum.result)
    (c.as_slice-2.ensures
    ∙ sym (name_at schema.tables c.args.table c.table-of_table.result.now c.table-of_table.ensures))
    ∙ ap (λ (k : ℕ). named name k c.name_sum.result) count
    ∙ ap (λ (h : ℕ). named name (length taken) h) (c.name_sum.ensures ∙ ap meant.name_sum text))
    c.free_name.ensures

if_ok : {T E : Type 0} (P Q : T → Type 0) (r : Result T E) → ((x : T) → P x → Q x) → IfOk r P
    → IfOk r Q
if_ok P Q (Ok x) f h = f x h
if_ok P Q (Err e) f h = tt

pub returns-clause-free : goal.returns-clause-free
returns-clause-free c =
    let schema = c.args.schema.now in
    let made = c.args.made.now in
    let index : plain.Index =
    record { table = c.args.table; columns = map plain_index_column c.args.columns.now } in
    let small = c.schema_is_sound.ensures.few in
    let count = c.requires.count in
    let few = c.requires.few in
    let below : size schema + length made + 1 < 2 ^ 32 = omega (arith, small, count, few) in
    if_ok (λ (name : List ℕ).
    name ≡ meant.candidate_name (naming schema) (taken_with schema made) index)
    (λ (name : List ℕ). has_name (folded_bytes name) made ≡ false) c.free_name.result
    (λ name e. subst (λ (x : List ℕ). has_name (folded_bytes x) made ≡ false) (sym e)
    (not_made schema made index below))
    (returns-clause-exact c)
