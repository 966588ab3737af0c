use Rattle.std.proofs.Common.{◌≡◌, ℕ, Some, slice_get, ap, sym, ◌∙◌, slice_index_or, [], nat_lt}
use Rattle.sql_meaning.specs.Letters.{folded_bytes}
use Rattle.plan_choice.specs.GivenFigures.{same_name}
use Rattle.schema_model.specs.Schemas.{found_index}
use Rattle.schema_model.specs.declared.indexes.Index.{Index}
use Rattle.stat_figures.specs.GivenCounts.{is_number}
use Rattle.stat_figures.specs.Requests.{names_of, plain_given}
use Rattle.stat_figures.proofs.Names.{index_is_named, none_named, some_named, else_named, not_own}
use Rattle.stat_figures.proofs.Names.{not_table}
use Rattle.stat_figures.proofs.given_rows.named_index.Goals.{After-find_index}
use Rattle.stat_figures.proofs.given_rows.named_index.Goals as goal

-- the name that the row gives is that of the index that is found
found : (c : After-find_index) (k : ℕ) (index : Index)
    → slice_get c.args.schema.now.indexes k ≡ Some index
    → same_name index.name c.in-Some.name ≡ is_number k c.find_index.result
found c k index e =
    let schema = c.args.schema.now in
    index_is_named schema c.schema_is_sound.ensures _ c.find_index.result
    (c.find_index.ensures
    ∙ ap (found_index schema)
    (c.as_slice-2.ensures ∙ c.in_ok-folded.ensures ∙ ap folded_bytes c.as_slice.ensures)) k index e

pub returns-in_default-find_index-clause-named : goal.returns-in_default-find_index-clause-named
returns-in_default-find_index-clause-named c = λ k index e.
    none_named c.args.own k (slice_index_or (names_of c.args.schema.now 0).tables index.table [])
    index.name (plain_given c.args.row.now) c.args.row.now.index _ c.in-Some.is
    (found (goal.at.returns-in_default-find_index-clause-named c).After-find_index k index e
    ∙ ap (is_number k) c.in_default-find_index.is)

pub returns-then-number-own-clause-named : goal.returns-then-number-own-clause-named
returns-then-number-own-clause-named c = λ k index e.
    else_named c.args.own c.in-Some-find_index.number k
    (slice_index_or (names_of c.args.schema.now 0).tables index.table []) index.name
    (plain_given c.args.row.now) c.args.row.now.index _ c.in-Some.is
    (found (goal.at.returns-then-number-own-clause-named c).After-find_index k index e
    ∙ ap (is_number k) c.in-Some-find_index.is)
    (not_own c.args.own c.in-Some-find_index.number k _ c.if-number-own.true)

pub returns-clause-named : goal.returns-clause-named
returns-clause-named c = λ k index e.
    else_named c.args.own c.in-Some-find_index.number k
    (slice_index_or (names_of c.args.schema.now 0).tables index.table []) index.name
    (plain_given c.args.row.now) c.args.row.now.index _ c.in-Some.is
    (found (goal.at.returns-clause-named c).After-find_index k index e
    ∙ ap (is_number k) c.in-Some-find_index.is)
    (λ q. not_table (nat_lt k c.args.own) _
    (sym (c.is_of_table.ensures index (rw q e)) ∙ c.if-is_of_table.false))

pub returns-then-is_of_table-clause-named : goal.returns-then-is_of_table-clause-named
returns-then-is_of_table-clause-named c = λ k index e.
    some_named c.args.own c.in-Some-find_index.number k
    (slice_index_or (names_of c.args.schema.now 0).tables index.table []) index.name
    (plain_given c.args.row.now) c.args.row.now.index _ c.in-Some.is
    (found (goal.at.returns-then-is_of_table-clause-named c).After-find_index k index e
    ∙ ap (is_number k) c.in-Some-find_index.is) c.if-number-own.false
    (λ q. sym (c.is_of_table.ensures index (rw q e)) ∙ c.if-is_of_table.true)
