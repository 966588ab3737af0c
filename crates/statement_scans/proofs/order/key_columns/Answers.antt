use Rattle.std.proofs.Common.{ap, sym, ◌∙◌, map, drop, ◌+◌}
use Rattle.plan_choice.specs.Scans.{key_columns}
use Rattle.schema_model.specs.PlainSchemas.{plain_index_column}
use Rattle.sql_bound.specs.Statements.{sort_key_of}
use Rattle.statement_scans.specs.Orders.{joined, list_if}
use Rattle.statement_scans.proofs.KeyTurns.{key_turn}
use Rattle.statement_scans.proofs.order.key_columns.Goals as goal

pub returns-then-not-branch : goal.returns-then-not-branch
returns-then-not-branch c =
    let keys = c.args.keys.now in
    let i = c.loop-place.place in
    let new = map plain_index_column c.push_key.new.list in
    let later = key_columns c.args.item (map sort_key_of (drop (i + 1) keys)) in
    ap (λ b. joined (list_if b new) later) (sym c.if-not-branch.true)
    ∙ key_turn c.args.item keys i _ c.in_ok-push_key.field-0
    (map plain_index_column c.loop-place.list) new _ _ c.loop-place-test.true
    c.key_column-asked.ensures c.in_ok-push_key.ensures c.loop-place.invariant

pub loop-place-preserved : goal.loop-place-preserved
loop-place-preserved c =
    let keys = c.args.keys.now in
    let i = c.loop-place.place in
    let new = map plain_index_column c.push_key.new.list in
    let later = key_columns c.args.item (map sort_key_of (drop (i + 1) keys)) in
    ap (λ b. joined (list_if b new) later) (sym c.if-not-branch.false)
    ∙ key_turn c.args.item keys i _ c.in_ok-push_key.field-0
    (map plain_index_column c.loop-place.list) new _ _ c.loop-place-test.true
    c.key_column-asked.ensures c.in_ok-push_key.ensures c.loop-place.invariant
