use Rattle.std.proofs.Common.{◌+◌, ◌++◌, ap, sym, ◌∙◌, arith, Bool, true, false, ℕ, Some, None}
use Rattle.std.proofs.Common.{option_map, drop, map, if◌then◌else◌}
use Rattle.schema_text.specs.Keys.{key_constraints_of}
use Rattle.schema_text.proofs.KeyLists.{next}
use Rattle.schema_text.proofs.keys.read_keys.Goals as goal

pub returns-then-not-branch : goal.returns-then-not-branch
returns-then-not-branch c =
    let l = c.loop-item in
    sym (next c.args.text.now c.args.columns.now l.number c.args.items.now l.item-index _ l.keys
    c.append_item_keys.new.keys false _ c.loop-item-test.true l.invariant.same
    (ap (λ (b : Bool). if b then Some c.append_item_keys.new.keys else None)
    (sym c.if-not-branch.true) ∙ c.in_ok-append_item_keys.ensures))

pub loop-item-preserved : goal.loop-item-preserved
loop-item-preserved c =
    let l = c.loop-item in
    record {
      same =
          next c.args.text.now c.args.columns.now l.number c.args.items.now l.item-index _ l.keys
          c.append_item_keys.new.keys true _ c.loop-item-test.true l.invariant.same
          (ap (λ (b : Bool). if b then Some c.append_item_keys.new.keys else None)
          (sym c.if-not-branch.false) ∙ c.in_ok-append_item_keys.ensures)
          ∙ ap (λ (n : ℕ). option_map (λ rest. c.append_item_keys.new.keys ++ rest)
          (key_constraints_of c.args.text.now c.args.columns.now n
          (map (λ item. item.now) (drop (l.item-index + 1) c.args.items.now))))
          (sym c.next_number-number.ensures.same);
      small = omega (arith, c.next_number-number.ensures.small, l.invariant.small);
    }
