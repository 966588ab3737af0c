use Rattle.std.proofs.Common.{◌∙◌}
use Rattle.schema_model.proofs.ByteLists.{fitting_bytes}
use Rattle.schema_read.proofs.DumpFacts.{dump_conforms, dump_is_short, dump_unusable}
use Rattle.schema_read.proofs.dump.read_dump.Goals as goal

pub returns-clause-conforms : goal.returns-clause-conforms
returns-clause-conforms c =
    dump_conforms c.args.text.now (fitting_bytes c.args.text.now c.type_inv.text) c.in_ok-dump.dump
    (c.in_ok-dump.ensures ∙ c.in_ok-state.ensures.same)

pub returns-clause-rows : goal.returns-clause-rows
returns-clause-rows c =
    dump_is_short c.args.text.now (fitting_bytes c.args.text.now c.type_inv.text) c.in_ok-dump.dump
    (c.in_ok-dump.ensures ∙ c.in_ok-state.ensures.same) c.in_ok-state.ensures.few

pub returns-clause-unusable : goal.returns-clause-unusable
returns-clause-unusable c =
    dump_unusable c.args.text.now (fitting_bytes c.args.text.now c.type_inv.text) c.in_ok-dump.dump
    (c.in_ok-dump.ensures ∙ c.in_ok-state.ensures.same)
