use Rattle.std.proofs.Common.{◌∙◌, sym}
use Rattle.expert_main.specs.Seen.{completed, seen_setting}
use Rattle.expert_main.proofs.Spelled.{two_gone}
use Rattle.expert_main.proofs.words.read_words.Goals as goal

pub loop-rest-preserved : goal.loop-rest-preserved
loop-rest-preserved c = record {
  few = c.with-command.ensures.few c.loop-rest.invariant.few c.in_ok-read_setting.ensures.few;
  words = c.with-command.ensures.words ∙ c.loop-rest.invariant.words;
  same =
      c.loop-rest.invariant.same
      ∙ two_gone c.loop-rest.rest.now c.option-item.result c.value-item.result
      (seen_setting c.in_ok-read_setting.field-0) (completed c.loop-rest.command)
      (completed c.with-command.result) c.in-len2-up.len_at_least c.option-item.is
      c.value-item.is
      (rw (sym c.as_slice-in-len2-up.ensures, sym c.as_slice-in-len2-up-2.ensures)
      c.in_ok-read_setting.ensures.setting)
      c.with-command.ensures.counts;
}
