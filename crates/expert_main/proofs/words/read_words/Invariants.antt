use Rattle.std.proofs.Common.{◌≡◌, ◌≤◌, option_map, length}
use Rattle.expert_main.specs.Seen.{completed}
use Rattle.expert_main.specs.Words.{command_of, spelled}
use Rattle.expert_main.proofs.words.read_words.Given as goal

abbrev pub invariant-loop-rest : goal.invariant-loop-rest
invariant-loop-rest l = record {
  few : l.command.percent ≤ 100;
  words : l.command.words.now ≡ l.words;
  same : command_of l.words ≡ option_map (completed l.command) (spelled l.rest);
}

abbrev pub decreases-loop-rest : goal.decreases-loop-rest
decreases-loop-rest l = length l.rest
