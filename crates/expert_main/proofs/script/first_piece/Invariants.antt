use Rattle.std.proofs.Common.{◌≡◌, ◌≤◌, length}
use Rattle.expert_main.specs.Words.{pieces_of, settings_among}
use Rattle.expert_main.proofs.script.first_piece.Given as goal

abbrev pub invariant-loop-rest : goal.invariant-loop-rest
invariant-loop-rest l = record {
  same : pieces_of (settings_among l.words) ≡ pieces_of (settings_among l.rest);
  shorter : length l.rest ≤ length l.words;
}

abbrev pub decreases-loop-rest : goal.decreases-loop-rest
decreases-loop-rest l = length l.rest
