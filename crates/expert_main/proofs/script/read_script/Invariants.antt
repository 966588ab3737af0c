use Rattle.std.proofs.Common.{◌≡◌, ◌+◌, ◌++◌, ℕ, List, length, IfSome}
use Rattle.std.specs.Prelude.{Contains}
use Rattle.expert_main.specs.Scripts.{AreOf, before, gathered, script_limit, total}
use Rattle.expert_main.specs.Words.{Piece, pieces_of, settings_among}
use Rattle.expert_main.proofs.script.read_script.Given as goal

abbrev pub invariant-loop-found : goal.invariant-loop-found
invariant-loop-found g l = record {
  files : g.F.Shelf.files l.shelf ≡ g.F.Shelf.files l.initial.shelf;
  faults : g.F.Shelf.faults l.shelf ≡ g.F.Shelf.faults l.initial.shelf;
  told : IfSome (g.F.Shelf.files l.initial.shelf)
      (λ files. gathered files (pieces_of (settings_among l.words)) script_limit
      ≡ before l.script (gathered files (pieces_of (settings_among l.rest)) l.room));
  own : (others : List (List ℕ)) → AreOf (pieces_of (settings_among l.rest)) others
      → AreOf (pieces_of (settings_among l.words)) (l.script ++ others);
  names : (piece : Piece) → Contains (pieces_of (settings_among l.rest)) piece
      → Contains (pieces_of (settings_among l.words)) piece;
  few : total l.script + l.room ≡ script_limit;
}

abbrev pub decreases-loop-found : goal.decreases-loop-found
decreases-loop-found g l = length l.rest
