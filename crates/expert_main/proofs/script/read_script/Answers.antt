use Rattle.std.proofs.Common.{◌∙◌, ◌≡◌, Ok, IfSome, refl, subst, arith}
use Rattle.std.proofs.lemmas.Result.{err_from_is_err_and}
use Rattle.expert_main.specs.Scripts.{fitted, script_limit, text_of}
use Rattle.expert_main.specs.Seen.{seen_piece}
use Rattle.expert_main.specs.Words.{pieces_of, settings_among}
use Rattle.expert_main.proofs.Scripts.{are_all, are_more, blames_piece, gathered_more, names_later}
use Rattle.expert_main.proofs.Scripts.{total_push}
use Rattle.expert_main.proofs.script.read_script.Goals as goal

pub returns-in_err-text-clause-pieces : goal.returns-in_err-text-clause-pieces
returns-in_err-text-clause-pieces g c =
    let e = err_from_is_err_and c.from_residual.result c.from_residual.ensures.1 in
    rw (e.1, e.2) (blames_piece _ _ _ _ _ c.in-Some.ensures.some c.loop-found.invariant.names
    c.in_err-text.ensures.pieces)

pub loop-found-preserved : goal.loop-found-preserved
loop-found-preserved g c = record {
  files = c.read_piece.ensures.files ∙ c.loop-found.invariant.files;
  faults = c.in_ok-text.ensures.kept ∙ c.loop-found.invariant.faults;
  told =
      rw (c.in_ok-push.ensures.ok, c.as_slice.ensures)
      (gathered_more _ (pieces_of (settings_among c.args.words.now)) _ _
      (seen_piece c.in-Some.found.piece) c.loop-found.script c.in_ok-text.text script_limit
      c.loop-found.room c.in-Some.ensures.some c.loop-found.invariant.told
      (subst (λ told. IfSome told (λ files.
      fitted c.loop-found.room (text_of files (seen_piece c.in-Some.found.piece))
      ≡ Ok c.in_ok-text.text)) c.loop-found.invariant.files c.in_ok-text.ensures.ok));
  own =
      rw c.in_ok-push.ensures.ok
      (are_more (pieces_of (settings_among c.args.words.now)) _ _
      (seen_piece c.in-Some.found.piece) c.loop-found.script c.in_ok-text.text
      c.in-Some.ensures.some c.loop-found.invariant.own c.in_ok-text.ensures.own);
  names = names_later _ _ _ _ c.in-Some.ensures.some c.loop-found.invariant.names;
  few =
      rw (c.in_ok-push.ensures.ok, c.as_slice.ensures)
      (omega (
        arith,
        total_push c.loop-found.script c.in_ok-text.text,
        c.in_ok-text.ensures.fits,
        c.loop-found.invariant.few,
      ));
}

pub returns-clause-own : goal.returns-clause-own
returns-clause-own g c =
    are_all _ _ _ (c.in_default.ensures.none refl) c.loop-found.invariant.own
