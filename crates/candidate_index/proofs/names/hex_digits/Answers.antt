use Rattle.std.proofs.Common.{arith, suc, ◌≡◌, ◌<◌, ◌-◌, ◌∙◌, length}
use Rattle.candidate_index.proofs.HexDigits.{one_more, length_kept}
use Rattle.candidate_index.proofs.names.hex_digits.Goals as goal

pub loop-place-preserved : goal.loop-place-preserved
loop-place-preserved c =
    let at = c.loop-place.place - 1 in
    let below = c.loop-place-test.true in
    let within = c.loop-place.invariant.within in
    let full = c.loop-place.invariant.full in
    let next : suc at ≡ c.loop-place.place = omega (arith, below) in
    let there : at < length c.loop-place.digits = omega (arith, below, within, full) in
    record {
      within = omega (arith, within);
      full = length_kept c.loop-place.digits at c.hex_digit.result ∙ full;
      same = one_more at c.loop-place.place c.loop-place.rest c.hex_digit.result
          c.loop-place.digits _ next there c.hex_digit.ensures c.loop-place.invariant.same;
    }
