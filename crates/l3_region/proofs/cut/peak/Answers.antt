use Rattle.std.proofs.Common.{rules, ◌≡◌, pos, get_or, unsigned_abs, FitsSigned, w16, ◌∙◌, ap}
use Rattle.std.proofs.lemmas.Int.{to_z-of_z}
use Rattle.l3_region.proofs.Greatest.{peak_more}
use Rattle.l3_region.proofs.cut.peak.Goals as goal

pub loop-x-preserved : goal.loop-x-preserved
loop-x-preserved c =
    let fits : FitsSigned w16 (get_or c.args.values.now c.loop-x.x-index (pos 0)) = search rules in
    let size : c.unsigned_abs.result ≡ unsigned_abs (get_or c.args.values.now c.loop-x.x-index (pos 0)) = c.unsigned_abs.ensures.value ∙ ap unsigned_abs (to_z-of_z w16 _ fits) in
    peak_more c.args.values.now c.loop-x.x-index c.loop-x.peak c.unsigned_abs.result c.max-peak.result c.loop-x-test.true c.loop-x.invariant size c.max-peak.ensures
