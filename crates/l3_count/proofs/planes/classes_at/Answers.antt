use Rattle.std.proofs.Common.{get_or}
use Rattle.l3_count.specs.Marks.{band_steps}
use Rattle.l3_count.proofs.Codable.{band_class, codable_to}
use Rattle.l3_count.proofs.planes.classes_at.Goals as goal

pub returns-clause-value : goal.returns-clause-value
returns-clause-value c rate lines are codable b lt =
    let amp = c.args.amp.now in
    let gain = c.args.gain in
    band_class rate amp gain lines are.peaks b (get_or c.band_classes.result b 0) lt are.peaks_are
    (c.band_classes.ensures.value are.peaks (band_steps amp gain) are.classes b lt (c.keys_at.ensures.keys b lt) (codable_to rate amp gain lines are.peaks b lt are.peaks_are codable))
