use Rattle.l3_count.specs.Marks.{band_steps}
use Rattle.l3_count.proofs.Codable.{codable_from, codable_to, first_below, first_few}
use Rattle.std.proofs.Common.{get_or}
use Rattle.l3_count.proofs.planes.is_codable_at.Goals as goal

pub returns : goal.returns
returns c rate lines are =
    let amp = c.args.amp.now in
    let gain = c.args.gain in
    let planes = c.args.planes.now.classes in
    let keys = c.keys_at.result in (
      λ told. codable_from rate amp gain lines are.peaks are.peaks_are (λ b lt.
          first_few are.peaks planes b (band_steps amp gain b) (get_or keys b 0) lt are.classes (c.keys_at.ensures.keys b lt) (c.is_coded.ensures.told told b lt)),
      λ codable. c.is_coded.ensures.tells (λ b lt.
          first_below are.peaks planes b (band_steps amp gain b) (get_or keys b 0) lt are.classes (c.keys_at.ensures.keys b lt) (codable_to rate amp gain lines are.peaks b lt are.peaks_are codable)),
    )
