use Rattle.std.proofs.Common.{pos}
use Rattle.l3_quant.specs.Amplified.{quantised_bands}
use Rattle.l3_region.specs.Bands.{band_edges}
use Rattle.l3_count.proofs.Counts.{count_of-made}
use Rattle.l3_count.proofs.Cuts.{quantised_pairs}
use Rattle.l3_count.proofs.counting.count_over.Goals as goal

pub of_pairs-requires-clause-known : goal.of_pairs-requires-clause-known
of_pairs-requires-clause-known g c =
    let edges = band_edges c.args.rate in
    let amp = c.args.amp.now in
    let gain = c.args.gain in
    let lines = c.requires.0 in
    let planes = c.requires.1 in
    let codable = c.requires.2 in
    let are = quantised_pairs edges amp gain lines c.pairs_at.new.out c.classes_at-classes.result planes.peaks_are.long codable
    (c.pairs_at.ensures lines planes) (c.classes_at-classes.ensures.value c.args.rate lines planes codable) c.classes_at-classes.ensures.small in
    (quantised_bands edges amp (pos gain) lines, are, c.split_over-split.ensures.value c.args.rate lines c.classes_at-classes.result planes are)

pub returns-clause-value : goal.returns-clause-value
returns-clause-value g c lines planes codable =
    let edges = band_edges c.args.rate in
    let amp = c.args.amp.now in
    let gain = c.args.gain in
    let are = quantised_pairs edges amp gain lines c.pairs_at.new.out c.classes_at-classes.result planes.peaks_are.long codable
    (c.pairs_at.ensures lines planes) (c.classes_at-classes.ensures.value c.args.rate lines planes codable) c.classes_at-classes.ensures.small in
    count_of-made edges amp lines gain c.of_pairs.result codable
    (c.of_pairs.ensures (quantised_bands edges amp (pos gain) lines) are (c.split_over-split.ensures.value c.args.rate lines c.classes_at-classes.result planes are))
