use Rattle.std.proofs.Common.{◌≡◌, ◌∙◌, length, replicate, ℤ, List, pos, refl, arith}
use Rattle.std.proofs.lemmas.List.{get_or-replicate, length-replicate}
use Rattle.l3_quant.specs.Amplified.{quantised_bands}
use Rattle.l3_quant.proofs.BandLemmas.{quantised_bands-long}
use Rattle.l3_region.specs.Bands.{band_edges}
use Rattle.l3_count.proofs.Counts.{count_of-made}
use Rattle.l3_count.proofs.Tops.{AreZero}
use Rattle.l3_count.proofs.Zeros.{zero_split, zeros_pairs, zeros_quantised}
use Rattle.l3_count.proofs.counting.count_zeros.Goals as goal

pub of_pairs-requires-clause-known : goal.of_pairs-requires-clause-known
of_pairs-requires-clause-known g c =
    let q : List ℤ = replicate 576 (pos 0) in
    let long : length q ≡ 576 = length-replicate 576 (pos 0) in
    let zeros : AreZero q = λ k d lt. get_or-replicate 576 k (pos 0) d (omega (arith, long, lt)) in
    (q, zeros_pairs (band_edges c.args.rate) q c.zero_pairs-pairs.result c.zero_classes-classes.result long zeros c.zero_pairs-pairs.ensures c.zero_classes-classes.ensures, zero_split q zeros)

pub returns-clause-value : goal.returns-clause-value
returns-clause-value g c lines long none =
    let edges = band_edges c.args.rate in
    let amp = c.args.amp.now in
    let gain = c.args.gain in
    let q = quantised_bands edges amp (pos gain) lines in
    let zeros = zeros_quantised edges amp (pos gain) lines none in
    let are = zeros_pairs edges q c.zero_pairs-pairs.result c.zero_classes-classes.result (quantised_bands-long edges amp (pos gain) lines ∙ long) zeros c.zero_pairs-pairs.ensures c.zero_classes-classes.ensures in
    count_of-made edges amp lines gain c.of_pairs.result are.codable (c.of_pairs.ensures q are (zero_split q zeros))
