use Rattle.std.proofs.Common.{pos}
use Rattle.l3_base.specs.Amp.{no_amp}
use Rattle.l3_base.specs.Bands.{band_edges}
use Rattle.l3_quant.specs.Quantiser.{steps_of}
use Rattle.l3_quant.specs.Amplified.{quantised_bands}
use Rattle.l3_count.proofs.GainLemmas.{plain_quantised}
use Rattle.l3_count.proofs.planes.split_at.Goals as goal

pub returns-clause-value : goal.returns-clause-value
returns-clause-value c rate lines are =
    let gain = c.args.gain in
    c.split.ensures.value lines (quantised_bands (band_edges rate) no_amp (pos gain) lines) (steps_of (pos gain)) are.nonzero are.above_one
    c.equal_key.ensures.value (plain_quantised (band_edges rate) gain lines are.peaks_are.long)
