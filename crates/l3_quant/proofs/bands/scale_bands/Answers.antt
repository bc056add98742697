use Rattle.std.proofs.Common.{◌≡◌, ◌^◌, min, pos, get_or, ap, ◌∙◌, arith}
use Rattle.std.specs.Prelude.{unsigned_abs}
use Rattle.l3_quant.specs.Quantiser.{scaled, steps_of}
use Rattle.l3_quant.specs.Amplified.{band_gain}
use Rattle.l3_quant.proofs.BandLemmas.{filled_band}
use Rattle.l3_quant.proofs.bands.scale_bands.Goals as goal

pub loop-band-preserved : goal.loop-band-preserved
loop-band-preserved c =
    let lines = c.args.lines.now in
    record {
      value = filled_band
          (λ b k n. n ≡ min (scaled (unsigned_abs (get_or lines k (pos 0))) (steps_of (band_gain c.args.amp.now (pos c.args.gain) b))) (2 ^ 30))
          c.args.rate c.loop-band.band c.loop-band.out c.scale_band.new.out c.requires.rate (omega arith)
          c.loop-band.invariant.value c.scale_band.ensures.before
          (λ k from to. c.scale_band.ensures.value k from to
          ∙ ap (λ h. min (scaled (unsigned_abs (get_or lines k (pos 0))) h) (2 ^ 30)) c.band_steps.ensures.value);
    }
