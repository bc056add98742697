use Rattle.std.proofs.Common.{◌/◌, arith}
use Rattle.l3_base.specs.Slots.{slot_in}
use Rattle.l3_base.proofs.Entries.{within_same}
use Rattle.l3_transform.specs.Spectrum.{windowed, line_from, line_before}
use Rattle.l3_transform.proofs.Bounds.{slot_in_small, line_before_small}
use Rattle.l3_transform.proofs.SubbandLines.{line_of_band, bands_more}
use Rattle.l3_transform.proofs.lines.transform.Goals as goal

pub loop-band-preserved : goal.loop-band-preserved
loop-band-preserved c = record {
  long = c.transform_subband.ensures.long;
  value = bands_more c.loop-band.out c.transform_subband.new.out c.loop-band.band (line_from (windowed (slot_in c.args.slots.now c.loop-band.band))) (line_before c.args.slots.now)
      c.loop-band.invariant.value c.transform_subband.ensures.before c.transform_subband.ensures.lines
      (λ m lt. line_of_band c.args.slots.now c.loop-band.band m lt);
}

pub returns-clause-bound : goal.returns-clause-bound
returns-clause-bound c = λ n lt.
    within_same 178392064 _ _ (c.loop-band.invariant.value n (omega arith))
    (line_before_small c.args.slots.now n (λ k _. slot_in_small 44598016 c.args.slots.now (n / 18) k c.requires))
