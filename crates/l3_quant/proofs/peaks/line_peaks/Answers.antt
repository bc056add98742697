use Rattle.std.proofs.Common.{ℕ, ◌≡◌, subst, arith}
use Rattle.l3_quant.proofs.PeakLemmas.{LinePeaksSoFar, line_peaks_are}
use Rattle.l3_quant.proofs.peaks.line_peaks.Goals as goal

pub returns : goal.returns
returns c =
    let end : c.loop-band.band ≡ 22 = omega arith in
    let P : ℕ → Type 0 = λ band. LinePeaksSoFar c.index-frequency.result c.lines-lines.result.now band c.loop-band.peaks in
    line_peaks_are c.index-frequency.result c.args.rate c.lines-lines.result.now c.args.spec.now c.loop-band.peaks c.lines-lines.ensures.spectrum.long c.lines-lines.ensures.value c.index-frequency.ensures
    (subst P end c.loop-band.invariant)
