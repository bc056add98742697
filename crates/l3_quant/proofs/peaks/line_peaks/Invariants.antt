use Rattle.l3_quant.proofs.PeakLemmas.{LinePeaksSoFar}
use Rattle.l3_quant.proofs.peaks.line_peaks.Given as goal

abbrev pub invariant-loop-band : goal.invariant-loop-band
invariant-loop-band l = LinePeaksSoFar l.frequency l.lines l.band l.peaks
