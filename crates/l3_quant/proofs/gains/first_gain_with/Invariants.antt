use Rattle.l3_quant.proofs.PeakLemmas.{FirstSoFar}
use Rattle.l3_quant.proofs.gains.first_gain_with.Given as goal

abbrev pub invariant-loop-band : goal.invariant-loop-band
invariant-loop-band l = FirstSoFar l.amp l.peaks l.band l.gain
