use Rattle.l3_count.proofs.MarkLemmas.{AreMarked}
use Rattle.l3_count.proofs.marks.write_marks.Given as goal

abbrev pub invariant-loop-band : goal.invariant-loop-band
invariant-loop-band l = record {
  marked : AreMarked l.frequency l.keys l.band l.marks;
}
