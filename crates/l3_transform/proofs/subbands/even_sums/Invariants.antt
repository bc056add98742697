use Rattle.std.proofs.Common.{◌≡◌, ℕ, ◌-◌, ◌<◌, length}
use Rattle.l3_base.specs.Lists.{entry}
use Rattle.l3_transform.proofs.HalvingLaw.{IsEvenSum}
use Rattle.l3_transform.proofs.subbands.even_sums.Given as goal

abbrev pub invariant-loop-i : goal.invariant-loop-i
invariant-loop-i l = record {
  long : length l.sums ≡ 16;
  both : (m : ℕ) → m < l.i → IsEvenSum (entry l.columns) m (entry l.sums m) × IsEvenSum (entry l.columns) (15 - m) (entry l.sums (15 - m));
}
