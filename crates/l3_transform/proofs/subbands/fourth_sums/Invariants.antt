use Rattle.std.proofs.Common.{◌≡◌, ℕ, ◌-◌, ◌<◌, length}
use Rattle.l3_base.specs.Lists.{entry}
use Rattle.l3_transform.proofs.HalvingLaw.{IsFourthSum}
use Rattle.l3_transform.proofs.subbands.fourth_sums.Given as goal

abbrev pub invariant-loop-i : goal.invariant-loop-i
invariant-loop-i l = record {
  long : length l.sums ≡ 8;
  both : (m : ℕ) → m < l.i → IsFourthSum (entry l.columns) m (entry l.sums m) × IsFourthSum (entry l.columns) (7 - m) (entry l.sums (7 - m));
}
