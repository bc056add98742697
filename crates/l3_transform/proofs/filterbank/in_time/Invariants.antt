use Rattle.std.proofs.Common.{◌≡◌, ℕ, ◌-◌, ◌<◌, length}
use Rattle.l3_base.specs.Lists.{entry}
use Rattle.l3_transform.proofs.filterbank.in_time.Given as goal

abbrev pub invariant-loop-n : goal.invariant-loop-n
invariant-loop-n l = record {
  long : length l.samples ≡ 512;
  value : (m : ℕ) → m < l.n → entry l.samples m ≡ entry l.window (511 - m);
}
