use Rattle.std.proofs.Common.{◌≡◌, ℕ, ◌<◌, ◌*◌, ◌^◌, length}
use Rattle.l3_base.specs.Lists.{entry}
use Rattle.l3_base.specs.Sums.{IsWithin}
use Rattle.l3_transform.specs.Pairs.{pair_sum}
use Rattle.l3_transform.proofs.columns.pair_sums.Given as goal

abbrev pub invariant-loop-j : goal.invariant-loop-j
invariant-loop-j l = record {
  long : length l.sums ≡ 32;
  value : (m : ℕ) → m < l.j → entry l.sums m ≡ pair_sum (entry l.entries) (entry l.row) m;
  range : (n : ℕ) → n < 2 * l.j → IsWithin (2 ^ 15) (entry l.row n);
}
