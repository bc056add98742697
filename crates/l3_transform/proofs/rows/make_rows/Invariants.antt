use Rattle.std.proofs.Common.{◌≡◌, ℕ, ◌+◌, ◌-◌, ◌*◌, ◌<◌, ◌≤◌, length}
use Rattle.l3_base.specs.Lists.{entry}
use Rattle.l3_transform.specs.Pairs.{IsTap, row_in}
use Rattle.l3_transform.proofs.rows.make_rows.Given as goal

abbrev pub invariant-loop-t : goal.invariant-loop-t
invariant-loop-t l = record {
  long : length l.rows ≡ length l.fn.rows;
  done : (n : ℕ) → l.from ≤ n → n < l.t → IsTap (λ m. entry l.samples (32 * n + 63 - m)) 0 (row_in l.rows n);
}
