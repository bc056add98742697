use Rattle.std.proofs.Common.{◌≡◌, ℕ, ◌<◌, ◌*◌, ◌+◌, get_or, length}
use Rattle.l3_count.proofs.plane_count.write_pairs.Given as goal

abbrev pub invariant-loop-j : goal.invariant-loop-j
invariant-loop-j l = record {
  long : length l.out ≡ 288;
  value : (j : ℕ) → j < l.j → get_or l.out (16 * l.block + j) 0 ≡ 16 * get_or l.counts j 0 + get_or l.counts (16 + j) 0;
  before : (i : ℕ) → i < 16 * l.block → get_or l.out i 0 ≡ get_or l.fn.out i 0;
}
