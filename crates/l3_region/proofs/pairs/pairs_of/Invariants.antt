use Rattle.std.proofs.Common.{◌≡◌, ℕ, ◌+◌, ◌*◌, ◌<◌, length, get_or}
use Rattle.l3_region.proofs.pairs.pairs_of.Given as goal

abbrev pub invariant-loop-n : goal.invariant-loop-n
invariant-loop-n l = record {
  long : length l.pairs ≡ 288;
  packed : (i : ℕ) → i < l.n → get_or l.pairs i 0 ≡ 16 * get_or l.cut (2 * i) 0 + get_or l.cut (2 * i + 1) 0;
}
