use Rattle.std.proofs.Common.{◌≡◌, ◌+◌, ◌++◌, take, vec_len, vec_capacity}
use Rattle.l3_wav.proofs.kept.add_all.Given as goal

abbrev pub invariant-loop-i : goal.invariant-loop-i
invariant-loop-i l = record {
  left_is : l.left.items ≡ l.fn.left.items ++ take l.i l.values;
  left_long : vec_len l.left ≡ vec_len l.fn.left + l.i;
  left_capacity : vec_capacity l.left ≡ vec_capacity l.fn.left;
}
