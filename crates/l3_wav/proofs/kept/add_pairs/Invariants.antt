use Rattle.std.proofs.Common.{◌≡◌, ◌+◌, ◌*◌, ◌++◌, take, vec_len, vec_capacity}
use Rattle.l3_wav.specs.Pcm.{firsts, seconds}
use Rattle.l3_wav.proofs.kept.add_pairs.Given as goal

abbrev pub invariant-loop-i : goal.invariant-loop-i
invariant-loop-i l = record {
  left_is : l.left.items ≡ l.fn.left.items ++ firsts (take (2 * l.i) l.values);
  right_is : l.right.items ≡ l.fn.right.items ++ seconds (take (2 * l.i) l.values);
  left_long : vec_len l.left ≡ vec_len l.fn.left + l.i;
  right_long : vec_len l.right ≡ vec_len l.fn.right + l.i;
  left_capacity : vec_capacity l.left ≡ vec_capacity l.fn.left;
  right_capacity : vec_capacity l.right ≡ vec_capacity l.fn.right;
}
