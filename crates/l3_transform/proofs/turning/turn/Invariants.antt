use Rattle.std.proofs.Common.{◌≡◌, ℕ, ◌<◌, length}
use Rattle.l3_base.specs.Lists.{entry}
use Rattle.l3_base.specs.Sums.{IsWithin}
use Rattle.l3_transform.specs.Joint.{middle_line, side_line}
use Rattle.l3_transform.proofs.turning.turn.Given as goal

abbrev pub invariant-loop-k : goal.invariant-loop-k
invariant-loop-k l = record {
  middle_long : length l.middle ≡ 576;
  side_long : length l.side ≡ 576;
  middle : (m : ℕ) → m < l.k → entry l.middle m ≡ middle_line (entry l.left-2 m) (entry l.right-2 m);
  side : (m : ℕ) → m < l.k → entry l.side m ≡ side_line (entry l.left-2 m) (entry l.right-2 m);
  middle_small : (m : ℕ) → m < l.k → IsWithin 379617280 (entry l.middle m);
  side_small : (m : ℕ) → m < l.k → IsWithin 379617280 (entry l.side m);
}
