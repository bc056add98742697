use Rattle.std.proofs.Common.{◌≡◌, ℕ, ◌*◌, ◌<◌, length}
use Rattle.l3_base.specs.Lists.{entry}
use Rattle.l3_transform.specs.Spectrum.{line_before}
use Rattle.l3_transform.proofs.lines.transform.Given as goal

abbrev pub invariant-loop-band : goal.invariant-loop-band
invariant-loop-band l = record {
  long : length l.out ≡ 576;
  value : (n : ℕ) → n < 18 * l.band → entry l.out n ≡ line_before l.slots n;
}
