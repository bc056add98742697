use Rattle.std.proofs.Common.{◌≡◌, ℕ, ◌<◌, ◌^◌, leb, take}
use Rattle.std.specs.Prelude.{unsigned_abs}
use Rattle.std.specs.List.{list_all}
use Rattle.l3_quant.proofs.peaks.peak.Given as goal

abbrev pub invariant-loop-x : goal.invariant-loop-x
invariant-loop-x l = record {
  small : l.peak < 2 ^ 29;
  value : (n : ℕ) → list_all (λ x. leb (unsigned_abs x) n) (take l.x-index l.lines) ≡ leb l.peak n;
}
