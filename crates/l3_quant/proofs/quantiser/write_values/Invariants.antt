use Rattle.std.proofs.Common.{◌≡◌, ℕ, ◌<◌, ◌≤◌, pos, get_or, length}
use Rattle.std.specs.Prelude.{unsigned_abs}
use Rattle.l3_quant.specs.Quantiser.{magnitude_at, with_sign_of}
use Rattle.l3_quant.specs.Values.{AreScaled}
use Rattle.l3_quant.proofs.quantiser.write_values.Given as goal

abbrev pub invariant-loop-i : goal.invariant-loop-i
invariant-loop-i l = record {
  long : length l.out ≡ 576;
  value : (steps : ℕ → ℕ) → AreScaled steps l.lines l.scaled → (k : ℕ) → k < l.i →
      get_or l.out k (pos 0) ≡ with_sign_of (get_or l.lines k (pos 0)) (magnitude_at (unsigned_abs (get_or l.lines k (pos 0))) (steps k));
  bound : (k : ℕ) → k < l.i → unsigned_abs (get_or l.out k (pos 0)) ≤ 8191;
}
