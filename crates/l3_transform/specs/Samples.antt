-- The samples that a slot takes, and the lists that slots are written to.
-- Only the inside of this crate speaks of these.
use Rattle.std.specs.Prelude.{◌≡◌, ℕ, ◌-◌, ◌<◌, List, ℤ, length}
use Rattle.l3_base.specs.Slots.{subband_in}
use Rattle.l3_base.specs.Lists.{entry}

-- of 512 samples in order of time, the one n before the newest
abbrev pub before_newest : List ℤ → ℕ → ℤ
before_newest samples n = entry samples (511 - n)

-- 32 subbands of 36 slots
pub record HasShape (bands : List (List ℤ)) : Type 0 where
  pub long : length bands ≡ 32
  pub each : (i : ℕ) → i < 32 → length (subband_in bands i) ≡ 36
