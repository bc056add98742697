-- The amplification of the bands of a unit.
use Rattle.std.specs.Prelude.{◌≡◌, ℕ, ◌≤◌, List, All, length, replicate}

-- 21 numbers of 0 to 3
pub record IsAmp (bands : List ℕ) : Type 0 where
  pub long : length bands ≡ 21
  pub small : All (λ a. a ≤ 3) bands

-- no band amplified
abbrev pub no_amp : List ℕ
no_amp = replicate 21 0
