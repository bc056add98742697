-- The thresholds of the quantised values.
use Rattle.std.specs.Prelude.{ℕ, ◌≤◌, slice_index}
use Rattle.l3_quant.specs.declared.thresholds.TheConstants.{THRESHOLDS, FIRST, MIDDLE, HIGH}
use Rattle.l3_quant.specs.Quantiser.{Reaches}

-- y is the least that reaches n
pub record IsThreshold (n y : ℕ) : Type 0 where
  pub reaches : Reaches y n
  pub least : (z : ℕ) → Reaches z n → y ≤ z

-- the threshold of n
unfoldable pub threshold_at : ℕ → ℕ
threshold_at n = slice_index THRESHOLDS n

-- what the first number of a block of 1024 reaches (only the inside of this crate)
unfoldable pub low_at : ℕ → ℕ
low_at block = slice_index FIRST block

-- what the first number of a block of 8192 reaches (only the inside of this crate)
unfoldable pub middle_at : ℕ → ℕ
middle_at block = slice_index MIDDLE block

-- what the first number of a block of 2^19 from 2^24 on reaches, cut at 8176
-- (only the inside of this crate)
unfoldable pub high_at : ℕ → ℕ
high_at block = slice_index HIGH block
