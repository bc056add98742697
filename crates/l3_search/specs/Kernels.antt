-- What the inner loops of this crate work on. Only its inside speaks of these.
use Rattle.std.specs.Prelude.{◌≡◌, ℕ, ◌-◌, ◌/◌, ◌%◌, ◌^◌, Bool, ◌&&◌, nat_lt, ℤ, unsigned_abs}
use Rattle.std.specs.List.{filter, range_with_len}
use Rattle.l3_base.specs.Steps.{quarter_at}
use Rattle.l3_quant.specs.Quantiser.{steps_of}
use Rattle.l3_count.specs.Regions.{cheapest}
use Rattle.l3_search.specs.declared.line_noise.Step.{Step}
use Rattle.l3_search.specs.Noise.{scalefactor_bits, slen1_of, slen2_of}

-- whether a scalefac_compress has room for a number of the first bands and one of the others
abbrev pub holds_both : ℕ → ℕ → ℕ → Bool
holds_both first second compress = nat_lt first (2 ^ slen1_of compress) && nat_lt second (2 ^ slen2_of compress)

-- the one of fewest bits that has, and of such the least number
unfoldable pub compress_for : ℕ → ℕ → ℕ
compress_for first second = cheapest scalefactor_bits 0 (filter (holds_both first second) (range_with_len 0 16))

-- what rebuilds values at a gain: the power of a value is doubled so often and divided by the
-- factor of the quarter steps
pub record IsStepOf (gain : ℤ) (s : Step) : Type 0 where
  pub gain_is : s.gain ≡ gain
  pub doubled_is : s.doubled ≡ 2 ^ (54 - steps_of gain / 4)
  pub factor_is : s.factor ≡ unsigned_abs (quarter_at (steps_of gain % 4))
