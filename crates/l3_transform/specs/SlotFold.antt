-- The 36 windowed slots of a subband folded to 18: slots as far from either end of their half have
-- the same cosines, with the other sign in the first half.
use Rattle.std.specs.Prelude.{ℕ, ◌+◌, ◌-◌, nat_lt, ℤ, ◌+ℤ◌, ◌-ℤ◌, ◌*ℤ◌, if◌then◌else◌}
use Rattle.l3_base.specs.Sums.{sum_below}
use Rattle.l3_transform.specs.Spectrum.{line_cosine}

-- folded slot k: up to 8 the difference of two of the first 18 slots, as far from either end; from
-- 9 on the sum of two of the last 18
unfoldable pub folded_slot : (ℕ → ℤ) → ℕ → ℤ
folded_slot z k = if nat_lt k 9 then z k -ℤ z (17 - k) else z (9 + k) +ℤ z (44 - k)

-- what folded slot k counts for in line m of its subband: as much as the first of its two slots
unfoldable pub folded_cosine : ℕ → ℕ → ℤ
folded_cosine m k = line_cosine m (if nat_lt k 9 then k else 9 + k)

-- the 18 folded slots, each times its cosine for line m
unfoldable pub folded_slots_sum : (ℕ → ℤ) → ℕ → ℤ
folded_slots_sum f m = sum_below 18 (λ k. f k *ℤ folded_cosine m k)
