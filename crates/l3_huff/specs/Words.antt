-- Bits of bytes: those up to an end, and what reading them gives.
use Rattle.std.specs.Prelude.{◌≤◌, ◌≡◌, ℕ, Bool, List, Option, Some, slice_range, [], ◌∷◌, ◌++◌}
use Rattle.l3_bits.specs.Bits.{bits_of}

-- the bytes, and three zeros after them
abbrev pub with_zeros : List ℕ → List ℕ
with_zeros bytes = bytes ++ 0 ∷ 0 ∷ 0 ∷ []

-- the bits from `at` to `end`
abbrev pub between : List ℕ → ℕ → ℕ → List Bool
between bytes at end = slice_range (bits_of bytes) at end

-- reading at bit `at` gave `value` and goes on at `next` (only the inside of this crate)
pub record GoesOn {A : Type 0} (read : List Bool → Option (A × List Bool)) (bytes : List ℕ) (at end : ℕ) (value : A) (next : ℕ) : Type 0 where
  pub forward : at ≤ next
  pub within : next ≤ end
  pub given : read (between bytes at end) ≡ Some (value, between bytes next end)
