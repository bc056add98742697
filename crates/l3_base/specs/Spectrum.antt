-- The 576 lines of a spectrum.
use Rattle.std.specs.Prelude.{◌≡◌, ◌<◌, ◌^◌, List, ℤ, length, unsigned_abs, All}

-- a line is below 2^29 in absolute value
abbrev pub IsLine : ℤ → Type 0
IsLine x = unsigned_abs x < 2 ^ 29

pub record IsSpectrum (lines : List ℤ) : Type 0 where
  pub long : length lines ≡ 576
  pub small : All IsLine lines
