-- One butterfly of the alias reduction. Only the inside of this crate speaks of these.
use Rattle.std.specs.Prelude.{ℕ, ◌+◌, ◌-◌, ◌*◌, List, ℤ, slice_set}
use Rattle.l3_base.specs.Lists.{entry}
use Rattle.l3_transform.specs.Spectrum.{lower_end, upper_end}

-- the lines with butterfly k about the lower end of a subband
abbrev pub with_butterfly : ℕ → ℕ → List ℤ → List ℤ
with_butterfly border k lines =
    let below = entry lines (18 * border - 1 - k) in
    let above = entry lines (18 * border + k) in
    slice_set (slice_set lines (18 * border - 1 - k) (lower_end k below above)) (18 * border + k) (upper_end k below above)
