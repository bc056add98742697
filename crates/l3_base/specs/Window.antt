-- The 512 entries of the analysis window.
use Rattle.std.specs.Prelude.{◌≡◌, ℕ, ◌-◌, ◌%◌, ◌<◌, ◌≤◌, ◌==◌, nat_le, ℤ, neg_ℤ, if◌then◌else◌}
use Rattle.l3_base.specs.declared.window.TheConstants.{WINDOW}
use Rattle.l3_base.specs.Lists.{entry}

-- x, with the other sign where 64 does not divide i
abbrev pub signed_at : ℕ → ℤ → ℤ
signed_at i x = if (i % 64) == 0 then x else neg_ℤ x

-- entry i of 512: as printed up to the middle one, then mirrored
unfoldable pub window_at : ℕ → ℤ
window_at i = if nat_le i 256 then entry WINDOW i else signed_at i (entry WINDOW (512 - i))

-- the printed entries are the first ones
abbrev pub WindowIsPrinted : Type 0
WindowIsPrinted = (i : ℕ) → i ≤ 256 → window_at i ≡ entry WINDOW i

-- the entries about the middle one are the same but for the sign, and that too where 64 divides the
-- place
abbrev pub WindowIsMirrored : Type 0
WindowIsMirrored = (i : ℕ) → 0 < i → i < 256 → window_at (512 - i) ≡ signed_at i (window_at i)
