-- The demo's WAV file: a signal that is made of a number.
use Rattle.std.specs.Prelude.{ℕ, zero, suc, ◌+◌, ◌-◌, ◌*◌, ◌/◌, ◌%◌, ◌^◌, List, [], ◌∷◌, ◌++◌, ℤ, pos, ◌+ℤ◌, ◌-ℤ◌, nat_lt, codes, if◌then◌else◌}
use Rattle.std.specs.Int.{cast_unsigned, int_div_euclid, to_le_bytes, w16, w32}

-- ---- the noise

-- the number after this one
abbrev pub after : ℕ → ℕ
after state = (1664525 * state + 1013904223) % 2 ^ 32

-- the numbers in turn, the seed first
unfoldable pub state_at : ℕ → ℕ → ℕ
state_at seed zero = seed
state_at seed (suc n) = after (state_at seed n)

-- the upper 16 bits of a number, as a signed value
abbrev pub noise_of : ℕ → ℤ
noise_of state = pos (state / 2 ^ 16) -ℤ pos 32768

-- the noise, from the number after the seed on
abbrev pub noise_at : ℕ → ℕ → ℤ
noise_at seed n = noise_of (after (state_at seed n))

-- ---- the samples at a time

-- a value divided by a number, rounded down
abbrev pub floor_of : ℤ → ℕ → ℤ
floor_of value divisor = int_div_euclid value (pos divisor)

-- a triangle wave of 100 samples, from -10000 up to 10000 and down again
abbrev pub triangle_at : ℕ → ℤ
triangle_at at = if nat_lt (at % 100) 50
    then pos (400 * (at % 100)) -ℤ pos 10000
    else pos 30000 -ℤ pos (400 * (at % 100))

-- 0 to 7, one more every 4608 samples, and then 0 again
abbrev pub swell_at : ℕ → ℕ
swell_at at = at / 4608 % 8

-- left: the wave, and under it noise that fades as the other side's swells
abbrev pub left_by : ℕ → ℤ → ℤ
left_by at noise = triangle_at at +ℤ floor_of noise (2 ^ (swell_at at + 2))

-- right: half of the left sample, and noise that swells
abbrev pub right_by : ℕ → ℤ → ℤ → ℤ
right_by at left noise = floor_of left 2 +ℤ floor_of noise (2 ^ (9 - swell_at at))

-- each sample takes two numbers of the noise
abbrev pub left_at : ℕ → ℕ → ℤ
left_at seed at = left_by at (noise_at seed (2 * at))

abbrev pub right_at : ℕ → ℕ → ℤ
right_at seed at = right_by at (left_at seed at) (noise_at seed (2 * at + 1))

-- ---- the file

-- the low 16 bits of a sample in two's complement, the low byte first
abbrev pub sample_bytes : ℤ → List ℕ
sample_bytes value = to_le_bytes w16 (cast_unsigned w32 value % 65536)

-- one sample of each channel
abbrev pub block_at : ℕ → ℕ → List ℕ
block_at seed at = sample_bytes (left_at seed at) ++ sample_bytes (right_at seed at)

-- so many samples of each channel from a time on
unfoldable pub samples_from : ℕ → (at count : ℕ) → List ℕ
samples_from seed at zero = []
samples_from seed at (suc count) = block_at seed at ++ samples_from seed (at + 1) count

-- the same by the number at which the noise stands (only the inside of this crate)
abbrev pub block_after : (state at : ℕ) → List ℕ
block_after state at = let left = left_by at (noise_of (after state)) in
    sample_bytes left ++ sample_bytes (right_by at left (noise_of (after (after state))))

unfoldable pub samples_after : (state at count : ℕ) → List ℕ
samples_after state at zero = []
samples_after state at (suc count) = block_after state at ++ samples_after (after (after state)) (at + 1) count

-- 1152 samples a frame
abbrev pub samples_for : ℕ → ℕ
samples_for frames = 1152 * frames

-- plain PCM of two channels
abbrev pub form_bytes : List ℕ
form_bytes = 1 ∷ 0 ∷ 2 ∷ 0 ∷ []

-- samples of 16 bits, 4 bytes for both channels
abbrev pub depth_bytes : List ℕ
depth_bytes = 4 ∷ 0 ∷ 16 ∷ 0 ∷ []

-- 44100 Hz, 176400 bytes a second
abbrev pub head_of : ℕ → List ℕ
head_of frames = codes "RIFF" ++ to_le_bytes w32 (36 + 4 * samples_for frames) ++ codes "WAVEfmt "
    ++ to_le_bytes w32 16 ++ form_bytes ++ to_le_bytes w32 44100 ++ to_le_bytes w32 176400 ++ depth_bytes
    ++ codes "data" ++ to_le_bytes w32 (4 * samples_for frames)

unfoldable pub demo_file : (frames seed : ℕ) → List ℕ
demo_file frames seed = head_of frames ++ samples_from seed 0 (samples_for frames)
