-- The values that the data of a WAV file stands for, one for each channel in turn, left before
-- right.
use Rattle.std.specs.Prelude.{◌≡◌, ℕ, ◌+◌, ◌-◌, ◌*◌, ◌/◌, ◌<◌, ◌≤◌, Bool, true, false, List, [], ◌∷◌, ℤ, Option, Some, length, take, drop, min, nat_lt, if◌then◌else◌}
use Rattle.std.specs.Int.{cast_signed, w16}
use Rattle.l3_base.specs.declared.rate.Channels.{Channels}
use Rattle.l3_base.specs.Rates.{channels_of}

-- what a reader of samples keeps
pub record SamplesState : Type 0 where
  pub channels : Channels
  -- declared bytes of the data that are still to be read
  pub remaining : ℕ
  pub failed : Bool

-- a reader that has read nothing yet
abbrev pub unread : Channels → ℕ → SamplesState
unread channels declared = record { channels = channels; remaining = declared; failed = false }

-- the value of two bytes: 16 bits in two's complement, the low byte first
abbrev pub value_of : ℕ → ℕ → ℤ
value_of low high = cast_signed w16 (low + 256 * high)

-- the values of some bytes; an odd one at the end is none
abbrev pub values_of : List ℕ → List ℤ
values_of (low ∷ high ∷ rest) = value_of low high ∷ values_of rest
values_of rest = []

-- bytes of one value of each channel
abbrev pub block_align : Channels → ℕ
block_align channels = 2 * channels_of channels

-- how many of m bytes are of whole samples, which have one value of each channel
abbrev pub whole_bytes : Channels → ℕ → ℕ
whole_bytes channels m = m / block_align channels * block_align channels

-- the bytes without the rest that is less than a whole sample
abbrev pub whole_samples : Channels → List ℕ → List ℕ
whole_samples channels bytes = take (whole_bytes channels (length bytes)) bytes

-- the values still to come, where the source has these bytes left
abbrev pub coming : SamplesState → List ℕ → List ℤ
coming samples left = values_of (whole_samples samples.channels (take samples.remaining left))

-- the reader after n values, of so many that were wanted: where n is less, the data has ended
abbrev pub samples_after : SamplesState → ℕ → ℕ → SamplesState
samples_after samples n wanted =
    record { channels = samples.channels; remaining = if nat_lt n wanted then 0 else samples.remaining - 2 * n; failed = false }

-- what the source has left then: what follows the data, or what follows the n values
abbrev pub left_after : SamplesState → ℕ → ℕ → List ℕ → List ℕ
left_after samples n wanted left = if nat_lt n wanted then drop samples.remaining left else drop (2 * n) left

-- n values were read into the front of a buffer: all that it has room for, or all that were still
-- to come
pub record ReadsValues (before : SamplesState) (left : List ℕ) (n : ℕ) (buffer : List ℤ) (left_now : Option (List ℕ)) : Type 0 where
  pub count : n ≡ min (length buffer) (length (coming before left))
  pub values : take n buffer ≡ take n (coming before left)
  pub rest : left_now ≡ Some (left_after before n (length buffer) left)
  pub others : coming (samples_after before n (length buffer)) (left_after before n (length buffer) left) ≡ drop n (coming before left)

-- the values of a block of so many wanted bytes, or of what is there of them, were read into the
-- front of a buffer (only the inside of this crate)
pub record ReadsBlock (channels : Channels) (want : ℕ) (left : List ℕ) (count : ℕ) (is_whole : Bool) (buffer : List ℤ) (left_now : Option (List ℕ)) : Type 0 where
  pub bytes : 2 * count ≡ whole_bytes channels (length (take want left))
  pub values : take count buffer ≡ values_of (whole_samples channels (take want left))
  pub rest : left_now ≡ Some (drop want left)
  pub whole : is_whole ≡ true → want ≤ length left
  pub short : is_whole ≡ false → length left < want
