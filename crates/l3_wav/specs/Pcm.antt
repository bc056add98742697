-- The samples of a WAV file, channel by channel.
use Rattle.std.specs.Prelude.{ℕ, List, [], ◌∷◌, ℤ}
use Rattle.l3_base.specs.declared.rate.Channels.{Channels}
use Rattle.l3_base.specs.declared.rate.Channels.TheVariants.{Mono, Stereo}

-- every other value, from the first
abbrev pub firsts : List ℤ → List ℤ
firsts (x ∷ y ∷ values) = x ∷ firsts values
firsts values = values

-- every other value, from the second
abbrev pub seconds : List ℤ → List ℤ
seconds (x ∷ y ∷ values) = y ∷ seconds values
seconds values = []

-- the left samples of values, one of each channel in turn; in mono all of them
abbrev pub left_of : Channels → List ℤ → List ℤ
left_of Mono values = values
left_of Stereo values = firsts values

-- the right samples; in mono there are none
abbrev pub right_of : Channels → List ℤ → List ℤ
right_of Mono values = []
right_of Stereo values = seconds values

-- how many right samples stand beside so many left ones
abbrev pub right_count : Channels → ℕ → ℕ
right_count Mono count = 0
right_count Stereo count = count
