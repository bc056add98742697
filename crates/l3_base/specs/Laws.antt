-- Laws of this crate's definitions, each carried by a function of src/laws.rt.
use Rattle.std.specs.Prelude.{◌≡◌, ℕ, Bool, true, false, List, [], ◌∷◌}
use Rattle.l3_base.specs.declared.settings.Settings.{Settings}
use Rattle.l3_base.specs.declared.rate.Rate.TheVariants.{K128}
use Rattle.l3_base.specs.declared.rate.SampleRate.TheVariants.{Hz44100}
use Rattle.l3_base.specs.declared.rate.Channels.TheVariants.{Mono, Stereo}
use Rattle.l3_base.specs.Choosing.{first_least, IsFirstLeast, least_passing, IsLeastPassing, greatest_passing, IsGreatestPassing}
use Rattle.l3_base.specs.Header.{header_bits}
use Rattle.l3_bits.specs.Bits.{packed}

-- the first of least cost is what its name says
abbrev pub FirstLeastIsFirst : Type 0 → Type 0
FirstLeastIsFirst A = (cost : A → ℕ) (first : A) (others : List A) → IsFirstLeast cost (first ∷ others) (first_least cost first others)

-- the least that passes is what its name says
abbrev pub LeastPassingIsLeast : Type 0
LeastPassingIsLeast = (limit : ℕ) (passes : ℕ → Bool) → IsLeastPassing limit passes (least_passing limit passes)

-- the greatest that passes is what its name says
abbrev pub GreatestPassingIsGreatest : Type 0
GreatestPassingIsGreatest = (limit : ℕ) (passes : ℕ → Bool) → IsGreatestPassing limit passes (greatest_passing limit passes)

-- 128 kbit/s, 44100 Hz, one channel
abbrev pub common_settings : Settings
common_settings = record { rate = K128; sample_rate = Hz44100; channels = Mono }

-- the same with two channels
abbrev pub stereo_settings : Settings
stereo_settings = record { rate = K128; sample_rate = Hz44100; channels = Stereo }

-- the header of a frame under these settings that is not padded, and of one that is
abbrev pub PlainHeader : Type 0
PlainHeader = packed (header_bits common_settings false false false) ≡ 0xFF ∷ 0xFB ∷ 0x90 ∷ 0xC0 ∷ []

abbrev pub PaddedHeader : Type 0
PaddedHeader = packed (header_bits common_settings true false false) ≡ 0xFF ∷ 0xFB ∷ 0x92 ∷ 0xC0 ∷ []

-- in joint settings, of a frame of left and right, and of one of middle and side
abbrev pub JointHeader : Type 0
JointHeader = packed (header_bits stereo_settings false true false) ≡ 0xFF ∷ 0xFB ∷ 0x90 ∷ 0x40 ∷ []

abbrev pub MiddleSideHeader : Type 0
MiddleSideHeader =
    packed (header_bits stereo_settings false true true) ≡ 0xFF ∷ 0xFB ∷ 0x90 ∷ 0x60 ∷ []

-- one channel has neither joint stereo nor middle and side
abbrev pub MonoHeader : Type 0
MonoHeader = (padded joint middle_side : Bool) →
    header_bits common_settings padded joint middle_side ≡ header_bits common_settings padded false false
