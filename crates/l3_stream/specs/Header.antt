-- The header of a frame by its number, and the settings of a first header (ISO/IEC 11172-3,
-- 2.4.1.3).
use Rattle.std.specs.Prelude.{ℕ, ◌-◌, Bool, false, List, [], ◌∷◌, take, drop, get_or, ◌==◌, if◌then◌else◌, Option, Some, None}
use Rattle.l3_bits.specs.Bits.{number_of}
use Rattle.l3_base.specs.declared.settings.Settings.{Settings}
use Rattle.l3_base.specs.declared.rate.Rate.{Rate}
use Rattle.l3_base.specs.declared.rate.Rate.TheVariants.{K32, K40, K48, K56, K64, K80, K96, K112, K128, K160, K192, K224, K256, K320}
use Rattle.l3_base.specs.declared.rate.SampleRate.{SampleRate}
use Rattle.l3_base.specs.declared.rate.SampleRate.TheVariants.{Hz44100, Hz48000, Hz32000}
use Rattle.l3_base.specs.declared.rate.Channels.{Channels}
use Rattle.l3_base.specs.declared.rate.Channels.TheVariants.{Mono, Stereo}
use Rattle.l3_base.specs.Lengths.{is_padded}
use Rattle.l3_base.specs.Header.{header_bits}
use Rattle.l3_stream.specs.Fields.{same}

-- the header of frame n: the padding bit by the remainder rule
unfoldable pub header_at : Settings → ℕ → List Bool
header_at st n = header_bits st (is_padded st n) false false

-- ---- the settings of a header, whose bits are decoded, and then compared

-- the rate of a bitrate_index from 1 to 14
abbrev pub rate_from : ℕ → Rate
rate_from index = get_or (K32 ∷ K40 ∷ K48 ∷ K56 ∷ K64 ∷ K80 ∷ K96 ∷ K112 ∷ K128 ∷ K160 ∷ K192 ∷ K224 ∷ K256 ∷ K320 ∷ []) (index - 1) K320

-- the rate of a sampling_frequency from 0 to 2
abbrev pub hertz_from : ℕ → SampleRate
hertz_from index = get_or (Hz44100 ∷ Hz48000 ∷ Hz32000 ∷ []) index Hz44100

-- the channels of a mode
abbrev pub channels_from : ℕ → Channels
channels_from mode = if mode == 3 then Mono else Stereo

-- the only settings whose header it may be: bitrate_index, sampling_frequency and mode stand at
-- bits 16, 20 and 24
unfoldable pub settings_of : List Bool → Settings
settings_of bits = record {
  rate = rate_from (number_of (take 4 (drop 16 bits)));
  sample_rate = hertz_from (number_of (take 2 (drop 20 bits)));
  channels = channels_from (number_of (take 2 (drop 24 bits)));
}

-- the padding bit
abbrev pub padded_of : List Bool → Bool
padded_of bits = get_or bits 22 false

-- settings and padding bit of a header of the profile, if these 32 bits are one
unfoldable pub header_from : List Bool → Option (Settings × Bool)
header_from bits = if same bits (header_bits (settings_of bits) (padded_of bits) false false) then Some (settings_of bits, padded_of bits) else None

-- the settings under which these 32 bits are the header of frame 0, if there are some
unfoldable pub settings_at : List Bool → Option Settings
settings_at bits = if same bits (header_at (settings_of bits) 0) then Some (settings_of bits) else None
