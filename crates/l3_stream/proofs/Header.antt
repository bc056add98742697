-- Headers and their settings; lengths of frames.
use Rattle.std.proofs.Common.{◌≡◌, ℕ, zero, suc, ◌+◌, ◌*◌, ◌/◌, ◌^◌, ◌<◌, ◌≤◌, Bool, true, false, List, length, Some, refl, ap, ◌∙◌, arith}
use Rattle.std.proofs.lemmas.Option.{cond_some}
use Rattle.l3_bits.specs.Bits.{digits, number_of}
use Rattle.l3_bits.proofs.Bytes.{number_of-digits}
use Rattle.l3_base.specs.declared.settings.Settings.{Settings}
use Rattle.l3_base.specs.declared.rate.Rate.{Rate}
use Rattle.l3_base.specs.declared.rate.Rate.TheVariants.{K32, K40, K48, K56, K64, K80, K96, K112, K128, K160, K192, K224, K256, K320}
use Rattle.l3_base.specs.declared.rate.SampleRate.{SampleRate}
use Rattle.l3_base.specs.declared.rate.SampleRate.TheVariants.{Hz44100, Hz48000, Hz32000}
use Rattle.l3_base.specs.declared.rate.Channels.{Channels}
use Rattle.l3_base.specs.declared.rate.Channels.TheVariants.{Mono, Stereo}
use Rattle.l3_base.specs.Rates.{index_of, kbits_of, hertz_of, hertz_index_of, head_bytes_of}
use Rattle.l3_base.specs.Lengths.{frame_bytes_of, slot_bytes_of, slots_before}
use Rattle.l3_base.specs.Header.{mode_of}
use Rattle.l3_base.specs.Header.{header_bits}
use Rattle.l3_stream.specs.Fields.{same}
use Rattle.l3_stream.specs.Header.{header_at, header_from, padded_of, settings_of, settings_at, rate_from, hertz_from, channels_from}
use Rattle.l3_stream.specs.Side.{side_bytes}
use Rattle.l3_stream.specs.Laws.{HeadersAreThere, HeadersAreFound}
use Rattle.l3_stream.proofs.Fields.{same_is, same_again}
use Rattle.l3_stream.proofs.Tape.{slots-suc}

-- ---- settings

pub header-length : (st : Settings) (n : ℕ) → length (header_at st n) ≡ 8 * 4
unfolding header_at
header-length st n = refl

-- a bitrate_index gives its rate back
pub rate_is : (r : Rate) → rate_from (index_of r) ≡ r
rate_is K32 = refl
rate_is K40 = refl
rate_is K48 = refl
rate_is K56 = refl
rate_is K64 = refl
rate_is K80 = refl
rate_is K96 = refl
rate_is K112 = refl
rate_is K128 = refl
rate_is K160 = refl
rate_is K192 = refl
rate_is K224 = refl
rate_is K256 = refl
rate_is K320 = refl

pub record IsRate (r : Rate) : Type 0 where
  pub index : index_of r < 2 ^ 4
  pub kbits : 32 ≤ kbits_of r

-- the bitrate_index of a rate, and its least
pub is_rate : (r : Rate) → IsRate r
is_rate K32 = record { index = omega arith; kbits = omega arith }
is_rate K40 = record { index = omega arith; kbits = omega arith }
is_rate K48 = record { index = omega arith; kbits = omega arith }
is_rate K56 = record { index = omega arith; kbits = omega arith }
is_rate K64 = record { index = omega arith; kbits = omega arith }
is_rate K80 = record { index = omega arith; kbits = omega arith }
is_rate K96 = record { index = omega arith; kbits = omega arith }
is_rate K112 = record { index = omega arith; kbits = omega arith }
is_rate K128 = record { index = omega arith; kbits = omega arith }
is_rate K160 = record { index = omega arith; kbits = omega arith }
is_rate K192 = record { index = omega arith; kbits = omega arith }
is_rate K224 = record { index = omega arith; kbits = omega arith }
is_rate K256 = record { index = omega arith; kbits = omega arith }
is_rate K320 = record { index = omega arith; kbits = omega arith }

-- a sampling_frequency gives its rate back
pub hertz_is : (h : SampleRate) → hertz_from (hertz_index_of h) ≡ h
hertz_is Hz44100 = refl
hertz_is Hz48000 = refl
hertz_is Hz32000 = refl

hertz_small : (h : SampleRate) → hertz_index_of h < 2 ^ 2
hertz_small Hz44100 = omega arith
hertz_small Hz48000 = omega arith
hertz_small Hz32000 = omega arith

channels_are : (c : Channels) → channels_from (number_of (digits 2 (mode_of c false))) ≡ c
channels_are Mono = refl
channels_are Stereo = refl

abbrev made_of : Rate → SampleRate → Channels → Settings
made_of r h c = record { rate = r; sample_rate = h; channels = c }

settings_of-header_bits : (st : Settings) (padded : Bool) → settings_of (header_bits st padded false false) ≡ st
unfolding settings_of
settings_of-header_bits st padded =
    let rate : rate_from (number_of (digits 4 (index_of st.rate))) ≡ st.rate = ap rate_from (number_of-digits 4 (index_of st.rate) (is_rate st.rate).index) ∙ rate_is st.rate in
    let hertz : hertz_from (number_of (digits 2 (hertz_index_of st.sample_rate))) ≡ st.sample_rate = ap hertz_from (number_of-digits 2 (hertz_index_of st.sample_rate) (hertz_small st.sample_rate)) ∙ hertz_is st.sample_rate in
    ap (λ r. made_of r (hertz_from (number_of (digits 2 (hertz_index_of st.sample_rate)))) (channels_from (number_of (digits 2 (mode_of st.channels false))))) rate
    ∙ (ap (λ h. made_of st.rate h (channels_from (number_of (digits 2 (mode_of st.channels false))))) hertz
    ∙ ap (λ c. made_of st.rate st.sample_rate c) (channels_are st.channels))

header-first : (st : Settings) → header_at st 0 ≡ header_bits st false false false
unfolding header_at
header-first st = refl

settings_of-header : (st : Settings) → settings_of (header_at st 0) ≡ st
settings_of-header st = ap settings_of (header-first st) ∙ settings_of-header_bits st false

padded_of-header : (st : Settings) (padded : Bool) → padded_of (header_bits st padded false false) ≡ padded
padded_of-header st false = refl
padded_of-header st true = refl

pub settings_take : (bits : List Bool) (st : Settings) → settings_at bits ≡ Some st → bits ≡ header_at st 0
unfolding settings_at
settings_take bits st e =
    let p = cond_some (same bits (header_at (settings_of bits) 0)) (settings_of bits) st e in
    same_is _ _ p.0 ∙ ap (λ s. header_at s 0) p.1

pub settings_again : (st : Settings) → settings_at (header_at st 0) ≡ Some st
unfolding settings_at
settings_again st = rw (settings_of-header st, same_again (header_at st 0)) refl

header_take : (bits : List Bool) (st : Settings) (padded : Bool) → header_from bits ≡ Some (st, padded) → bits ≡ header_bits st padded false false
unfolding header_from
header_take bits st padded e =
    let p = cond_some (same bits (header_bits (settings_of bits) (padded_of bits) false false)) (settings_of bits, padded_of bits) (st, padded) e in
    let read : Settings × Bool = (st, padded) in
    same_is _ _ p.0 ∙ ap (λ (x : Settings × Bool). header_bits x.0 x.1 false false) p.1

header_again : (bits : List Bool) (st : Settings) (padded : Bool) → bits ≡ header_bits st padded false false → header_from bits ≡ Some (st, padded)
unfolding header_from
header_again bits st padded e =
    let settings : settings_of bits ≡ st = ap settings_of e ∙ settings_of-header_bits st padded in
    let flag : padded_of bits ≡ padded = ap padded_of e ∙ padded_of-header st padded in
    rw (settings, flag, ← e, same_again bits) refl

pub headers_are_there : (bits : List Bool) → HeadersAreThere bits
headers_are_there bits = record { of_any = header_take bits; of_first = settings_take bits }

pub headers_are_found : (st : Settings) → HeadersAreFound st
headers_are_found st = record { of_any = λ padded. header_again (header_bits st padded false false) st padded refl; of_first = settings_again st }

-- ---- lengths

pub head_bytes : (c : Channels) → head_bytes_of c ≡ 4 + side_bytes c
head_bytes Mono = refl
head_bytes Stereo = refl

head_small : (c : Channels) → head_bytes_of c ≤ 36
head_small Mono = omega arith
head_small Stereo = omega arith

base_by : (h : SampleRate) (k : ℕ) → 32 ≤ k → 36 ≤ 144000 * k / hertz_of h
base_by Hz44100 k le = omega arith
base_by Hz48000 k le = omega arith
base_by Hz32000 k le = omega arith

pub frame_size : (st : Settings) (n : ℕ) → frame_bytes_of st n ≡ 4 + side_bytes st.channels + slot_bytes_of st n
frame_size st n = omega (arith, base_by st.sample_rate (kbits_of st.rate) (is_rate st.rate).kbits, head_small st.channels, head_bytes st.channels)

pub slots-grow : (st : Settings) (n k : ℕ) → slots_before st n ≤ slots_before st (n + k)
slots-grow st n zero = let e : n + 0 ≡ n = omega arith in rw e (omega arith)
slots-grow st n (suc k) =
    let e : n + suc k ≡ suc (n + k) = omega arith in
    rw e (omega (arith, slots-grow st n k, slots-suc st (n + k)))
