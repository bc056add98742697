-- The numbers of headers.
use Rattle.std.proofs.Common.{◌≡◌, ℕ, ◌+◌, ◌*◌, ◌/◌, ◌%◌, ◌^◌, ◌<◌, Bool, true, false, List, [], ◌∷◌, ◌++◌, length, take, drop, replicate, refl, ap, sym, ◌∙◌, arith, lit<, Option, Some, None}
use Rattle.std.specs.Prelude.{nat_eq, nat_lt, if◌then◌else◌}
use Rattle.std.proofs.lemmas.Bool.{lt-ltb, le-ltb}
use Rattle.std.proofs.lemmas.List.{append-nil, take_all}
use Rattle.l3_base.specs.declared.settings.Settings.{Settings}
use Rattle.l3_base.specs.declared.rate.Rate.{Rate}
use Rattle.l3_base.specs.declared.rate.SampleRate.{SampleRate}
use Rattle.l3_base.specs.declared.rate.SampleRate.TheVariants.{Hz44100, Hz48000, Hz32000}
use Rattle.l3_base.specs.declared.rate.Channels.{Channels}
use Rattle.l3_base.specs.declared.rate.Channels.TheVariants.{Mono, Stereo}
use Rattle.l3_base.specs.Rates.{index_of, hertz_index_of}
use Rattle.l3_base.specs.Lengths.{is_padded}
use Rattle.l3_base.specs.Header.{header_bits, mode_of}
use Rattle.l3_bits.specs.Bits.{digits, bits_of, number_of}
use Rattle.l3_bits.proofs.Numbers.{digits-fold}
use Rattle.l3_bits.proofs.Places.{length-bits_of}
use Rattle.l3_bits.proofs.Bytes.{number_of-digits}
use Rattle.l3_stream.specs.Fields.{FieldsFit}
use Rattle.l3_stream.specs.Header.{header_at, header_from, rate_from, hertz_from}
use Rattle.l3_stream.proofs.Header.{is_rate, rate_is, hertz_is, headers_are_there, headers_are_found}
use Rattle.l3_stream.specs.Numbers.{HasHeaderFields}
use Rattle.l3_stream.proofs.NumberLemmas.{number_in, number_in-digits, number_of-spelled}

-- a frame is padded where it is longer than the least
pub padded-is : (base long least : ℕ) (padded : Bool) → base ≡ least → long ≡ least + (if padded then 1 else 0) → nat_lt base long ≡ padded
padded-is base long least true is_base is_long = lt-ltb base long (omega arith)
padded-is base long least false is_base is_long = le-ltb base long (omega arith)

hertz_index_of-small : (s : SampleRate) → hertz_index_of s < 2 ^ 2
hertz_index_of-small Hz44100 = lit< tt
hertz_index_of-small Hz48000 = lit< tt
hertz_index_of-small Hz32000 = lit< tt

mode_of-small : (c : Channels) → mode_of c false < 2 ^ 2
mode_of-small Mono = lit< tt
mode_of-small Stereo = lit< tt

-- 1 for a padded frame
abbrev pub padding : Bool → ℕ
padding padded = if padded then 1 else 0

padding-small : (padded : Bool) → padding padded < 2 ^ 1
padding-small true = lit< tt
padding-small false = lit< tt

-- ---- the fields of a header

abbrev header_widths : List ℕ
header_widths = 12 ∷ 1 ∷ 2 ∷ 1 ∷ 4 ∷ 2 ∷ 1 ∷ 1 ∷ 2 ∷ 2 ∷ 1 ∷ 1 ∷ 2 ∷ []

abbrev header_values : Settings → Bool → List ℕ
header_values st padded = 4095 ∷ 1 ∷ 1 ∷ 1 ∷ index_of st.rate ∷ hertz_index_of st.sample_rate ∷ padding padded ∷ 0 ∷ mode_of st.channels false ∷ 0 ∷ 0 ∷ 0 ∷ 0 ∷ []

values_fit : (st : Settings) (padded : Bool) → FieldsFit header_widths (header_values st padded)
values_fit st padded = (lit< tt, (lit< tt, (lit< tt, (lit< tt, ((is_rate st.rate).index, (hertz_index_of-small st.sample_rate, (padding-small padded, (lit< tt, (mode_of-small st.channels, (lit< tt, (lit< tt, (lit< tt, (lit< tt, tt)))))))))))))

-- a header as a number
pub header_of : ℕ → ℕ → ℕ → ℕ → ℕ
header_of rate frequency padding mode = ((((1048496 + rate) * 4 + frequency) * 2 + padding) * 8 + mode) * 64

header_of-fields : (st : Settings) (padded : Bool) → header_of (index_of st.rate) (hertz_index_of st.sample_rate) (padding padded) (mode_of st.channels false) ≡ number_in header_widths (header_values st padded)
unfolding header_of
header_of-fields st padded = omega arith

-- its digits are those of the settings
pub header_of-digits : (st : Settings) (padded : Bool) (rate frequency flag mode : ℕ) →
    rate ≡ index_of st.rate → frequency ≡ hertz_index_of st.sample_rate → flag ≡ padding padded → mode ≡ mode_of st.channels false →
    digits 32 (((((1048496 + rate) * 4 + frequency) * 2 + flag) * 8 + mode) * 64) ≡ header_bits st padded false false
unfolding header_of
header_of-digits st padded rate frequency flag mode is_rate is_frequency is_flag is_mode =
    let same : header_of rate frequency flag mode ≡ number_in header_widths (header_values st padded) = rw (is_rate, is_frequency, is_flag, is_mode) (header_of-fields st padded) in
    ap (digits 32) same ∙ number_in-digits header_widths (header_values st padded) (values_fit st padded)

-- ---- four bytes and the number that they stand for

four_bytes : (bytes : List ℕ) → length bytes ≡ 4 → length (bits_of bytes) ≡ 32
four_bytes bytes four = omega (arith, length-bits_of bytes)

number_of_four : (bytes : List ℕ) → length bytes ≡ 4 → number_of (take 32 (drop 0 (bits_of bytes))) ≡ number_of (bits_of bytes)
number_of_four bytes four = ap number_of (take_all 32 (bits_of bytes) (omega (arith, four_bytes bytes four)))

-- a number's digits over four bytes of zeros
pub header_written : (new : List ℕ) (number : ℕ) (header : List Bool) → digits 32 number ≡ header →
    bits_of new ≡ take 0 (bits_of (replicate 4 0)) ++ digits 32 number ++ drop 32 (bits_of (replicate 4 0)) → bits_of new ≡ header
header_written new number header is written = written ∙ (append-nil (digits 32 number) ∙ is)

pub header_frame : (st : Settings) (frame : ℕ) → header_bits st (is_padded st frame) false false ≡ header_at st frame
unfolding header_at
header_frame st frame = refl

-- bytes whose number is a header's are the header
pub bytes_there : (bytes : List ℕ) (number other : ℕ) (header : List Bool) → length bytes ≡ 4 → number ≡ number_of (take 32 (drop 0 (bits_of bytes))) →
    other ≡ number → digits 32 other ≡ header → bits_of bytes ≡ header
bytes_there bytes number other header four is same digits_are =
    let whole : number ≡ number_of (bits_of bytes) = is ∙ number_of_four bytes four in
    let spelled : digits 32 (number_of (bits_of bytes)) ≡ bits_of bytes = ap (λ n. digits n (number_of (bits_of bytes))) (sym (four_bytes bytes four)) ∙ digits-fold (bits_of bytes) 0 in
    sym spelled ∙ (ap (digits 32) (sym (same ∙ whole)) ∙ digits_are)

-- the number of bytes that are a header
pub number_there : (bytes : List ℕ) (number : ℕ) (st : Settings) (padded : Bool) → length bytes ≡ 4 → number ≡ number_of (take 32 (drop 0 (bits_of bytes))) →
    bits_of bytes ≡ header_bits st padded false false → number ≡ header_of (index_of st.rate) (hertz_index_of st.sample_rate) (padding padded) (mode_of st.channels false)
number_there bytes number st padded four is header =
    is ∙ (number_of_four bytes four ∙ (ap number_of header ∙ (number_of-spelled header_widths (header_values st padded) (values_fit st padded) ∙ sym (header_of-fields st padded))))

-- ---- the fields of a header's number

field_values : (rate frequency flag mode : ℕ) → rate < 16 → frequency < 4 → flag < 2 → mode < 4 →
    (rate ≡ header_of rate frequency flag mode / 4096 % 16) × (frequency ≡ header_of rate frequency flag mode / 1024 % 4)
    × (flag ≡ header_of rate frequency flag mode / 512 % 2) × (mode ≡ header_of rate frequency flag mode / 64 % 4)
unfolding header_of
field_values rate frequency flag mode a b c d = (omega arith, omega arith, omega arith, omega arith)

flag_back : (padded : Bool) (n : ℕ) → padding padded ≡ n → nat_eq n 1 ≡ padded
flag_back true n e = rw (← e) refl
flag_back false n e = rw (← e) refl

pub record ReadsFields (number : ℕ) (st : Settings) (padded : Bool) : Type 0 where
  pub settings : HasHeaderFields st number
  pub flag : nat_eq (number / 512 % 2) 1 ≡ padded

pub fields_there : (number : ℕ) (st : Settings) (padded : Bool) → number ≡ header_of (index_of st.rate) (hertz_index_of st.sample_rate) (padding padded) (mode_of st.channels false) → ReadsFields number st padded
fields_there number st padded is =
    let all = field_values (index_of st.rate) (hertz_index_of st.sample_rate) (padding padded) (mode_of st.channels false)
    ((is_rate st.rate).index) (hertz_index_of-small st.sample_rate) (padding-small padded) (mode_of-small st.channels) in
    record {
      settings = record { bitrate_index = rw is all.0; sampling_frequency = rw is all.1; mode = rw is all.3 };
      flag = flag_back padded (number / 512 % 2) (rw is all.2);
    }

-- ---- settings are those of their fields

rate_by : (r s : Rate) → index_of r ≡ index_of s → r ≡ s
rate_by r s e = sym (rate_is r) ∙ (ap rate_from e ∙ rate_is s)

hertz_by : (r s : SampleRate) → hertz_index_of r ≡ hertz_index_of s → r ≡ s
hertz_by r s e = sym (hertz_is r) ∙ (ap hertz_from e ∙ hertz_is s)

channels_by : (c d : Channels) → mode_of c false ≡ mode_of d false → c ≡ d
channels_by Mono Mono e = refl
channels_by Mono Stereo e = absurd (omega arith)
channels_by Stereo Mono e = absurd (omega arith)
channels_by Stereo Stereo e = refl

abbrev made_of : Rate → SampleRate → Channels → Settings
made_of r h c = record { rate = r; sample_rate = h; channels = c }

pub one_settings : (number : ℕ) (a b : Settings) → HasHeaderFields a number → HasHeaderFields b number → a ≡ b
one_settings number a b x y =
    ap (λ r. made_of r a.sample_rate a.channels) (rate_by a.rate b.rate (x.bitrate_index ∙ sym y.bitrate_index))
    ∙ (ap (λ h. made_of b.rate h a.channels) (hertz_by a.sample_rate b.sample_rate (x.sampling_frequency ∙ sym y.sampling_frequency))
    ∙ ap (λ c. made_of b.rate b.sample_rate c) (channels_by a.channels b.channels (x.mode ∙ sym y.mode)))

-- a number that is not that of its own fields is no header's
pub no_header : (bytes : List ℕ) (number other : ℕ) (own : Settings) → length bytes ≡ 4 → number ≡ number_of (take 32 (drop 0 (bits_of bytes))) →
    HasHeaderFields own number → digits 32 other ≡ header_bits own (nat_eq (number / 512 % 2) 1) false false → other < 2 ^ 32 → (other ≡ number → ⊥) →
    (st : Settings) (padded : Bool) → bits_of bytes ≡ header_bits st padded false false → ⊥
no_header bytes number other own four is fields spelled small differ st padded header =
    let value = number_there bytes number st padded four is header in
    let reads = fields_there number st padded value in
    let settings : own ≡ st = one_settings number own st fields reads.settings in
    let text : digits 32 other ≡ bits_of bytes = spelled ∙ (ap (λ s. header_bits s (nat_eq (number / 512 % 2) 1) false false) settings ∙ (ap (λ p. header_bits st p false false) reads.flag ∙ sym header)) in
    let same : other ≡ number_of (bits_of bytes) = sym (number_of-digits 32 other small) ∙ ap number_of text in
    differ (same ∙ sym (is ∙ number_of_four bytes four))

-- ---- in the words of the reading of a stream

none_of : {X : Type 0} (o : Option X) → ((x : X) → o ≡ Some x → ⊥) → o ≡ None
none_of None never = refl
none_of (Some x) never = absurd (never x refl)

pub read_as : (bits : List Bool) (st : Settings) (padded : Bool) → bits ≡ header_bits st padded false false → header_from bits ≡ Some (st, padded)
read_as bits st padded is = ap header_from is ∙ (headers_are_found st).of_any padded

pub read_as_none : (bits : List Bool) → ((st : Settings) (padded : Bool) → bits ≡ header_bits st padded false false → ⊥) → header_from bits ≡ None
read_as_none bits never = none_of (header_from bits) (λ read e. never read.0 read.1 ((headers_are_there bits).of_any read.0 read.1 e))
