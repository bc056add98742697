-- Fields within one number, the last field in its lowest bits.
-- Only the inside of this crate speaks of these.
use Rattle.std.specs.Prelude.{◌≡◌, ℕ, ◌+◌, ◌/◌, ◌%◌, ◌^◌, false, List, [], ◌∷◌, slice_index}
use Rattle.l3_base.specs.declared.settings.Settings.{Settings}
use Rattle.l3_base.specs.Rates.{index_of, hertz_index_of}
use Rattle.l3_base.specs.Header.{mode_of}

-- the bits of fields of these widths
abbrev pub total_width : List ℕ → ℕ
total_width [] = 0
total_width (width ∷ widths) = width + total_width widths

-- the fields of these widths in a number
abbrev pub fields_of_number : List ℕ → ℕ → List ℕ
fields_of_number [] number = []
fields_of_number (width ∷ widths) number = number / 2 ^ total_width widths % 2 ^ width ∷ fields_of_number widths number

-- bitrate_index, sampling_frequency and mode of a header's number are those of the settings
pub record HasHeaderFields (st : Settings) (number : ℕ) : Type 0 where
  pub bitrate_index : index_of st.rate ≡ number / 4096 % 16
  pub sampling_frequency : hertz_index_of st.sample_rate ≡ number / 1024 % 4
  pub mode : mode_of st.channels false ≡ number / 64 % 4

-- scalefac_compress, window_switching_flag, preflag and scalefac_scale are 0 among the fields of a
-- unit
pub record HasZeros (values : List ℕ) : Type 0 where
  pub scalefac_compress : slice_index values 3 ≡ 0
  pub window_switching : slice_index values 4 ≡ 0
  pub preflag : slice_index values 10 ≡ 0
  pub scalefac_scale : slice_index values 11 ≡ 0
