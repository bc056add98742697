-- What a unit takes within a budget: the count at the
-- picked gain, and the quantised values that it counts.
use Rattle.std.specs.Prelude.{◌≡◌, ◌≤◌, ℕ, List, length, Some, ℤ, pos, All}
use Rattle.l3_base.specs.Amp.{no_amp}
use Rattle.l3_base.specs.Spectrum.{IsLine}
use Rattle.l3_base.specs.declared.settings.Settings.{Settings}
use Rattle.l3_count.specs.Count.{Counted, count_of, counted}
use Rattle.l3_base.specs.Bands.{band_edges}
use Rattle.l3_search.specs.Quantiser.{quantised_lines}
use Rattle.l3_search.specs.Gain.{picked_gain}
use Rattle.l3_stream.specs.Units.{IsCodedUnit}
use Rattle.l3_stream.specs.declared.unit.Unit.{Unit}

-- the unit of a count and of the quantised values that it counts
abbrev pub unit_of : Counted → List ℤ → Unit
unit_of c values = record {
  length = c.bits;
  big = c.big;
  quads = c.quads;
  gain = c.gain;
  region0 = c.region0;
  region1 = c.region1;
  tables = c.tables;
  quad = c.quad;
  lines = values;
}

-- the unit of a spectrum's lines at a gain, no band being amplified
abbrev pub unit_at_gain : Settings → ℕ → List ℤ → Unit
unit_at_gain st gain lines =
    unit_of (counted (band_edges st.sample_rate) no_amp gain (quantised_lines (pos gain) lines)) (quantised_lines (pos gain) lines)

-- the unit of a spectrum's lines within a budget: at the least gain whose count is within it
unfoldable pub unit_within : Settings → ℕ → List ℤ → Unit
unit_within st budget lines = unit_at_gain st (picked_gain (band_edges st.sample_rate) no_amp lines budget) lines

-- a count is one of a spectrum at its own gain, for the edges of some bands, of which none is
-- amplified
-- (only the inside of this crate)
abbrev pub IsCountIn : List ℤ → Counted → Type 0
IsCountIn lines c = (edges : List ℕ) × (count_of edges no_amp lines c.gain ≡ Some c)

-- a unit is coded, within a budget, at the picked
-- gain, and its lines are the quantised values there
pub record IsChosenUnit (st : Settings) (budget : ℕ) (lines : List ℤ) (u : Unit) : Type 0 where
  pub coded : IsCodedUnit st u
  pub within : u.length ≤ budget
  pub gain_is : u.gain ≡ picked_gain (band_edges st.sample_rate) no_amp lines budget
  pub lines_are : u.lines ≡ quantised_lines (pos u.gain) lines

-- the unit of each spectrum within each budget that the field of part2_3_length has room for
abbrev pub ChosenUnitsAreCoded : Type 0
ChosenUnitsAreCoded = (st : Settings) (budget : ℕ) (lines : List ℤ) → All IsLine lines → length lines ≡ 576 → budget ≤ 4095 →
    IsChosenUnit st budget lines (unit_within st budget lines)
