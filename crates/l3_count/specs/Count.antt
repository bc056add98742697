-- What a unit costs at a gain: its split, regions and tables, and all their bits.
use Rattle.std.specs.Prelude.{◌≡◌, ◌≤◌, ◌<◌, ◌+◌, ◌*◌, ℕ, List, length, slice_index, Option, Some, None, if◌then◌else◌, ℤ, pos}
use Rattle.l3_base.specs.Amp.{IsAmp}
use Rattle.l3_quant.specs.Quantiser.{is_codable}
use Rattle.l3_quant.specs.Amplified.{quantised_bands}
use Rattle.l3_huff.specs.Tables.{IsTable}
use Rattle.l3_huff.specs.declared.quads.QuadTable.{QuadTable}
use Rattle.l3_region.specs.declared.regions.Regions.{Regions}
use Rattle.l3_region.specs.declared.split.Split.{Split}
use Rattle.l3_region.specs.Regions.{regions_of}
use Rattle.l3_region.specs.Split.{split_of}

-- the count of a unit: amplification of its bands, global_gain, part2_3_length, big_values,
-- quadruples, region0_count, region1_count, table_select, count1table_select
pub record Counted : Type 0 where
  pub amp : List ℕ
  pub gain : ℕ
  pub bits : ℕ
  pub big : ℕ
  pub quads : ℕ
  pub region0 : ℕ
  pub region1 : ℕ
  pub tables : List ℕ
  pub quad : QuadTable

-- the count of 576 quantised values under an amplification at a gain, for the edges of the bands
unfoldable pub counted : List ℕ → List ℕ → ℕ → List ℤ → Counted
counted edges amp gain q =
    let split = split_of q in
    let regions = regions_of edges q in
    record {
      amp = amp;
      gain = gain;
      bits = regions.bits;
      big = split.big;
      quads = split.quads;
      region0 = regions.region0;
      region1 = regions.region1;
      tables = regions.tables;
      quad = regions.quad;
    }

-- the count of a spectrum's lines under an amplification at a gain, none where a quantised value is
-- above 8191 either way
unfoldable pub count_of : List ℕ → List ℕ → List ℤ → ℕ → Option Counted
count_of edges amp lines gain =
    let q = quantised_bands edges amp (pos gain) lines in
    if is_codable q then Some (counted edges amp gain q) else None

-- the split of a count
abbrev pub split_in : Counted → Split
split_in c = record { big = c.big; quads = c.quads }

-- the regions and tables of a count, and its bits
abbrev pub regions_in : Counted → Regions
regions_in c = record { region0 = c.region0; region1 = c.region1; tables = c.tables; quad = c.quad; bits = c.bits }

-- what holds of any count: its parts have room in their fields of the side information, but that a
-- budget limits its bits to 4095
pub record IsCounted (c : Counted) : Type 0 where
  pub amp : IsAmp c.amp
  pub gain : c.gain ≤ 255
  pub bits : c.bits ≤ 9216
  pub places : 2 * c.big + 4 * c.quads ≤ 576
  pub first : c.region0 ≤ 15
  pub second : c.region1 ≤ 7
  pub within : c.region0 + c.region1 + 2 ≤ 22
  pub three : length c.tables ≡ 3
  pub profile : (r : ℕ) → r < 3 → IsTable (slice_index c.tables r)
