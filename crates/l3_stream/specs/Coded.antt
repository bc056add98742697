-- Steps of telling whether a frame is coded.
use Rattle.std.specs.Prelude.{◌≡◌, List, [], ◌∷◌, length, slice_index}
use Rattle.l3_base.specs.declared.settings.Settings.{Settings}
use Rattle.l3_base.specs.declared.rate.Channels.{Channels}
use Rattle.l3_base.specs.declared.rate.Channels.TheVariants.{Mono, Stereo}
use Rattle.l3_huff.specs.declared.quads.QuadTable.TheVariants.{A}
use Rattle.l3_stream.specs.declared.unit.Unit.{Unit}
use Rattle.l3_stream.specs.Units.{IsCodedUnit}
use Rattle.l3_stream.specs.Frames.{blank}

-- two units, the first coded, and the second blank in mono and else coded
abbrev pub IsCodedGranule : Settings → Channels → List Unit → Type 0
IsCodedGranule st Mono (a ∷ b ∷ []) = IsCodedUnit st a × (b ≡ blank)
IsCodedGranule st Stereo (a ∷ b ∷ []) = IsCodedUnit st a × IsCodedUnit st b
IsCodedGranule st c _ = ⊥

-- all fields are 0, but for the lines. Only the inside of this crate speaks of this.
pub record HasZeroFields (u : Unit) : Type 0 where
  pub size : u.length ≡ 0
  pub big : u.big ≡ 0
  pub quads : u.quads ≡ 0
  pub gain : u.gain ≡ 0
  pub region0 : u.region0 ≡ 0
  pub region1 : u.region1 ≡ 0
  pub three : length u.tables ≡ 3
  pub table0 : slice_index u.tables 0 ≡ 0
  pub table1 : slice_index u.tables 1 ≡ 0
  pub table2 : slice_index u.tables 2 ≡ 0
  pub quad : u.quad ≡ A
