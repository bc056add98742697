-- What the reading of side information gives.
use Rattle.std.specs.Prelude.{◌≡◌, ℕ, Bool, List, slice_index}
use Rattle.l3_base.specs.declared.rate.Channels.{Channels}
use Rattle.l3_stream.specs.declared.unit.Unit.{Unit}
use Rattle.l3_stream.specs.declared.unit.ChosenFrame.{ChosenFrame}
use Rattle.l3_stream.specs.Frames.{units_of}
use Rattle.l3_stream.specs.Fields.{fields_at}
use Rattle.l3_stream.specs.Side.{front_widths}
use Rattle.l3_stream.specs.SideReading.{stripped}

-- the begin of a frame, and its units in order
abbrev pub side_in : Channels → ChosenFrame → ℕ × List Unit
side_in c f = (f.begin, units_of c f.units)

-- the unit has no quadruples, and its lines are 0
abbrev pub IsBare : Unit → Type 0
IsBare u = stripped u ≡ u

-- private_bits and scfsi are 0. Only the inside of this crate speaks of this.
pub record IsClearFront (c : Channels) (bits : List Bool) : Type 0 where
  pub private_bits : slice_index (fields_at (front_widths c) bits) 1 ≡ 0
  pub scfsi : slice_index (fields_at (front_widths c) bits) 2 ≡ 0
