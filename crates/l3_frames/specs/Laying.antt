-- Codes laid over the bits of the tape. Only the inside of this crate speaks of these.
use Rattle.std.specs.Prelude.{ℕ, ◌+◌, Bool, List, [], ◌∷◌, ◌++◌, length, take, drop}
use Rattle.l3_base.specs.declared.settings.Settings.{Settings}
use Rattle.l3_base.specs.declared.rate.Channels.{Channels}
use Rattle.l3_base.specs.declared.rate.Channels.TheVariants.{Mono, Stereo}
use Rattle.l3_stream.specs.declared.unit.Unit.{Unit}
use Rattle.l3_stream.specs.Units.{unit_bits}

-- these bits stand over others, from a place on
abbrev pub laid_over : ℕ → List Bool → List Bool → List Bool
laid_over at code bits = take at bits ++ (code ++ drop (at + length code) bits)

-- the codes of a granule: those of its first unit, and in stereo those of its second
abbrev pub granule_bits : Settings → Channels → List Unit → List Bool
granule_bits st Mono (a ∷ b ∷ []) = unit_bits st a
granule_bits st Stereo (a ∷ b ∷ []) = unit_bits st a ++ unit_bits st b
granule_bits st _ _ = []
