use Rattle.std.proofs.Common.{refl, pos, lit<}
use Rattle.std.proofs.lemmas.List.Elements.{All-replicate}
use Rattle.l3_base.specs.Spectrum.{IsLine}
use Rattle.l3_base.proofs.spectrum.Spectrum.zero.Goals as goal

pub invariant_of-result : goal.invariant_of-result
invariant_of-result c = record { long = refl; small = All-replicate IsLine 576 (pos 0) (lit< tt) }
