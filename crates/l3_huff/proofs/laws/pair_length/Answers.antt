use Rattle.l3_huff.proofs.Lengths.{length-of_magnitudes, length-of_parts}
use Rattle.l3_huff.proofs.laws.pair_length.Goals as goal

pub returns-clause-parts : goal.returns-clause-parts
returns-clause-parts c = length-of_parts

pub returns-clause-magnitudes : goal.returns-clause-magnitudes
returns-clause-magnitudes c = length-of_magnitudes
