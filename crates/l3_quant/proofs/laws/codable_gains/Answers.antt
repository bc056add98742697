use Rattle.l3_quant.proofs.Codable.{codable_is_tested, zero_at_the_top}
use Rattle.l3_quant.proofs.BandLemmas.{codable_above, first_gain_exists, zeros_at_the_top}
use Rattle.l3_quant.proofs.laws.codable_gains.Goals as goal

pub returns-clause-tested : goal.returns-clause-tested
returns-clause-tested c = codable_is_tested

pub returns-clause-above : goal.returns-clause-above
returns-clause-above c = codable_above

pub returns-clause-top : goal.returns-clause-top
returns-clause-top c = zero_at_the_top

pub returns-clause-zeros : goal.returns-clause-zeros
returns-clause-zeros c = zeros_at_the_top

pub returns-clause-first : goal.returns-clause-first
returns-clause-first c = first_gain_exists
