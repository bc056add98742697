use Rattle.l3_transform.proofs.Reduction.{slots_of_granule, spectrum_is_bounded}
use Rattle.l3_transform.proofs.laws.spectrum_laws.Goals as goal

pub returns-clause-slots : goal.returns-clause-slots
returns-clause-slots c = slots_of_granule

pub returns-clause-bound : goal.returns-clause-bound
returns-clause-bound c = spectrum_is_bounded
