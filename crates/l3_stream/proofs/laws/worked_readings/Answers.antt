use Rattle.l3_stream.proofs.Readings.{of_zero_sample, of_one_pair, in_order}
use Rattle.l3_stream.proofs.laws.worked_readings.Goals as goal

pub returns-clause-zero_sample : goal.returns-clause-zero_sample
returns-clause-zero_sample c = of_zero_sample

pub returns-clause-one_pair : goal.returns-clause-one_pair
returns-clause-one_pair c = of_one_pair

pub returns-clause-order : goal.returns-clause-order
returns-clause-order c = in_order
