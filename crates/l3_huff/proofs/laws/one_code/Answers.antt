use Rattle.l3_huff.proofs.PairLaws.{one_pair_code}
use Rattle.l3_huff.proofs.QuadLaws.{one_quad_code}
use Rattle.l3_huff.proofs.laws.one_code.Goals as goal

pub returns-clause-pairs : goal.returns-clause-pairs
returns-clause-pairs c = one_pair_code

pub returns-clause-quads : goal.returns-clause-quads
returns-clause-quads c = one_quad_code
