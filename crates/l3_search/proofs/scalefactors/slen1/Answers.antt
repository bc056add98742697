use Rattle.std.proofs.Common.{ap}
use Rattle.l3_search.specs.Noise.{slen1_of}
use Rattle.l3_search.proofs.scalefactors.slen1.Goals as goal

pub returns-clause-value : goal.returns-clause-value
unfolding slen1_of
returns-clause-value c = ap slen1_of c.from.ensures
