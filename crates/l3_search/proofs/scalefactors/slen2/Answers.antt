use Rattle.std.proofs.Common.{ap}
use Rattle.l3_search.specs.Noise.{slen2_of}
use Rattle.l3_search.proofs.scalefactors.slen2.Goals as goal

pub returns-clause-value : goal.returns-clause-value
unfolding slen2_of
returns-clause-value c = ap slen2_of c.from.ensures
