use Rattle.l3_base.proofs.Circles.{extended64, extended72}
use Rattle.l3_base.proofs.cosines.cosine_laws.Goals as goal

pub returns-clause-extended64 : goal.returns-clause-extended64
returns-clause-extended64 c = extended64

pub returns-clause-extended72 : goal.returns-clause-extended72
returns-clause-extended72 c = extended72
