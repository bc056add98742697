use Rattle.std.proofs.Common.{rules, FitsSigned, w64}
use Rattle.std.proofs.lemmas.Int.{to_z-of_z}
use Rattle.l3_transform.proofs.RoundingLemmas.{rounded}
use Rattle.l3_transform.proofs.subbands.rounded.Goals as goal

pub returns : goal.returns
returns c = let fits : FitsSigned w64 c.args.sum = search rules in rw (to_z-of_z w64 c.args.sum fits) (rounded c.args.sum c.requires)
