use Rattle.l3_base.proofs.Circles.{cosine72_small}
use Rattle.l3_base.proofs.Entries.{within_same}
use Rattle.l3_transform.proofs.CosineLemmas.{window_is}
use Rattle.l3_transform.proofs.cosines.window.Goals as goal

pub returns-clause-value : goal.returns-clause-value
returns-clause-value c = window_is c.args.k c.requires

pub returns-clause-bound : goal.returns-clause-bound
returns-clause-bound c = within_same 32768 _ _ (window_is c.args.k c.requires) (cosine72_small _)
