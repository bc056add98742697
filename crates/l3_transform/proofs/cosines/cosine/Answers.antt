use Rattle.l3_base.proofs.Entries.{within_same}
use Rattle.l3_transform.proofs.CosineLemmas.{cosine_is, folded_cosine_small}
use Rattle.l3_transform.proofs.cosines.cosine.Goals as goal

pub returns-clause-value : goal.returns-clause-value
returns-clause-value c = cosine_is c.args.m c.args.k c.requires.line c.requires.slot

pub returns-clause-bound : goal.returns-clause-bound
returns-clause-bound c = within_same 32768 _ _ (cosine_is c.args.m c.args.k c.requires.line c.requires.slot) (folded_cosine_small c.args.m c.args.k)
