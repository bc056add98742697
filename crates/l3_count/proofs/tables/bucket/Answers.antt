use Rattle.std.proofs.Common.{refl}
use Rattle.l3_count.specs.Planes.{bucket_at}
use Rattle.l3_count.proofs.Ranks.{bucket_small}
use Rattle.l3_count.proofs.tables.bucket.Goals as goal

pub returns-clause-value : goal.returns-clause-value
unfolding bucket_at
returns-clause-value c = refl

pub returns-clause-small : goal.returns-clause-small
unfolding bucket_at
returns-clause-small c = bucket_small c.args.i c.requires
