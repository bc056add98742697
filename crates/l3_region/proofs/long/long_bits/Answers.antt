use Rattle.l3_region.proofs.Tables.{long_small, long_value}
use Rattle.l3_region.proofs.long.long_bits.Goals as goal

pub returns-clause-value : goal.returns-clause-value
returns-clause-value c = long_value c.args.place c.requires

pub returns-clause-small : goal.returns-clause-small
returns-clause-small c = long_small c.args.place c.requires
