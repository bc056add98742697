use Rattle.std.proofs.Common.{pos, get_or, refl, w64, to_z, of_z}
use Rattle.l3_base.specs.Steps.{quarter_at}
use Rattle.l3_base.specs.declared.gains.TheConstants.{QUARTER}
use Rattle.l3_base.proofs.Entries.{same_at}
use Rattle.l3_base.proofs.gains.quarter.Goals as goal

pub returns-clause-value : goal.returns-clause-value
unfolding quarter_at
returns-clause-value c = same_at (λ i. to_z w64 (of_z w64 (get_or QUARTER i (pos 0)))) quarter_at 4 c.args.r refl c.requires
