use Rattle.std.proofs.Common.{pos, get_or, refl, w32, to_z, of_z}
use Rattle.l3_base.specs.Steps.{ca_at}
use Rattle.l3_base.specs.declared.butterflies.TheConstants.{CA}
use Rattle.l3_base.proofs.Entries.{same_at}
use Rattle.l3_base.proofs.butterflies.ca.Goals as goal

pub returns-clause-value : goal.returns-clause-value
unfolding ca_at
returns-clause-value c = same_at (λ i. to_z w32 (of_z w32 (get_or CA i (pos 0)))) ca_at 8 c.args.k refl c.requires
