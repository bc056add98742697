use Rattle.std.proofs.Common.{pos, get_or, refl, w32, to_z, of_z}
use Rattle.l3_base.specs.Steps.{cs_at}
use Rattle.l3_base.specs.declared.butterflies.TheConstants.{CS}
use Rattle.l3_base.proofs.Entries.{same_at}
use Rattle.l3_base.proofs.butterflies.cs.Goals as goal

pub returns-clause-value : goal.returns-clause-value
unfolding cs_at
returns-clause-value c = same_at (λ i. to_z w32 (of_z w32 (get_or CS i (pos 0)))) cs_at 8 c.args.k refl c.requires
