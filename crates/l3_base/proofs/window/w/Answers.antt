use Rattle.std.proofs.Common.{pos, get_or, refl, w32, to_z, of_z}
use Rattle.l3_base.specs.Window.{window_at}
use Rattle.l3_base.specs.declared.window.TheConstants.{WHOLE_WINDOW}
use Rattle.l3_base.proofs.Entries.{same_at, within_at}
use Rattle.l3_base.proofs.window.w.Goals as goal

pub returns-clause-value : goal.returns-clause-value
unfolding window_at
returns-clause-value c =
    same_at (λ i. to_z w32 (of_z w32 (get_or WHOLE_WINDOW i (pos 0)))) window_at 512 c.args.i refl c.requires

pub returns-clause-bound : goal.returns-clause-bound
returns-clause-bound c =
    within_at 75038 (λ i. to_z w32 (of_z w32 (get_or WHOLE_WINDOW i (pos 0)))) 512 c.args.i refl c.requires
