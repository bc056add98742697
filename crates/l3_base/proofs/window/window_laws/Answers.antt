use Rattle.std.proofs.Common.{◌-◌, refl, arith}
use Rattle.l3_base.specs.Lists.{entry}
use Rattle.l3_base.specs.Window.{signed_at, window_at}
use Rattle.l3_base.specs.declared.window.TheConstants.{WINDOW}
use Rattle.l3_base.proofs.Entries.{same_at}
use Rattle.l3_base.proofs.window.window_laws.Goals as goal

pub returns-clause-printed : goal.returns-clause-printed
unfolding window_at
returns-clause-printed c = λ i le. same_at window_at (entry WINDOW) 257 i refl (omega arith)

pub returns-clause-mirrored : goal.returns-clause-mirrored
unfolding window_at
returns-clause-mirrored c = λ i _ lt. same_at (λ k. window_at (512 - k)) (λ k. signed_at k (window_at k)) 256 i refl lt
