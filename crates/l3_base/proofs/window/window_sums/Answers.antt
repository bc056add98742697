use Rattle.std.proofs.Common.{refl}
use Rattle.l3_base.specs.Sums.{sum_below, size_below}
use Rattle.l3_base.specs.Window.{window_at}
use Rattle.l3_base.proofs.window.window_sums.Goals as goal

pub returns-clause-printed : goal.returns-clause-printed
unfolding sum_below size_below
returns-clause-printed c = record { total_is = refl; size_is = refl; weighed_is = refl }

pub returns-clause-first_half : goal.returns-clause-first_half
unfolding size_below
returns-clause-first_half c = refl

pub returns-clause-extended : goal.returns-clause-extended
unfolding sum_below size_below window_at
returns-clause-extended c = record { total_is = refl; size_is = refl; weighed_is = refl }
