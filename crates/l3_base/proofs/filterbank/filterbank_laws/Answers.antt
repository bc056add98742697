use Rattle.l3_base.proofs.SlotLemmas.{slots_of_window, slot_is_bounded}
use Rattle.l3_base.proofs.filterbank.filterbank_laws.Goals as goal

pub returns-clause-windows : goal.returns-clause-windows
returns-clause-windows c = slots_of_window

pub returns-clause-bound : goal.returns-clause-bound
returns-clause-bound c = slot_is_bounded
