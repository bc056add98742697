use Rattle.std.proofs.Common.{refl}
use Rattle.l3_wav.proofs.HoldLemmas.{open-holds}
use Rattle.l3_wav.proofs.at_hand.Windows.open.Goals as goal

pub returns-clause-holds : goal.returns-clause-holds
returns-clause-holds c = λ bytes. open-holds _ bytes refl refl refl c.in_ok-left.ensures.zeros c.in_ok-right.ensures.zeros
