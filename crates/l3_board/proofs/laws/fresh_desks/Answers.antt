use Rattle.l3_board.proofs.RecordLemmas.{none-told}
use Rattle.l3_board.proofs.laws.fresh_desks.Goals as goal

pub returns : goal.returns
returns c = none-told
