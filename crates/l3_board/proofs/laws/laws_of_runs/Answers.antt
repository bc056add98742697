use Rattle.l3_board.proofs.RunLemmas.{replies_run, cells_stay}
use Rattle.l3_board.proofs.OutcomeLemmas.{one_outcome}
use Rattle.l3_board.proofs.BalanceLemmas.{handed_out_once, items_pass, items_stay}
use Rattle.l3_board.proofs.laws.laws_of_runs.Goals as goal

pub returns-clause-replies : goal.returns-clause-replies
returns-clause-replies g c = replies_run g.T.Numbered.number_of

pub returns-clause-answers : goal.returns-clause-answers
returns-clause-answers g c = one_outcome g.T.Numbered.number_of

pub returns-clause-cells : goal.returns-clause-cells
returns-clause-cells g c = cells_stay g.T.Numbered.number_of

pub returns-clause-once : goal.returns-clause-once
returns-clause-once g c = handed_out_once g.T.Numbered.number_of

pub returns-clause-late : goal.returns-clause-late
returns-clause-late g c = items_pass g.T.Numbered.number_of

pub returns-clause-items : goal.returns-clause-items
returns-clause-items g c = items_stay g.T.Numbered.number_of
