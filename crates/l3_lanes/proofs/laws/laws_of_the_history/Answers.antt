use Rattle.l3_lanes.proofs.OrderLemmas.{history_is_run, rule_has_run}
use Rattle.l3_lanes.proofs.laws.laws_of_the_history.Goals as goal

pub returns-clause-run : goal.returns-clause-run
returns-clause-run g c = history_is_run

pub returns-clause-rule : goal.returns-clause-rule
returns-clause-rule g c = rule_has_run g.T.Numbered.number_of
