use Rattle.l3_analysis.proofs.RoundLemmas.{amps_rise_by_one, chosen_has_fewest_over, chosen_is_within, rounds_are_few, rounds_are_within}
use Rattle.l3_analysis.proofs.rounds.rounds_of_amplification.Goals as goal

pub returns-clause-few : goal.returns-clause-few
returns-clause-few c = rounds_are_few

pub returns-clause-fewest : goal.returns-clause-fewest
returns-clause-fewest c = chosen_has_fewest_over

pub returns-clause-all_within : goal.returns-clause-all_within
returns-clause-all_within c = rounds_are_within

pub returns-clause-within : goal.returns-clause-within
returns-clause-within c = chosen_is_within

pub returns-clause-amps : goal.returns-clause-amps
returns-clause-amps c = amps_rise_by_one
