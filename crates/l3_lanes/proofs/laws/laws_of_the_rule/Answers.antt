use Rattle.l3_lanes.proofs.RuleLemmas.{desk_knows, cell_words, one_claim, lost_by_counts}
use Rattle.l3_lanes.proofs.laws.laws_of_the_rule.Goals as goal

pub returns-clause-desk : goal.returns-clause-desk
returns-clause-desk g c = desk_knows g.T.Numbered.number_of

pub returns-clause-words : goal.returns-clause-words
returns-clause-words g c = cell_words g.T.Numbered.number_of

pub returns-clause-claims : goal.returns-clause-claims
returns-clause-claims g c = one_claim g.T.Numbered.number_of

pub returns-clause-lost : goal.returns-clause-lost
returns-clause-lost g c = lost_by_counts
