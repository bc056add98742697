use Rattle.l3_count.proofs.Counts.{at_one_gain, from_the_first_gain, is_there, the_fewest, what_is_taken}
use Rattle.l3_count.proofs.Tops.{empty_at_the_top}
use Rattle.l3_count.proofs.laws.counts_are_least.Goals as goal

pub returns-clause-codable : goal.returns-clause-codable
returns-clause-codable c = is_there

pub returns-clause-first : goal.returns-clause-first
returns-clause-first c = from_the_first_gain

pub returns-clause-top : goal.returns-clause-top
returns-clause-top c = empty_at_the_top

pub returns-clause-taken : goal.returns-clause-taken
returns-clause-taken c = what_is_taken

pub returns-clause-fewest : goal.returns-clause-fewest
returns-clause-fewest c = the_fewest

pub returns-clause-one_gain : goal.returns-clause-one_gain
returns-clause-one_gain c = at_one_gain
