use Rattle.l3_search.proofs.Fits.{pick_there, picks_at_one_gain}
use Rattle.l3_search.proofs.Lacking.{counted_lacks_none, empty_lacks_tried, lacks_at_most_tried}
use Rattle.l3_search.proofs.laws.pick_exists.Goals as goal

pub returns-clause-there : goal.returns-clause-there
returns-clause-there c = pick_there

pub returns-clause-tried : goal.returns-clause-tried
returns-clause-tried c = empty_lacks_tried

pub returns-clause-most : goal.returns-clause-most
returns-clause-most c = lacks_at_most_tried

pub returns-clause-again : goal.returns-clause-again
returns-clause-again c = counted_lacks_none

pub returns-clause-one_gain : goal.returns-clause-one_gain
returns-clause-one_gain c = picks_at_one_gain
