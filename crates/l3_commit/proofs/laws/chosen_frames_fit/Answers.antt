use Rattle.l3_commit.proofs.Keeping.{chosen-well, chosen-follow}
use Rattle.l3_commit.proofs.Encodings.{chosen-fit}
use Rattle.l3_commit.proofs.laws.chosen_frames_fit.Goals as goal

pub returns-clause-well : goal.returns-clause-well
returns-clause-well c = chosen-well

pub returns-clause-follow : goal.returns-clause-follow
returns-clause-follow c = chosen-follow

pub returns-clause-fit : goal.returns-clause-fit
returns-clause-fit c = chosen-fit
