use Rattle.l3_commit.proofs.Encodings.{chosen-alone}
use Rattle.l3_commit.proofs.laws.chosen_frames_are_alone.Goals as goal

pub returns : goal.returns
returns c = chosen-alone
