use Rattle.l3_commit.proofs.CodedPicks.{units_are_coded}
use Rattle.l3_commit.proofs.unit.chosen_units_are_coded.Goals as goal

pub returns : goal.returns
returns c = units_are_coded
