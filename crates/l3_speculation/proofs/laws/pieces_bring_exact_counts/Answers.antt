use Rattle.l3_speculation.proofs.Brought.{brings_exact, brings_sound, brings_spared}
use Rattle.l3_speculation.proofs.laws.pieces_bring_exact_counts.Goals as goal

pub returns-clause-sound : goal.returns-clause-sound
returns-clause-sound c = brings_sound

pub returns-clause-exact : goal.returns-clause-exact
returns-clause-exact c = brings_exact

pub returns-clause-spared : goal.returns-clause-spared
returns-clause-spared c = brings_spared
