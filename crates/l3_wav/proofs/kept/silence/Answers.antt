use Rattle.l3_wav.proofs.ReadLemmas.{zeros-only}
use Rattle.l3_wav.proofs.kept.silence.Goals as goal

pub returns-clause-zeros : goal.returns-clause-zeros
returns-clause-zeros c = zeros-only c.in_ok-kept.kept.items c.resize.new.self.items _ c.in_ok-kept.ensures.items c.in_ok-kept.ensures.len c.in_ok-resize.ensures.items
