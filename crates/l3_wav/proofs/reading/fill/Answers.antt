use Rattle.std.proofs.Common.{length}
use Rattle.l3_wav.proofs.BodyLemmas.{lost_front}
use Rattle.l3_wav.proofs.reading.fill.Goals as goal

pub returns-in-Err-clause-ends : goal.returns-in-Err-clause-ends
returns-in-Err-clause-ends g c =
    let left = g.S.Source.left in
    lost_front (left c.args.source.now) (left c.read_full.new.source) (length c.read_full.new.buf) c.in-Err.ensures.some
