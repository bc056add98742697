use Rattle.std.proofs.Common.{false}
use Rattle.l3_frames.specs.Pending.{writing_of}
use Rattle.l3_frames.proofs.GivenLemmas.{finished_owes}
use Rattle.l3_frames.proofs.writer.give_all.Goals as goal

pub returns-clause-bytes : goal.returns-clause-bytes
returns-clause-bytes g c =
    rw (finished_owes (writing_of c.args.pending.now false) c.requires.sound) (rw (c.as_slice-heads.ensures.value, c.bytes.ensures.value) at c.give.ensures.bytes)
