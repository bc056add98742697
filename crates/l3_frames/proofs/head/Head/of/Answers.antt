use Rattle.std.proofs.Common.{refl}
use Rattle.l3_stream.specs.Tape.{head_of}
use Rattle.l3_frames.proofs.head.Head.of.Goals as goal

pub returns : goal.returns
unfolding head_of
returns c = rw (c.joined.ensures, c.write_header.ensures, c.write_side-size.ensures.bits) refl
