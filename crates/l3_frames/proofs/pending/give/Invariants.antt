use Rattle.std.proofs.Common.{◌≡◌, ◌+◌, take}
use Rattle.l3_base.specs.Lengths.{slots_before}
use Rattle.l3_stream.specs.Tape.{joined}
use Rattle.l3_io.specs.Taken.{Takes}
use Rattle.l3_frames.proofs.pending.give.Given as goal

abbrev pub invariant-loop-k : goal.invariant-loop-k
invariant-loop-k g l = record {
  place : slots_before l.settings l.first + l.at ≡ slots_before l.settings (l.first + l.k);
  taken : Takes (g.K.Sink.taken l.fn.sink) (g.K.Sink.taken l.sink) (joined l.settings l.first (take l.k l.heads) l.tape);
  steady : g.K.Sink.faults l.sink ≡ g.K.Sink.faults l.fn.sink;
}
