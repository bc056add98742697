use Rattle.std.proofs.Common.{rules}
use Rattle.l3_encoder.specs.Changes.{source_change, sink_change}
use Rattle.l3_encoder.specs.Turned.{IsTurnedOver}
use Rattle.l3_encoder.proofs.over.encode_over.Goals as goal

-- what the second closure ensures, of the values that the caller sees
pub returns : goal.returns
returns g c =
    let over : IsTurnedOver c.args.settings c.args.committer.now c.committer-1.given.0 c.join_mut-answer.result.1
    (source_change g.S.Source.left g.S.Source.faults c.args.source.now c.source-1.given.0)
    (sink_change g.K.Sink.taken g.K.Sink.faults c.args.sink.now c.sink-1.given.0)
    c.args.steps.now c.steps-1.given.0 (g.B.Board.has_desk c.args.board.now c.desk-1.given.0) (g.B.Board.served c.desk-1.given.0)
    = rw (c.committer-1.given.1 (search rules), c.source-1.given.1 (search rules), c.sink-1.given.1 (search rules), c.steps-1.given.1 (search rules), c.desk-1.given.1 (search rules))
    c.join_mut-answer.ensures.1.met.1 in
    record {
      bytes = over.turned.bytes;
      frames = over.turned.frames;
      rest = over.turned.rest;
      gone = over.turned.gone;
      report = over.turned.report;
      ticks = over.ticks;
      rise = over.turned.rise;
      later_steps = over.turned.later_steps;
      cause = over.turned.cause;
      later = over.later;
      desk = over.desk;
      served = over.served_is;
      whole = over.whole;
    }
