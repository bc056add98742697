use Rattle.std.proofs.Common.{◌≡◌, ◌+◌, arith}
use Rattle.l3_encoder.proofs.Refused.{refused-says, lacking-says}
use Rattle.l3_encoder.proofs.Says.{still-later}
use Rattle.l3_encoder.proofs.Turned.{IfOk-answered, file-says}
use Rattle.l3_encoder.proofs.alone.encode_alone.Goals as goal

pub returns-in-Err : goal.returns-in-Err
returns-in-Err g c =
    let says = refused-says g.S.Source.left g.S.Source.faults g.K.Sink.taken g.K.Sink.faults c.args.rate
    c.args.source.now c.open_file.new.source c.args.sink.now c.args.steps.now c.in-Err.fault c.in-Err.ensures.refused in
    record {
      explains = says.explains;
      some_frames = says.some_frames;
      left = says.leaves;
      reads = says.counts_reads;
      writes = says.counts_writes;
      later = c.open_file.ensures.later;
      later_sink = omega arith;
      ticks = tt;
      rise = says.rise;
      later_steps = omega arith;
      unstepped = says.unstepped;
    }

pub returns-in_default : goal.returns-in_default
returns-in_default g c =
    let says = lacking-says g.S.Source.left g.S.Source.faults g.K.Sink.taken g.K.Sink.faults c.args.rate
    c.args.source.now c.open_file.new.source c.args.sink.now c.args.steps.now c.in-Ok.head c.in-Ok.ensures.opened in
    record {
      explains = says.explains;
      some_frames = says.some_frames;
      left = says.leaves;
      reads = says.counts_reads;
      writes = says.counts_writes;
      later = c.open_file.ensures.later;
      later_sink = omega arith;
      ticks = tt;
      rise = says.rise;
      later_steps = omega arith;
      unstepped = says.unstepped;
    }

pub returns : goal.returns
returns g c =
    let turned = c.encode_turns.ensures in
    let says = file-says g.S.Source.left g.S.Source.faults g.K.Sink.taken g.K.Sink.faults c.args.rate c.in-Ok.head c.in-Ok-open.committer
    c.args.source.now c.open_file.new.source c.encode_turns.new.source c.args.sink.now c.encode_turns.new.sink c.args.steps.now c.encode_turns.new.steps
    c.settings_of-settings.result c.new.result c.encode_turns.result c.answer_of.result c.answer_of.ensures c.settings_of-settings.ensures c.new.ensures
    c.in-Ok-open.ensures.windows.2 c.in-Ok-open.ensures.stands c.in-Ok.ensures.opened (record {
      bytes = turned.bytes;
      frames = turned.frames;
      rest = turned.rest;
      gone = turned.gone;
      report = turned.report;
      rise = turned.rise;
      later_steps = turned.later_steps;
      cause = turned.cause;
    }) in
    record {
      explains = says.explains;
      some_frames = says.some_frames;
      left = says.leaves;
      reads = says.counts_reads;
      writes = says.counts_writes;
      later = still-later (g.S.Source.faults c.args.source.now) (g.S.Source.faults c.open_file.new.source) (g.S.Source.faults c.encode_turns.new.source) c.open_file.ensures.later turned.later.0;
      later_sink = turned.later.1;
      ticks = IfOk-answered c.encode_turns.result c.answer_of.result (λ report. (report.made ≡ report.tried) × (c.encode_turns.new.steps ≡ c.args.steps.now + report.made)) c.answer_of.ensures turned.ticks;
      rise = says.rise;
      later_steps = turned.later_steps;
      unstepped = says.unstepped;
    }
