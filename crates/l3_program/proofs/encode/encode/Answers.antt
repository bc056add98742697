use Rattle.std.proofs.Common.{◌≡◌, ◌+◌}
use Rattle.l3_encoder.specs.Changes.{source_change, sink_change}
use Rattle.l3_program.proofs.EncodeLemmas.{counts_alone, ends_by}
use Rattle.l3_program.proofs.encode.encode.Goals as goal

pub returns-clause-ended : goal.returns-clause-ended
returns-clause-ended g c =
    let answer = c.encode_alone-answer in
    rw c.ending.ensures (ends_by c.args.words (source_change g.S.Source.left g.S.Source.faults c.args.source.now answer.new.source)
    (sink_change g.K.Sink.taken g.K.Sink.faults c.args.sink.now answer.new.sink) (λ made. answer.new.steps ≡ c.args.steps.now + made) answer.result
    answer.ensures.explains answer.ensures.some_frames answer.ensures.left answer.ensures.reads answer.ensures.writes
    (counts_alone c.args.words answer.result c.args.steps.now answer.new.steps answer.ensures.ticks))
