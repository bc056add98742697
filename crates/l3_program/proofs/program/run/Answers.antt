use Rattle.std.proofs.Common.{ℕ, ◌≡◌, ◌+◌, ap}
use Rattle.std.specs.Prelude.{vec_len}
use Rattle.l3_encoder.specs.Changes.{SourceChange, SinkChange, source_change, sink_change}
use Rattle.l3_program.proofs.StatusLemmas as lemmas
use Rattle.l3_program.specs.Words.{asked}
use Rattle.l3_program.proofs.program.run.Goals as goal
use Rattle.l3_program.proofs.program.run.Goals.{After-tell}
use Rattle.l3_program.proofs.program.run.Given.{Over}

-- what was done to the source and the sink, and how many steps were taken
abbrev of_source : (g : Over) (c : After-tell g) → SourceChange
of_source g c = source_change g.S.Source.left g.S.Source.faults c.args.source.now c.outcome-ending.new.source

abbrev of_sink : (g : Over) (c : After-tell g) → SinkChange
of_sink g c = sink_change g.K.Sink.taken g.K.Sink.faults c.args.sink.now c.outcome-ending.new.sink

abbrev of_notes : (g : Over) (c : After-tell g) → SinkChange
of_notes g c = sink_change g.N.Sink.taken g.N.Sink.faults c.args.notes.now c.tell.new.notes

abbrev made_so : (g : Over) (c : After-tell g) → ℕ → Type 0
made_so g c = λ made. c.outcome-ending.new.steps ≡ c.args.steps.now + made

pub returns-clause-promise : goal.returns-clause-promise
returns-clause-promise g c = rw c.tell.ensures.status (lemmas.promised (of_source g c) (of_sink g c) (made_so g c)
    (ap g.S.Source.left) (ap g.S.Source.faults) (λ same list is. rw same is) (ap g.K.Sink.faults)
    (asked (vec_len c.args.guessers) c.args.words.now) c.outcome-ending.result (of_notes g c) c.outcome-ending.ensures.ended c.tell.ensures.told)

pub returns-clause-some_frames : goal.returns-clause-some_frames
returns-clause-some_frames g c = rw c.tell.ensures.status (lemmas.frames (of_source g c) (of_sink g c) (made_so g c) _ c.outcome-ending.result c.outcome-ending.ensures.ended)

pub returns-clause-untouched : goal.returns-clause-untouched
returns-clause-untouched g c = λ not_ok not_read not_write. lemmas.untouched_else (of_source g c) (of_sink g c) (made_so g c) _ c.outcome-ending.result c.outcome-ending.ensures.ended
    (rw c.tell.ensures.status at not_ok) (rw c.tell.ensures.status at not_read) (rw c.tell.ensures.status at not_write)

pub returns-clause-left : goal.returns-clause-left
returns-clause-left g c = rw c.tell.ensures.status (lemmas.leaves (of_source g c) (of_sink g c) (made_so g c) (ap g.S.Source.left) _ c.outcome-ending.result c.outcome-ending.ensures.ended)

pub returns-clause-kept : goal.returns-clause-kept
returns-clause-kept g c = lemmas.kept (of_source g c) (of_sink g c) (made_so g c) _ c.outcome-ending.result c.outcome-ending.ensures.ended

pub returns-clause-ending : goal.returns-clause-ending
returns-clause-ending g c = record {
  ending = c.outcome-ending.result;
  status = c.tell.ensures.status;
  did = c.outcome-ending.ensures.ended;
  told = c.tell.ensures.told;
}
