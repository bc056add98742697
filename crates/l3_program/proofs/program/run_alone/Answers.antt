use Rattle.std.proofs.Common.{◌∙◌, ap}
use Rattle.std.specs.Prelude.{Some}
use Rattle.l3_encoder.specs.Changes.{SourceChange, SinkChange, source_change, sink_change}
use Rattle.l3_program.proofs.StatusLemmas as lemmas
use Rattle.l3_program.specs.Program.{any_number}
use Rattle.l3_program.specs.Words.{any_guess, asked}
use Rattle.l3_program.proofs.program.run_alone.Goals as goal
use Rattle.l3_program.proofs.program.run_alone.Goals.{After-tell}
use Rattle.l3_program.proofs.program.run_alone.Given.{Over}

-- what was done to the source and the sink
abbrev of_source : (g : Over) (c : After-tell g) → SourceChange
of_source g c = source_change g.S.Source.left g.S.Source.faults c.args.source.now c.outcome_alone.new.source

abbrev of_sink : (g : Over) (c : After-tell g) → SinkChange
of_sink g c = sink_change g.K.Sink.taken g.K.Sink.faults c.args.sink.now c.outcome_alone.new.sink

abbrev of_notes : (g : Over) (c : After-tell g) → SinkChange
of_notes g c = sink_change g.N.Sink.taken g.N.Sink.faults c.args.notes.now c.tell.new.notes

pub returns-in-Some-clause-promise : goal.returns-in-Some-clause-promise
returns-in-Some-clause-promise g c = rw c.tell.ensures.status (lemmas.promised (of_source g c) (of_sink g c) any_number
    (ap g.S.Source.left) (ap g.S.Source.faults) (λ same list is. rw same is) (ap g.K.Sink.faults)
    (asked any_guess c.args.words.now) c.in-Some.ending (of_notes g c) c.in-Some.ensures.ended c.tell.ensures.told)

pub returns-in-Some-clause-some_frames : goal.returns-in-Some-clause-some_frames
returns-in-Some-clause-some_frames g c = rw c.tell.ensures.status (lemmas.frames (of_source g c) (of_sink g c) any_number _ c.in-Some.ending c.in-Some.ensures.ended)

pub returns-in-Some-clause-untouched : goal.returns-in-Some-clause-untouched
returns-in-Some-clause-untouched g c = λ not_ok not_read not_write. lemmas.untouched_else (of_source g c) (of_sink g c) any_number _ c.in-Some.ending c.in-Some.ensures.ended
    (λ is. not_ok (ap Some (c.tell.ensures.status ∙ is))) (λ is. not_read (ap Some (c.tell.ensures.status ∙ is))) (λ is. not_write (ap Some (c.tell.ensures.status ∙ is)))

pub returns-in-Some-clause-kept : goal.returns-in-Some-clause-kept
returns-in-Some-clause-kept g c = lemmas.kept (of_source g c) (of_sink g c) any_number _ c.in-Some.ending c.in-Some.ensures.ended

pub returns-in-Some-clause-ending : goal.returns-in-Some-clause-ending
returns-in-Some-clause-ending g c = record {
  ending = c.in-Some.ending;
  status = c.tell.ensures.status;
  did = c.in-Some.ensures.ended;
  told = c.tell.ensures.told;
}
