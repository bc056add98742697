use Rattle.std.proofs.Common.{refl, false}
use Rattle.l3_frames.specs.Writing.{Writing}
use Rattle.l3_frames.specs.Pending.{writing_of}
use Rattle.l3_frames.proofs.GivenLemmas.{AreSettledIn, IsGiven, given_is_sound, given_is_short}
use Rattle.l3_frames.proofs.WriterLemmas.{given_ok, given_front}
use Rattle.l3_frames.proofs.pending.give_settled.Goals as goal

pub returns-clause-ok : goal.returns-clause-ok
returns-clause-ok g c =
    let taken = g.K.Sink.taken in
    let w = writing_of c.args.pending.now false in
    let settled : AreSettledIn w c.settled-settled.result.0 c.settled-settled.result.1 = rw (← c.len-count.ensures.value) c.settled-settled.ensures in
    let now : Writing = record { settings = w.settings; frames = w.frames; end = w.end; heads = c.forget.new.heads.items; slots = c.forget-2.new.self; failed = false } in
    let given : IsGiven w c.settled-settled.result.0 c.settled-settled.result.1 now = record { settings = refl; frames = refl; end = refl; heads = c.forget.ensures; slots = c.forget-2.ensures } in
    given_ok (taken c.args.sink.now) (taken c.give-result.new.sink) c.give-result.result w now c.settled-settled.result.0 c.settled-settled.result.1 c.requires.kept.sound settled given
    (rw (c.as_slice.ensures.value, c.bytes-tape.ensures.value, c.len-count.ensures.value) at c.give-result.ensures.bytes)

pub returns-clause-front : goal.returns-clause-front
returns-clause-front g c =
    let taken = g.K.Sink.taken in
    let w = writing_of c.args.pending.now false in
    let settled : AreSettledIn w c.settled-settled.result.0 c.settled-settled.result.1 = rw (← c.len-count.ensures.value) c.settled-settled.ensures in
    let now : Writing = record { settings = w.settings; frames = w.frames; end = w.end; heads = c.forget.new.heads.items; slots = c.forget-2.new.self; failed = false } in
    let given : IsGiven w c.settled-settled.result.0 c.settled-settled.result.1 now = record { settings = refl; frames = refl; end = refl; heads = c.forget.ensures; slots = c.forget-2.ensures } in
    given_front (taken c.args.sink.now) (taken c.give-result.new.sink) c.give-result.result w now c.settled-settled.result.0 c.settled-settled.result.1 c.requires.kept.sound settled given
    (rw (c.as_slice.ensures.value, c.bytes-tape.ensures.value, c.len-count.ensures.value) at c.give-result.ensures.bytes)

pub returns-clause-kept : goal.returns-clause-kept
returns-clause-kept g c =
    let w = writing_of c.args.pending.now false in
    let settled : AreSettledIn w c.settled-settled.result.0 c.settled-settled.result.1 = rw (← c.len-count.ensures.value) c.settled-settled.ensures in
    let now : Writing = record { settings = w.settings; frames = w.frames; end = w.end; heads = c.forget.new.heads.items; slots = c.forget-2.new.self; failed = false } in
    let given : IsGiven w c.settled-settled.result.0 c.settled-settled.result.1 now = record { settings = refl; frames = refl; end = refl; heads = c.forget.ensures; slots = c.forget-2.ensures } in
    record {
      sound = given_is_sound w now c.settled-settled.result.0 c.settled-settled.result.1 c.requires.kept.sound settled given;
      before = c.requires.kept.before;
      frames = c.requires.kept.frames;
    }

pub returns-clause-short : goal.returns-clause-short
returns-clause-short g c =
    let w = writing_of c.args.pending.now false in
    let settled : AreSettledIn w c.settled-settled.result.0 c.settled-settled.result.1 = rw (← c.len-count.ensures.value) c.settled-settled.ensures in
    let now : Writing = record { settings = w.settings; frames = w.frames; end = w.end; heads = c.forget.new.heads.items; slots = c.forget-2.new.self; failed = false } in
    let given : IsGiven w c.settled-settled.result.0 c.settled-settled.result.1 now = record { settings = refl; frames = refl; end = refl; heads = c.forget.ensures; slots = c.forget-2.ensures } in
    given_is_short w now c.settled-settled.result.0 c.settled-settled.result.1 c.requires.kept.sound settled given
