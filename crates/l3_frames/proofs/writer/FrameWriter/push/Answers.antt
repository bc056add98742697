use Rattle.std.proofs.Common.{◌≡◌, false, ap, sym, subst, ◌∙◌, arith}
use Rattle.std.specs.Prelude.{OnOk, OnErr}
use Rattle.l3_stream.specs.Tape.{FitsAt}
use Rattle.l3_frames.specs.Writing.{Writing, GivesFirst, GivesFront}
use Rattle.l3_frames.specs.Pending.{writing_of}
use Rattle.l3_frames.proofs.NotedLemmas.{noted_is_sound}
use Rattle.l3_frames.proofs.WriterLemmas.{pushed_ok, pushed_front}
use Rattle.l3_frames.proofs.writer.FrameWriter.push.Goals as goal

pub give_settled-result-requires-clause-kept : goal.give_settled-result-requires-clause-kept
give_settled-result-requires-clause-kept g c κs within =
    let w = writing_of c.self.inside.pending false in
    let fits = subst (λ (v : Writing). FitsAt v.settings v.frames v.end c.args.frame.now) (sym c.self.view_is) c.requires.fits in
    let frames = ap (λ (v : Writing). v.frames) c.self.view_is in
    let noted = c.note.ensures.noted in
    record {
      sound = noted_is_sound w (writing_of c.note.new.pending false) c.args.frame.now c.self.invariant.0.sound fits noted;
      before = c.note.ensures.before;
      frames = omega (arith, frames, c.requires.count, noted.frames);
    }

pub returns-clause-ok : goal.returns-clause-ok
returns-clause-ok g c =
    let taken = g.K.Sink.taken in
    let w = writing_of c.self.inside.pending false in
    let f = c.args.frame.now in
    let fits = subst (λ (v : Writing). FitsAt v.settings v.frames v.end f) (sym c.self.view_is) c.requires.fits in
    let is_open : c.self.inside.failed ≡ false = ap (λ (v : Writing). v.failed) c.self.view_is ∙ c.requires.open in
    let same : w ≡ c.args.self.now = ap (λ b. writing_of c.self.inside.pending b) (sym is_open) ∙ c.self.view_is in
    let after = writing_of c.give_settled-result.new.pending false in
    let gives = pushed_ok (taken c.args.sink.now) (taken c.give_settled-result.new.sink) c.give_settled-result.result w (writing_of c.note.new.pending false) after f
    c.self.invariant.0.sound fits c.note.ensures.noted c.give_settled-result.ensures.ok in
    subst (λ (v : Writing). OnOk c.give_settled-result.result (GivesFirst (taken c.args.sink.now) (taken c.give_settled-result.new.sink) v after f)) same gives

pub returns-clause-front : goal.returns-clause-front
returns-clause-front g c =
    let taken = g.K.Sink.taken in
    let w = writing_of c.self.inside.pending false in
    let f = c.args.frame.now in
    let fits = subst (λ (v : Writing). FitsAt v.settings v.frames v.end f) (sym c.self.view_is) c.requires.fits in
    let is_open : c.self.inside.failed ≡ false = ap (λ (v : Writing). v.failed) c.self.view_is ∙ c.requires.open in
    let same : w ≡ c.args.self.now = ap (λ b. writing_of c.self.inside.pending b) (sym is_open) ∙ c.self.view_is in
    let gives = pushed_front (taken c.args.sink.now) (taken c.give_settled-result.new.sink) c.give_settled-result.result w (writing_of c.note.new.pending false) f
    c.self.invariant.0.sound fits c.note.ensures.noted c.give_settled-result.ensures.front in
    subst (λ (v : Writing). OnErr c.give_settled-result.result (GivesFront (taken c.args.sink.now) (taken c.give_settled-result.new.sink) v f)) same gives
