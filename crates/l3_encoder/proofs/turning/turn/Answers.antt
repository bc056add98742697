use Rattle.std.proofs.Common.{rules, arith, ◌≡◌, ap, length}
use Rattle.std.proofs.lemmas.Grind.{common_steps}
use Rattle.l3_analysis.specs.Piece.{spectrum_in}
use Rattle.l3_commit.specs.Standing.{CommitterView}
use Rattle.l3_encoder.proofs.Pushed.{turns-first, turns-second, breaks-second, behind-granule, fits-next, not-true}
use Rattle.l3_encoder.proofs.turning.turn.Goals as goal

pub returns-then-get-eq0-clause-turns : goal.returns-then-get-eq0-clause-turns
returns-then-get-eq0-clause-turns g c =
    let done = c.commit_granule-done in
    turns-first c.args.committer.now done.new.self (spectrum_in c.args.committer.now.own) c.args.writer.now (g.K.Sink.taken c.args.sink.now) done.ensures.value done.ensures.stands

pub push-requires-clause-fits : goal.push-requires-clause-fits
push-requires-clause-fits g c κs within =
    let done = c.commit_granule-done in
    let fs = c.requires.behind.0 in
    let here =
    behind-granule c.args.committer.now.track done.new.self.track (spectrum_in c.args.committer.now.own) fs c.args.writer.now done.ensures.value c.requires.behind.1 in
    fits-next done.new.self.track fs c.args.writer.now c.commit_frame.result.now here (c.commit_frame.ensures.follows fs here.follow).fit

pub returns-in-Ok-clause-turns : goal.returns-in-Ok-clause-turns
returns-in-Ok-clause-turns g c =
    let done = c.commit_granule-done in
    let pushed = c.in-Ok.ensures in
    turns-second c.args.committer.now done.new.self (spectrum_in c.args.committer.now.own) c.args.writer.now c.push.new.self c.commit_frame.result.now (g.K.Sink.taken c.args.sink.now) (g.K.Sink.taken c.push.new.sink)
    done.ensures.value done.ensures.stands c.commit_frame.ensures.follows c.commit_frame.ensures.chosen
    c.commit_frame.follows.lender-at-none (ap (λ (v : CommitterView). v.track) c.commit_frame.follows.holds-at-none.0) c.commit_frame.follows.holds-at-none.1
    c.push.ensures.settings c.push.ensures.frames c.push.ensures.end (not-true c.push.new.self.failed pushed.failed.1) pushed.ok

pub returns-in-Err-clause-breaks : goal.returns-in-Err-clause-breaks
returns-in-Err-clause-breaks g c =
    let done = c.commit_granule-done in
    let two : length done.new.self.track.granules ≡ 2 = first_of (search rules, grind (arith, common_steps)) in
    breaks-second c.args.committer.now done.new.self (spectrum_in c.args.committer.now.own) c.args.writer.now c.push.new.self c.commit_frame.result.now (g.K.Sink.taken c.args.sink.now) (g.K.Sink.taken c.push.new.sink)
    done.ensures.value done.ensures.stands c.commit_frame.ensures.follows c.commit_frame.ensures.chosen two c.in-Err.ensures.front
