use Rattle.std.proofs.Common.{◌≡◌, ◌+◌, ◌++◌, ◌∷◌, [], arith, ap, ◌∙◌, sym, subst, length, take, refl}
use Rattle.l3_base.specs.Lengths.{mmax_of}
use Rattle.l3_search.specs.Budget.{begin_after}
use Rattle.l3_stream.specs.declared.unit.ChosenFrame.{ChosenFrame}
use Rattle.l3_stream.specs.Tape.{CanFollow}
use Rattle.l3_commit.specs.Tracks.{TrackView, IsTrack}
use Rattle.l3_commit.proofs.Tracking.{taken-whole, follows-ended, ended-view, kept-ended}
use Rattle.l3_commit.proofs.track.Track.commit_frame.Goals as goal

pub invariant_of-self : goal.invariant_of-self
invariant_of-self c =
    let granules = ap (λ (t : TrackView). t.granules) c.self.view_is in
    let two : length (take c.self.inside.done c.self.inside.current.units) ≡ 2 = ap length granules ∙ c.requires in (
      omega arith,
      c.self.invariant.1,
      kept-ended _ c.frame_end-end.result.begin c.frame_end-end.new.self c.self.invariant.2 two c.frame_end-end.ensures.begin c.frame_end-end.ensures.rest,
    )

pub returns : goal.returns
returns c =
    let now = c.args.self.now in
    let is = c.self.view_is in
    let kept : IsTrack now = subst IsTrack is c.self.invariant.2 in
    let granules : take c.self.inside.done c.self.inside.current.units ≡ now.granules = ap (λ (t : TrackView). t.granules) is in
    let two : length (take c.self.inside.done c.self.inside.current.units) ≡ 2 = ap length granules ∙ c.requires in
    let whole : c.self.inside.current.units ≡ now.granules = sym (taken-whole c.self.inside.done c.self.inside.current.units c.self.invariant.1 two) ∙ granules in
    let begin : c.self.inside.begin ≡ now.begin = ap (λ (t : TrackView). t.begin) is in
    let inside_frame : ChosenFrame = record { begin = c.self.inside.begin; units = c.self.inside.current.units } in
    let now_frame : ChosenFrame = record { begin = now.begin; units = now.granules } in
    let frame : inside_frame ≡ now_frame = cc in (
      (refl, λ _. tt, ended-view _ now c.frame_end-end.result.begin c.frame_end-end.new.self [] is c.frame_end-end.ensures.begin c.frame_end-end.ensures.rest refl),
      record {
        frame = frame;
        follows = λ fs before.
            let P : ChosenFrame → Type 0 = λ f. CanFollow now.settings (now.frame + 1) (begin_after now.reserve (mmax_of now.settings)) (fs ++ (f ∷ [])) in
            subst P (sym frame) (follows-ended now kept c.requires fs before);
        after_borrow = tt;
      },
    )
