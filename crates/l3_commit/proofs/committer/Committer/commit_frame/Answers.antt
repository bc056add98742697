use Rattle.std.proofs.Common.{◌+◌, ◌++◌, ◌∷◌, [], ℕ, List, ap, sym, subst, ◌∙◌, refl}
use Rattle.l3_base.specs.Lengths.{mmax_of}
use Rattle.l3_search.specs.Budget.{begin_after}
use Rattle.l3_stream.specs.declared.unit.ChosenFrame.{ChosenFrame}
use Rattle.l3_stream.specs.Tape.{CanFollow}
use Rattle.l3_commit.specs.Standing.{CommitterView, StillStands, with_ended}
use Rattle.l3_commit.proofs.Standings.{stands-frame, frame-view, chosen-frame}
use Rattle.l3_commit.proofs.committer.Committer.commit_frame.Goals as goal

pub returns : goal.returns
returns c =
    let now = c.args.self.now in
    let e = c.commit_frame.ensures in
    let lent : CommitterView → ChosenFrame = λ v. record { begin = v.track.begin; units = v.track.granules } in
    let f = c.commit_frame.result.now in
    let is = c.self.view_is in
    let made = frame-view _ now c.commit_frame.follows.lender-at-none is c.commit_frame.follows.holds-at-none in
    let P : CommitterView → Type 0 = λ v. (bytes : List ℕ) → StillStands now v bytes bytes in
    let Q : CommitterView → Type 0 =
    λ v. (fs : List ChosenFrame) → CanFollow v.track.settings v.track.frame v.track.begin fs
    → CanFollow v.track.settings (v.track.frame + 1) (begin_after v.track.reserve (mmax_of v.track.settings)) (fs ++ (f ∷ [])) in (
      (refl, λ _. tt, (made, subst P (sym made) (λ bytes. stands-frame now (with_ended now) bytes c.requires.turn refl refl c.requires.ready))),
      record {
        chosen = λ bytes st left right s. e.frame ∙ (ap lent is ∙ chosen-frame now bytes st left right c.requires.turn s);
        follows = subst Q is e.follows;
        after_borrow = tt;
      },
    )
