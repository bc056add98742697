use Rattle.std.proofs.Common.{rules, ◌≡◌, ◌∙◌, ◌<◌, length, true, false, refl, ap, sym, subst}
use Rattle.l3_analysis.specs.Piece.{spectrum_in}
use Rattle.l3_base.specs.declared.settings.Settings.{Settings}
use Rattle.l3_commit.specs.Encoding.{spectra_of}
use Rattle.l3_commit.specs.Lacking.{granule_lacking}
use Rattle.l3_commit.specs.Tracks.{TrackView, next_of, with_granule}
use Rattle.l3_commit.specs.Tried.{granule_tried}
use Rattle.l3_commit.specs.Standing.{CommitterView}
use Rattle.l3_commit.proofs.Kept.{below-limit, keeps-waiting, not-out}
use Rattle.l3_commit.proofs.OfPiece.{granule-lacks-all}
use Rattle.l3_commit.proofs.Progress.{tried-progress}
use Rattle.l3_commit.proofs.Standings.{stands-granule}
use Rattle.l3_commit.proofs.committer.Committer.commit_granule.Goals as goal

pub returns-clause-stands : goal.returns-clause-stands
returns-clause-stands g c = λ bytes.
    let w = c.self.inside in
    let now = c.args.self.now in
    let new : CommitterView = record { track = c.commit_granule-done.new.self; windows = w.windows; offers = w.offers; own = c.commit_granule-done.new.piece; is_ready = false } in
    let value : c.commit_granule-done.new.self ≡ with_granule now.track (spectrum_in now.own) = search rules in
    stands-granule now new bytes c.requires.ready c.requires.turn value (ap (λ (v : CommitterView). v.windows) c.self.view_is) refl (λ left right h. c.requires.below bytes left right h)

pub returns-clause-tried : goal.returns-clause-tried
returns-clause-tried g c = λ bytes st left right s.
    let now = c.args.self.now in
    let is : c.commit_granule-done.result.tried ≡ granule_tried now.track.settings now.track.frame now.track.reserve (spectrum_in now.own) = search rules in
    is ∙ tried-progress st (spectra_of left right) now.track (spectrum_in now.own) c.requires.turn (s.ready c.requires.ready) s.progress

-- the piece has no counts, so it lacks all that is tried
pub returns-clause-alone : goal.returns-clause-alone
returns-clause-alone g c = λ none.
    let now = c.args.self.now in
    let t = now.track in
    let own = c.self.invariant in
    let is = c.self.view_is in
    let ready : c.self.inside.is_ready ≡ true = ap (λ (v : CommitterView). v.is_ready) is ∙ c.requires.ready in
    let Rate : CommitterView → Type 0 = λ v. v.own.settings.sample_rate ≡ v.track.settings.sample_rate in
    let rate = subst Rate is (ap (λ (s : Settings). s.sample_rate) (own.own_settings ready ∙ sym own.settings_are)) in
    let made : c.commit_granule-done.result.made ≡ granule_lacking t.settings t.frame t.reserve now.own = search rules in
    let tried : c.commit_granule-done.result.tried ≡ granule_tried t.settings t.frame t.reserve (spectrum_in now.own) = search rules in
    made ∙ (granule-lacks-all t.settings t.frame t.reserve now.own rate none ∙ sym tried)

pub unreachable-requires : goal.unreachable-requires
unreachable-requires g c =
    below-limit 8589934592 c.next.result (next_of c.self.inside.track) (next_of c.args.self.now.track) c.in_default.ensures.none c.next.ensures.value (ap (λ (v : CommitterView). next_of v.track) c.self.view_is) c.requires.limit

pub unreachable-requires-in_default-take : goal.unreachable-requires-in_default-take
unreachable-requires-in_default-take g c = not-out c.self.inside.own c.take.result c.self.invariant.there c.take.ensures.value c.in_default-take.is

pub commit_granule-done-requires-clause-turn : goal.commit_granule-done-requires-clause-turn
commit_granule-done-requires-clause-turn g c κs within = subst (λ (v : CommitterView). length v.track.granules < 2) (sym c.self.view_is) c.requires.turn

pub invariant_of-self : goal.invariant_of-self
invariant_of-self g c =
    let w = c.self.inside in
    keeps-waiting w.settings w.track c.commit_granule-done.new.self w.windows w.offers w.offers w.own w.is_ready c.commit_granule-done.new.piece c.self.invariant
    (ap (λ (t : TrackView). t.settings) c.commit_granule-done.ensures.value) refl

pub returns-clause-few : goal.returns-clause-few
returns-clause-few g c = c.commit_granule-done.ensures.few

pub returns-clause-fewer : goal.returns-clause-fewer
returns-clause-fewer g c = c.commit_granule-done.ensures.fewer

pub returns-clause-ticks : goal.returns-clause-ticks
returns-clause-ticks g c = c.commit_granule-done.ensures.ticks

pub returns-clause-same : goal.returns-clause-same
returns-clause-same g c = (ap (λ (v : CommitterView). v.windows) c.self.view_is, ap (λ (v : CommitterView). v.offers) c.self.view_is)
