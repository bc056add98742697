use Rattle.std.proofs.Common.{◌≡◌, ◌<◌, ◌≤◌, ◌+◌, ap, ◌∙◌, arith, length, take, slice_set, ◌++◌, ◌∷◌, []}
use Rattle.std.proofs.Math.ListN.{length-set}
use Rattle.l3_commit.specs.Tracks.{TrackView, next_of}
use Rattle.l3_analysis.specs.Piece.{spectrum_in}
use Rattle.l3_commit.proofs.Tracking.{taken-length, taken-more, kept-granule, reserve-small}
use Rattle.l3_commit.proofs.track.Track.commit_granule.Goals as goal

pub choose_granule-done-requires-clause-room : goal.choose_granule-done-requires-clause-room
choose_granule-done-requires-clause-room g c =
    let small = reserve-small _ c.self.invariant.2 in
    omega (arith, small)

pub invariant_of-self : goal.invariant_of-self
invariant_of-self g c =
    let inv = c.self.invariant in
    let units = c.self.inside.current.units in
    let long = taken-length c.self.inside.done units inv.1 inv.0 in
    let is = ap (λ (t : TrackView). next_of t) c.self.view_is in
    let same : length (take c.self.inside.done units) ≡ length c.args.self.now.granules = ap (λ (t : TrackView). length t.granules) c.self.view_is in
    let few : length (take c.self.inside.done units) < 2 = omega (arith, same, c.requires.turn) in
    let there : c.self.inside.done < length units = omega (arith, few, long, inv.1) in
    let number : c.self.inside.frame ≤ 4294967296 = omega (arith, is, c.requires.number) in
    let e : c.from-at.result ≡ c.self.inside.done = c.from-at.ensures in
    let made = c.choose_granule-done in
    let value : take (c.self.inside.done + 1) (slice_set units c.from-at.result made.new.units) ≡ take c.self.inside.done units ++ (made.new.units ∷ []) =
    rw e (taken-more c.self.inside.done units made.new.units there) in (
      omega arith,
      simp length-set inv.1,
      kept-granule _ (spectrum_in c.args.piece.now) made.new.reserve _ made.ensures.spectra inv.2 few number made.ensures.rest
          (value ∙ ap (λ x. take c.self.inside.done units ++ (x ∷ [])) made.ensures.value),
    )
