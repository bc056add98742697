use Rattle.std.proofs.Common.{rules, ◌≡◌, ◌∙◌, true, sym, ap, subst}
use Rattle.l3_base.specs.Filterbank.{window_of}
use Rattle.l3_wav.specs.Holding.{Holds}
use Rattle.l3_commit.specs.Tracks.{next_of}
use Rattle.l3_commit.specs.Standing.{CommitterView}
use Rattle.l3_commit.proofs.Kept.{below-limit, keeps-ready, not-out}
use Rattle.l3_commit.proofs.Standings.{stands-ready}
use Rattle.l3_commit.proofs.committer.Committer.prepare.Goals as goal

pub returns-clause-stands : goal.returns-clause-stands
returns-clause-stands c = λ bytes.
    let w = c.self.inside in
    let now = c.args.self.now in
    let new : CommitterView = record { track = w.track; windows = w.windows; offers = w.offers; own = c.make_fit.new.piece; is_ready = true } in
    let number : c.in-Some.number ≡ next_of now.track = search rules in
    stands-ready now new bytes (ap (λ (v : CommitterView). v.track) c.self.view_is) (ap (λ (v : CommitterView). v.windows) c.self.view_is)
    (λ left right h.
    let both = c.make_fit.ensures.of bytes left right (subst (λ (v : CommitterView). Holds v.windows bytes left right) (sym c.self.view_is) h) in
    (both.0 ∙ ap (window_of left) number, both.1 ∙ ap (window_of right) number))

pub unreachable-requires : goal.unreachable-requires
unreachable-requires c =
    below-limit 8589934592 c.next.result (next_of c.self.inside.track) (next_of c.args.self.now.track) c.in_default.ensures.none c.next.ensures.value (ap (λ (v : CommitterView). next_of v.track) c.self.view_is) c.requires.limit

pub unreachable-requires-in_default-take : goal.unreachable-requires-in_default-take
unreachable-requires-in_default-take c = not-out c.self.inside.own c.take.result c.self.invariant.there c.take.ensures.value c.in_default-take.is

pub invariant_of-self : goal.invariant_of-self
invariant_of-self c =
    let w = c.self.inside in
    keeps-ready w.settings w.track w.windows w.offers w.own w.is_ready c.in-Some.number c.make_fit.new.piece c.self.invariant c.make_fit.ensures.fit (c.in-Some.ensures.some.0 ∙ c.next.ensures.value)

pub returns-clause-same : goal.returns-clause-same
returns-clause-same c = (ap (λ (v : CommitterView). v.track) c.self.view_is, ap (λ (v : CommitterView). v.windows) c.self.view_is, ap (λ (v : CommitterView). v.offers) c.self.view_is)
