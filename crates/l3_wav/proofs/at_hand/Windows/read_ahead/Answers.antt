use Rattle.std.proofs.Common.{◌≡◌, ◌∙◌, ◌<◌, true, inl, inr, ap, sym, subst, arith}
use Rattle.l3_wav.specs.Samples.{SamplesState}
use Rattle.l3_wav.specs.Holding.{WindowsView}
use Rattle.l3_wav.specs.ReadingOn.{AreGone}
use Rattle.l3_wav.proofs.HoldLemmas.{goes-twice, goes-still}
use Rattle.l3_wav.proofs.at_hand.Windows.read_ahead.Goals as goal

pub returns-then-self-base-clause-content : goal.returns-then-self-base-clause-content
returns-then-self-base-clause-content g c =
    let left = g.S.Source.left in
    goes-twice c.args.self.now c.read_to-2.new.self c.advance.new.self (left c.args.source.now) (left c.read_to-2.new.source) (left c.read_to-2.new.source) c.in-Ok.ensures.content
    (goes-still c.read_to-2.new.self c.advance.new.self (left c.read_to-2.new.source) c.advance.ensures.holds c.advance.ensures.same.4)

pub advance-requires : goal.advance-requires
advance-requires g c =
    let less : c.read_to-2.new.self.base < c.args.base = subst (λ (v : WindowsView). v.base < c.args.base) c.self.view_is c.if-self-base.true in
    record {
      there = elim c.in-Ok.ensures.at_hand [ inl over ↦ inl over | inr there ↦ inr (omega (arith, less, there)) ];
      limit = omega (arith, less, c.requires.limit);
    }

pub returns-then-self-base-clause-base : goal.returns-then-self-base-clause-base
returns-then-self-base-clause-base g c =
    let less : c.read_to-2.new.self.base < c.args.base = subst (λ (v : WindowsView). v.base < c.args.base) c.self.view_is c.if-self-base.true in
    elim c.requires.turn [
      | inl same ↦ absurd (omega (arith, less, same, c.in-Ok.ensures.same.2))
      | inr next ↦ omega (arith, next, c.advance.ensures.base, c.in-Ok.ensures.same.2)
    ]

pub returns-then-self-base-clause-same : goal.returns-then-self-base-clause-same
returns-then-self-base-clause-same g c =
    (c.advance.ensures.same.0 ∙ c.in-Ok.ensures.same.0, c.advance.ensures.same.1 ∙ c.in-Ok.ensures.same.1)

pub returns-then-self-base-clause-at_hand : goal.returns-then-self-base-clause-at_hand
returns-then-self-base-clause-at_hand g c =
    let ahead = ap (λ (v : WindowsView). v.ahead) c.read_to.view_is in
    elim c.in-Ok.ensures.at_hand [
      | inl over ↦ inl (c.advance.ensures.same.3 ∙ over)
      | inr there ↦ inr (omega (arith, ahead, there, c.advance.ensures.same.2))
    ]

pub returns-then-self-base-clause-few : goal.returns-then-self-base-clause-few
returns-then-self-base-clause-few g c =
    let ahead = ap (λ (v : WindowsView). v.ahead) c.read_to.view_is in
    omega (arith, ahead, c.in-Ok.ensures.few, c.advance.ensures.same.2)

pub returns-then-self-base-clause-grows : goal.returns-then-self-base-clause-grows
returns-then-self-base-clause-grows g c =
    omega (arith, c.in-Ok.ensures.grows, c.advance.ensures.same.2)

pub returns-then-self-base-clause-gone : goal.returns-then-self-base-clause-gone
returns-then-self-base-clause-gone g c =
    let left = g.S.Source.left in
    subst (λ (s : SamplesState). AreGone c.args.self.now.samples.remaining s.remaining (left c.args.source.now) (left c.read_to-2.new.source)) (sym c.advance.ensures.same.4) c.in-Ok.ensures.gone

pub returns-then-self-base-clause-short : goal.returns-then-self-base-clause-short
returns-then-self-base-clause-short g c =
    let ahead = ap (λ (v : WindowsView). v.ahead) c.read_to.view_is in
    λ was over. omega (arith, ahead, c.advance.ensures.same.2, c.in-Ok.ensures.short was (sym c.advance.ensures.same.3 ∙ over))

pub returns-then-self-base-clause-done : goal.returns-then-self-base-clause-done
returns-then-self-base-clause-done g c =
    λ over. ap (λ (s : SamplesState). s.remaining) c.advance.ensures.same.4
    ∙ subst (λ (v : WindowsView). v.ended ≡ true → v.samples.remaining ≡ 0) c.self.view_is c.self.invariant.done (sym c.advance.ensures.same.3 ∙ over)

pub returns-then-self-base-clause-idle : goal.returns-then-self-base-clause-idle
returns-then-self-base-clause-idle g c =
    let ahead = ap (λ (v : WindowsView). v.ahead) c.read_to.view_is in
    λ enough.
    let kept = c.in-Ok.ensures.idle (elim enough [ inl over ↦ inl over | inr there ↦ inr (omega (arith, ahead, there)) ]) in
    let same = c.advance.ensures.same in
    (kept.0, kept.2, same.3 ∙ ap (λ (v : WindowsView). v.ended) kept.1, same.2 ∙ ap (λ (v : WindowsView). v.read) kept.1, same.4 ∙ ap (λ (v : WindowsView). v.samples) kept.1)

pub returns-then-self-base-clause-sound : goal.returns-then-self-base-clause-sound
returns-then-self-base-clause-sound g c =
    ap (λ (s : SamplesState). s.failed) c.advance.ensures.same.4 ∙ c.in-Ok.ensures.sound

pub returns-then-self-base-clause-cause : goal.returns-then-self-base-clause-cause
returns-then-self-base-clause-cause g c =
    record { later = c.in-Ok.ensures.cause.later; failed = tt; served = c.in-Ok.ensures.cause.served }
