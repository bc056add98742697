use Rattle.std.proofs.Common.{ℕ, ◌≡◌, ◌↔◌, ◌<◌, ◌≤◌, ◌+◌, arith, subst}
use Rattle.l3_count.specs.Planes.{place_at}
use Rattle.l3_count.proofs.Constants.{steps_are}
use Rattle.l3_count.proofs.Lines.{steps_count, step_at, steps_none}
use Rattle.l3_count.proofs.line.steps.Goals as goal

counted : (c : goal.After-one_more) → (j : ℕ) → j < 4 → (j < c.one_more.result) ↔ (place_at c.args.k j ≤ c.args.rank)
counted c =
    let k = c.args.k in
    let rank = c.args.rank in
    let a = c.one_more-first.result in
    let b = c.one_more-second.result in
    let d = c.one_more-third.result in
    let s = c.one_more.result in
    let order = steps_are k c.requires in
    steps_count (place_at k) rank a b d s order.first order.second order.third
    (subst (λ (z : ℕ). z ≤ rank → a ≡ 0 + 1) c.place.ensures c.one_more-first.ensures.more)
    (subst (λ (z : ℕ). rank < z → a ≡ 0) c.place.ensures c.one_more-first.ensures.same)
    (subst (λ (z : ℕ). z ≤ rank → b ≡ a + 1) c.place-2.ensures c.one_more-second.ensures.more)
    (subst (λ (z : ℕ). rank < z → b ≡ a) c.place-2.ensures c.one_more-second.ensures.same)
    (subst (λ (z : ℕ). z ≤ rank → d ≡ b + 1) c.place-3.ensures c.one_more-third.ensures.more)
    (subst (λ (z : ℕ). rank < z → d ≡ b) c.place-3.ensures c.one_more-third.ensures.same)
    (subst (λ (z : ℕ). z ≤ rank → s ≡ d + 1) c.place-4.ensures c.one_more.ensures.more)
    (subst (λ (z : ℕ). rank < z → s ≡ d) c.place-4.ensures c.one_more.ensures.same)

pub returns-clause-value : goal.returns-clause-value
returns-clause-value c m is j lt = step_at c.args.k m c.args.rank c.one_more.result j c.requires lt is (counted c j lt)

pub returns-clause-none : goal.returns-clause-none
returns-clause-none c none = steps_none c.args.k c.args.rank c.one_more.result c.requires none (counted c 0 (omega arith))
