use Rattle.std.proofs.Common.{ℕ, ◌≡◌, ◌<◌, ◌≤◌, ◌+◌, subst}
use Rattle.l3_count.specs.Classes.{class_cut_at}
use Rattle.l3_count.proofs.Classes.{class_row}
use Rattle.l3_count.proofs.Lines.{steps_count}
use Rattle.l3_count.proofs.bands.cuts.Goals as goal

pub returns-clause-value : goal.returns-clause-value
returns-clause-value c =
    let m = c.args.mantissa in
    let a = c.one_cut-first.result in
    let b = c.one_cut-second.result in
    let d = c.one_cut-third.result in
    let s = c.one_cut.result in
    let order = class_row c.args.class c.requires in
    steps_count (class_cut_at c.args.class) m a b d s order.first order.second order.third
    (subst (λ (z : ℕ). z ≤ m → a ≡ 0 + 1) c.class_cut.ensures c.one_cut-first.ensures.more)
    (subst (λ (z : ℕ). m < z → a ≡ 0) c.class_cut.ensures c.one_cut-first.ensures.same)
    (subst (λ (z : ℕ). z ≤ m → b ≡ a + 1) c.class_cut-2.ensures c.one_cut-second.ensures.more)
    (subst (λ (z : ℕ). m < z → b ≡ a) c.class_cut-2.ensures c.one_cut-second.ensures.same)
    (subst (λ (z : ℕ). z ≤ m → d ≡ b + 1) c.class_cut-3.ensures c.one_cut-third.ensures.more)
    (subst (λ (z : ℕ). m < z → d ≡ b) c.class_cut-3.ensures c.one_cut-third.ensures.same)
    (subst (λ (z : ℕ). z ≤ m → s ≡ d + 1) c.class_cut-4.ensures c.one_cut.ensures.more)
    (subst (λ (z : ℕ). m < z → s ≡ d) c.class_cut-4.ensures c.one_cut.ensures.same)
