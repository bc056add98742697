use Rattle.std.proofs.Common.{◌≡◌, ◌+◌, ◌*◌, ◌≤◌, ◌<◌, ◌⊎◌, true, drop, sym, subst}
use Rattle.l3_wav.specs.Holding.{WindowsView, Holds}
use Rattle.l3_wav.proofs.HoldLemmas.{sound-next, next-holds-all}
use Rattle.l3_wav.proofs.at_hand.Windows.advance.Goals as goal

pub invariant_of-self : goal.invariant_of-self
invariant_of-self c =
    let there = subst (λ (v : WindowsView). (v.ended ≡ true) ⊎ (576 * (v.base + 1) ≤ v.read)) (sym c.self.view_is) c.requires.there in
    let limit = subst (λ (v : WindowsView). v.base < 8589934592) (sym c.self.view_is) c.requires.limit in
    let now = c.forget-self-inside in
    let k = 576 * now.result in
    sound-next _ (drop k now.new.left.items) (drop k now.new.right.items) _ now.result _ _ _ _ now.ensures.left now.ensures.right now.ensures.few now.ensures.left_capacity now.ensures.right_capacity there limit c.self.invariant

pub returns-clause-holds : goal.returns-clause-holds
returns-clause-holds c = λ bytes left right holds.
    let before = subst (λ (v : WindowsView). Holds v bytes left right) (sym c.self.view_is) holds in
    let now = c.forget-self-inside in
    let k = 576 * now.result in
    next-holds-all _ (drop k now.new.left.items) (drop k now.new.right.items) bytes left right now.ensures.left now.ensures.right before
