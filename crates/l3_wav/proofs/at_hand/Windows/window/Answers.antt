use Rattle.std.proofs.Common.{◌≡◌, ◌∙◌, ◌-◌, rules}
use Rattle.l3_wav.specs.Windows.{window_in}
use Rattle.l3_wav.proofs.HoldLemmas.{windows-hold}
use Rattle.l3_wav.proofs.at_hand.Windows.window.Goals as goal

pub returns-clause-of : goal.returns-clause-of
returns-clause-of c = λ bytes left right holds.
    let on_left : c.fill_window.new.window ≡ window_in c.args.self.now.left (c.args.number - c.args.self.now.base) = search rules in
    let on_right : c.fill_window-2.new.window ≡ window_in c.args.self.now.right (c.args.number - c.args.self.now.base) = search rules in
    let both = windows-hold c.args.self.now bytes left right c.args.number holds c.requires.near.0 c.requires.there in
    (on_left ∙ both.0, on_right ∙ both.1)
