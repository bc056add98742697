use Rattle.std.proofs.Common.{◌≡◌, ◌≤◌, length, take, ◌∙◌, arith}
use Rattle.std.proofs.lemmas.List.{length-take}
use Rattle.l3_board.proofs.LeastLemmas.{front_more, FindsLeast-skip, FindsLeast-keep, FindsLeast-new}
use Rattle.l3_board.proofs.least.lesser_at.Goals as goal

pub returns-in_default : goal.returns-in_default
returns-in_default g c =
    rw (front_more c.args.cells.now c.args.at c.index-cells-at.result c.requires.place c.index-cells-at.is)
    (FindsLeast-skip g.T.Numbered.number_of (take c.args.at c.args.cells.now) c.index-cells-at.result c.args.least c.in_default.not-Offered c.requires.before)

pub returns-then-other-number : goal.returns-then-other-number
returns-then-other-number g c =
    let least = rw c.in-Some.is at c.requires.before in
    let le : c.in-Some.other ≤ g.T.Numbered.number_of c.in-Offered.item = omega (arith, c.number-number.ensures) in
    rw (front_more c.args.cells.now c.args.at c.index-cells-at.result c.requires.place c.index-cells-at.is, c.in-Offered.is, c.in-Some.is)
    (FindsLeast-keep g.T.Numbered.number_of (take c.args.at c.args.cells.now) (c.in-Some.field-0-0, c.in-Some.other) c.in-Offered.item le least)

pub returns-else-other-number : goal.returns-else-other-number
returns-else-other-number g c =
    let n : length (take c.args.at c.args.cells.now) ≡ c.args.at = length-take c.args.at c.args.cells.now ∙ (let h = c.requires.place in grind arith) in
    let new = FindsLeast-new g.T.Numbered.number_of (take c.args.at c.args.cells.now) c.args.least c.in-Offered.item c.number-number.result c.number-number.ensures
    (λ found e. let same : (c.in-Some.field-0-0, c.in-Some.other) ≡ found = (let a = c.in-Some.is in cc) in rw (← same) c.if-other-number.false) c.requires.before in
    rw (front_more c.args.cells.now c.args.at c.index-cells-at.result c.requires.place c.index-cells-at.is, c.in-Offered.is) (rw n at new)

pub returns-in_default-least : goal.returns-in_default-least
returns-in_default-least g c =
    let n : length (take c.args.at c.args.cells.now) ≡ c.args.at = length-take c.args.at c.args.cells.now ∙ (let h = c.requires.place in grind arith) in
    let new = FindsLeast-new g.T.Numbered.number_of (take c.args.at c.args.cells.now) c.args.least c.in-Offered.item c.number-number.result c.number-number.ensures
    (λ found e. absurd (c.in_default-least.not-Some found e)) c.requires.before in
    rw (front_more c.args.cells.now c.args.at c.index-cells-at.result c.requires.place c.index-cells-at.is, c.in-Offered.is) (rw n at new)
