use Rattle.std.proofs.Common.{◌≡◌, ◌+◌, ◌∙◌, length, arith}
use Rattle.l3_lanes.proofs.WholeLemmas.{opens_whole}
use Rattle.l3_lanes.proofs.opening.empty_lanes.Goals as goal

pub new-requires : goal.new-requires
new-requires g c =
    let many : length c.args.blanks.items ≡ c.len-cells.result = let ok = c.args.blanks.ok in let is = c.len-cells.ensures in grind arith in
    opens_whole g.T.Numbered.number_of c.len-cells.result (c.len-cells.result + 2) c.args.blanks.items c.in_ok-slots.slots.items c.as_slice.result.now many (omega arith) c.in_ok-slots.ensures (c.as_slice.ensures.value ∙ c.in_ok-words.ensures)
