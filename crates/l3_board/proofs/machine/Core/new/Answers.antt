use Rattle.std.proofs.Common.{arith}
use Rattle.l3_board.proofs.CellLemmas.{IsSound-fresh}
use Rattle.l3_board.proofs.machine.Core.new.Goals as goal

pub invariant_of-result : goal.invariant_of-result
invariant_of-result g c =
    let e = c.in_ok-cells.ensures in
    let m = c.args.blanks.ok in
    rw e (IsSound-fresh g.T.Numbered.number_of c.args.blanks.items (grind arith) (grind arith))
