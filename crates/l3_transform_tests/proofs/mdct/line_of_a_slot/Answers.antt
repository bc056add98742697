use Rattle.std.proofs.Common.{pos, replicate, lit≤}
use Rattle.std.proofs.lemmas.List.Elements.{All-replicate, All-set}
use Rattle.std.specs.Prelude.{All}
use Rattle.l3_base.specs.Sums.{IsWithin}
use Rattle.l3_transform_tests.proofs.mdct.line_of_a_slot.Goals as goal

pub spectrum-requires : goal.spectrum-requires
spectrum-requires g c =
    let band : All (IsWithin 44598016) (replicate 36 (pos 0)) = All-replicate (IsWithin 44598016) 36 (pos 0) (lit≤ tt) in
    rw (c.set.ensures, c.zero-slots.ensures)
    (All-set (All (IsWithin 44598016)) (replicate 32 (replicate 36 (pos 0))) 0 _ (All-set (IsWithin 44598016) (replicate 36 (pos 0)) 17 (pos 1048576) (lit≤ tt) band) (All-replicate (All (IsWithin 44598016)) 32 (replicate 36 (pos 0)) band))
