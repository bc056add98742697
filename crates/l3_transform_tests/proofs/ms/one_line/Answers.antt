use Rattle.std.proofs.Common.{rules, FitsSigned, w32, to_z, of_z, ◌^◌, arith, pos, replicate, subst, sym}
use Rattle.std.proofs.lemmas.Int.{to_z-of_z}
use Rattle.std.proofs.lemmas.List.Elements.{All-replicate, All-same, All-set}
use Rattle.l3_base.specs.Sums.{IsWithin}
use Rattle.l3_transform_tests.proofs.ms.one_line.Goals as goal

pub returns : goal.returns
returns c =
    let P = IsWithin (2 ^ 28) in
    let fits : FitsSigned w32 c.args.x = search rules in
    let here : P (to_z w32 (of_z w32 c.args.x)) = subst P (sym (to_z-of_z w32 c.args.x fits)) c.requires in
    let zeros = All-same P c.zero-spec.result (replicate 576 (pos 0)) c.zero-spec.ensures (All-replicate P 576 (pos 0) (omega arith)) in
    All-same P c.set.new.self _ c.set.ensures (All-set P c.zero-spec.result 0 (to_z w32 (of_z w32 c.args.x)) here zeros)
