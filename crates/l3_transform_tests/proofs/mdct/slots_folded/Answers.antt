use Rattle.std.proofs.Common.{◌≤◌, pos, get_or, refl, arith}
use Rattle.std.specs.Prelude.{unsigned_abs}
use Rattle.l3_base.proofs.Entries.{within_at}
use Rattle.l3_transform_tests.specs.declared.mdct.TheConstants.{SQUARES}
use Rattle.l3_transform_tests.proofs.mdct.slots_folded.Goals as goal

pub fold36-requires : goal.fold36-requires
fold36-requires g c = λ k lt.
    let small : unsigned_abs (get_or SQUARES k (pos 0)) ≤ 1296 = within_at 1296 (λ i. get_or SQUARES i (pos 0)) 36 k refl lt in
    omega (arith, small)
