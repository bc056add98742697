use Rattle.std.proofs.Common.{◌≤◌, pos, get_or, refl, arith}
use Rattle.std.specs.Prelude.{unsigned_abs}
use Rattle.l3_base.proofs.Entries.{within_at}
use Rattle.l3_transform_tests.specs.declared.polyphase.TheConstants.{COLUMNS}
use Rattle.l3_transform_tests.proofs.polyphase.columns_folded.Goals as goal

pub fold64-requires : goal.fold64-requires
fold64-requires g c = λ k lt.
    let small : unsigned_abs (get_or COLUMNS k (pos 0)) ≤ 4032 = within_at 4032 (λ i. get_or COLUMNS i (pos 0)) 64 k refl lt in
    omega (arith, small)
