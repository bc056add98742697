use Rattle.std.proofs.Common.{◌≡◌, ◌+◌, ◌*◌, ◌/◌, ◌%◌, pos, [], get_or, refl, arith}
use Rattle.l3_base.specs.Window.{window_at}
use Rattle.l3_transform.specs.declared.coefficients.TheConstants.{LOW}
use Rattle.l3_base.proofs.Entries.{same_at, not_above_at}
use Rattle.std.specs.Prelude.{unsigned_abs}
use Rattle.l3_transform.specs.Pairs.{pair_entry, low_entry, high_part, reach}
use Rattle.l3_transform.proofs.coefficients.low_row.Goals as goal

pub returns-clause-value : goal.returns-clause-value
unfolding window_at pair_entry low_entry high_part
returns-clause-value c = λ n lt.
    let row : (64 * c.args.m + n) / 64 ≡ c.args.m = omega (arith, c.requires) in
    let place : (64 * c.args.m + n) % 64 ≡ n = omega (arith, c.requires) in
    let all = same_at (λ i. get_or (get_or LOW (i / 64) []) (i % 64) (pos 0)) (λ i. low_entry (i / 64) (i % 64)) 512 (64 * c.args.m + n) refl (omega arith) in
    rw (row, place) at all

pub returns-clause-bound : goal.returns-clause-bound
returns-clause-bound c = λ n lt.
    let row : (64 * c.args.m + n) / 64 ≡ c.args.m = omega (arith, c.requires) in
    let place : (64 * c.args.m + n) % 64 ≡ n = omega (arith, c.requires) in
    let all = not_above_at (λ i. unsigned_abs (get_or (get_or LOW (i / 64) []) (i % 64) (pos 0))) (λ i. reach (i / 64)) 512 (64 * c.args.m + n) refl (omega arith) in
    rw (row, place) at all
