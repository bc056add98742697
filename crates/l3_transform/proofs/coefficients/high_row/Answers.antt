use Rattle.std.proofs.Common.{◌≡◌, ◌+◌, ◌*◌, ◌/◌, ◌%◌, pos, [], get_or, refl, arith}
use Rattle.l3_base.specs.Window.{window_at}
use Rattle.l3_transform.specs.declared.coefficients.TheConstants.{HIGH}
use Rattle.l3_base.proofs.Entries.{same_at, within_at}
use Rattle.l3_transform.specs.Pairs.{pair_entry, high_part}
use Rattle.l3_transform.proofs.coefficients.high_row.Goals as goal

pub returns-clause-value : goal.returns-clause-value
unfolding window_at pair_entry high_part
returns-clause-value c = λ n lt.
    let row : (64 * c.args.m + n) / 64 ≡ c.args.m = omega (arith, c.requires) in
    let place : (64 * c.args.m + n) % 64 ≡ n = omega (arith, c.requires) in
    let all = same_at (λ i. get_or (get_or HIGH (i / 64) []) (i % 64) (pos 0)) (λ i. high_part (pair_entry (3 + i / 64) (i % 64))) 128 (64 * c.args.m + n) refl (omega arith) in
    rw (row, place) at all

pub returns-clause-bound : goal.returns-clause-bound
returns-clause-bound c = λ n lt.
    let row : (64 * c.args.m + n) / 64 ≡ c.args.m = omega (arith, c.requires) in
    let place : (64 * c.args.m + n) % 64 ≡ n = omega (arith, c.requires) in
    let all = within_at 256 (λ i. get_or (get_or HIGH (i / 64) []) (i % 64) (pos 0)) 128 (64 * c.args.m + n) refl (omega arith) in
    rw (row, place) at all
