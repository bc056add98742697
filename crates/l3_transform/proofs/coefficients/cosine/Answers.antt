use Rattle.std.proofs.Common.{◌≡◌, ◌+◌, ◌*◌, ◌/◌, ◌%◌, pos, ◌*ℤ◌, [], get_or, refl, arith, w32, to_z, of_z}
use Rattle.l3_base.specs.Cosines.{cosine64}
use Rattle.l3_transform.specs.declared.coefficients.TheConstants.{COSINES}
use Rattle.l3_base.proofs.Entries.{same_at, within_at}
use Rattle.l3_transform.proofs.coefficients.cosine.Goals as goal

pub returns-clause-value : goal.returns-clause-value
unfolding cosine64
returns-clause-value c =
    let row : (32 * c.args.i + c.args.j) / 32 ≡ c.args.i = omega (arith, c.requires.column) in
    let place : (32 * c.args.i + c.args.j) % 32 ≡ c.args.j = omega (arith, c.requires.column) in
    let all = same_at (λ n. to_z w32 (of_z w32 (get_or (get_or COSINES (n / 32) []) (n % 32) (pos 0)))) (λ n. cosine64 (pos (2 * (n / 32) + 1) *ℤ pos (n % 32))) 512 (32 * c.args.i + c.args.j) refl (omega arith) in
    rw (row, place) at all

pub returns-clause-bound : goal.returns-clause-bound
returns-clause-bound c =
    let row : (32 * c.args.i + c.args.j) / 32 ≡ c.args.i = omega (arith, c.requires.column) in
    let place : (32 * c.args.i + c.args.j) % 32 ≡ c.args.j = omega (arith, c.requires.column) in
    let all = within_at 32768 (λ n. to_z w32 (of_z w32 (get_or (get_or COSINES (n / 32) []) (n % 32) (pos 0)))) 512 (32 * c.args.i + c.args.j) refl (omega arith) in
    rw (row, place) at all
