use Rattle.std.proofs.Common.{rules, ◌≡◌, ◌≤◌, ◌*◌, ◌*ℤ◌, to_z, of_z, w32, FitsSigned, arith, ap, ◌∙◌}
use Rattle.std.proofs.lemmas.Int.{ints, to_z-of_z, fits_signed_from_abs}
use Rattle.std.specs.Prelude.{unsigned_abs}
use Rattle.l3_base.proofs.Entries.{within_same}
use Rattle.l3_transform.proofs.PairSums.{product_small}
use Rattle.l3_transform.proofs.columns.product.Goals as goal

pub returns-clause-bound : goal.returns-clause-bound
returns-clause-bound c =
    let left : to_z w32 (of_z w32 c.from.result) ≡ c.args.entry = omega (arith, ints) in
    let right : to_z w32 (of_z w32 c.from-2.result) ≡ c.args.sample = omega (arith, ints) in
    let same : to_z w32 (of_z w32 c.from.result) *ℤ to_z w32 (of_z w32 c.from-2.result) ≡ c.args.entry *ℤ c.args.sample =
    ap (λ z. z *ℤ to_z w32 (of_z w32 c.from-2.result)) left ∙ ap (λ z. c.args.entry *ℤ z) right in
    let range : unsigned_abs c.args.sample ≤ 32768 = search rules in
    let small : unsigned_abs (c.args.entry *ℤ c.args.sample) ≤ 9984 * 32768 = product_small c.args.entry c.args.sample 9984 32768 c.requires range in
    let fits : FitsSigned w32 (c.args.entry *ℤ c.args.sample) = fits_signed_from_abs w32 (c.args.entry *ℤ c.args.sample) (omega (arith, small)) in
    rw same (within_same (9984 * 32768) _ _ (to_z-of_z w32 (c.args.entry *ℤ c.args.sample) fits) small)
