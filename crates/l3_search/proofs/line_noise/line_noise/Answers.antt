use Rattle.std.proofs.Common.{◌≡◌, ◌/◌, ◌*◌, ◌<◌, ◌^◌, ap, ◌∙◌, arith}
use Rattle.std.proofs.lemmas.Int.{ints}
use Rattle.std.specs.Prelude.{unsigned_abs}
use Rattle.l3_quant.specs.Reconstruction.{reconstructed}
use Rattle.l3_search.proofs.Rebuilt.{noise_is, noise_small}
use Rattle.l3_search.proofs.line_noise.line_noise.Goals as goal

-- the product that the code makes
made : (c : goal.After-from-3) → c.from-2.result * c.from-3.result ≡ c.abs_diff-error.result / 256 * (c.abs_diff-error.result / 256)
made c =
    ap (λ a. a * c.from-3.result) c.from-2.ensures ∙ ap (λ a. c.abs_diff-error.result / 256 * a) c.from-3.ensures

line_is : (c : goal.After-from-3) → c.from.result ≡ unsigned_abs c.args.x
line_is c = omega (arith, ints)

pub returns-clause-value : goal.returns-clause-value
returns-clause-value c =
    let gain = c.args.step.now.gain in
    let n : c.unsigned_abs.result ≡ unsigned_abs c.args.value = omega (arith, ints) in
    made c
    ∙ noise_is gain c.args.x (unsigned_abs c.args.value) c.from.result c.rebuilt-rebuilt.result c.abs_diff-error.result (line_is c)
    (c.rebuilt-rebuilt.ensures.value ∙ ap (λ k. reconstructed k gain) n) c.abs_diff-error.ensures

pub returns-clause-bound : goal.returns-clause-bound
returns-clause-bound c =
    let small : c.from.result < 2 ^ 29 = omega (arith, line_is c, c.requires.line) in
    omega (
      arith,
      made c,
      noise_small c.from.result c.rebuilt-rebuilt.result c.abs_diff-error.result small c.rebuilt-rebuilt.ensures.bound c.abs_diff-error.ensures,
    )
