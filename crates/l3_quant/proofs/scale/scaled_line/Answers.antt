use Rattle.std.proofs.Common.{◌≡◌, ◌*◌, ◌/◌, ◌%◌, ◌^◌, ◌-◌, min, ap, ◌∙◌, arith}
use Rattle.std.specs.Prelude.{unsigned_abs}
use Rattle.std.proofs.lemmas.Int.{ints}
use Rattle.l3_quant.proofs.Scales.{factor, scaled_right, scaled_left}
use Rattle.l3_quant.proofs.scale.scaled_line.Goals as goal

pub returns-then-h-le54 : goal.returns-then-h-le54
returns-then-h-le54 c =
    let quarter : c.unsigned_abs.result ≡ unsigned_abs c.quarter.result = omega (arith, ints) in
    let product : c.from.result * c.unsigned_abs.result ≡ c.args.x * factor (c.args.h % 4) =
    ap (λ z. z * c.unsigned_abs.result) c.from.ensures ∙ ap (λ z. c.args.x * z) (quarter ∙ ap unsigned_abs c.quarter.ensures.value) in
    c.min.ensures ∙ ap (λ z. min z (2 ^ 30)) (scaled_right c.args.x c.args.h (c.from.result * c.unsigned_abs.result) c.if-h-le54.true product)

pub returns-else-h-le54 : goal.returns-else-h-le54
returns-else-h-le54 c =
    let quarter : c.unsigned_abs.result ≡ unsigned_abs c.quarter.result = omega (arith, ints) in
    let product : c.from.result * c.unsigned_abs.result ≡ c.args.x * factor (c.args.h % 4) =
    ap (λ z. z * c.unsigned_abs.result) c.from.ensures ∙ ap (λ z. c.args.x * z) (quarter ∙ ap unsigned_abs c.quarter.ensures.value) in
    c.min-else-h-le54-2.ensures ∙ (ap (λ z. min (z * 2 ^ (c.args.h / 4 - 54) % 2 ^ 64) (2 ^ 30)) c.min-else-h-le54.ensures
    ∙ scaled_left c.args.x c.args.h (c.from.result * c.unsigned_abs.result) (omega arith) c.requires.steps product)
