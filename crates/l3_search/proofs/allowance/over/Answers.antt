use Rattle.std.proofs.Common.{◌≡◌, ◌+◌, arith, ap, ◌∙◌, sym, if◌then◌else◌}
use Rattle.std.specs.List.{count_by, range_with_len}
use Rattle.l3_search.specs.Noise.{bands_over, is_over}
use Rattle.l3_search.proofs.SumLemmas.{count_by-range_more}
use Rattle.l3_search.proofs.allowance.over.Goals as goal
use Rattle.l3_search.proofs.allowance.over.Goals.{then-exceeds, else-exceeds}

pub loop-band-preserved : goal.loop-band-preserved
loop-band-preserved c =
    let p = is_over c.args.noise.now c.args.allowed.now in
    let n = c.loop-band.band in
    let before = count_by p (range_with_len 0 n) in
    let more = count_by-range_more p n in
    elim c.if-exceeds.branch [
      | then-exceeds w ↦
          (let here : count_by p (range_with_len 0 (n + 1)) ≡ before + 1 =
          more ∙ ap (λ b. before + (if b then 1 else 0)) (sym c.exceeds.ensures ∙ w.if-exceeds.true) in
          record {
            value = omega (arith, w.bands-is, here, c.loop-band.invariant.value);
            bound = omega (arith, w.bands-is, c.loop-band.invariant.bound);
          })
      | else-exceeds w ↦
          (let here : count_by p (range_with_len 0 (n + 1)) ≡ before + 0 =
          more ∙ ap (λ b. before + (if b then 1 else 0)) (sym c.exceeds.ensures ∙ w.if-exceeds.false) in
          record {
            value = omega (arith, w.bands-is, here, c.loop-band.invariant.value);
            bound = omega (arith, w.bands-is, c.loop-band.invariant.bound);
          })
    ]

pub returns-clause-value : goal.returns-clause-value
unfolding bands_over
returns-clause-value c =
    let end : c.loop-band.band ≡ 21 = omega arith in
    c.loop-band.invariant.value ∙ ap (λ n. count_by (is_over c.args.noise.now c.args.allowed.now) (range_with_len 0 n)) end
