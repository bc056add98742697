use Rattle.std.proofs.Common.{◌≡◌, ◌*◌, ◌/◌, length, ap, ◌∙◌}
use Rattle.std.specs.List.{sum_by}
use Rattle.l3_base.specs.Bands.{band_width}
use Rattle.l3_transform.specs.Demand.{energy_of_line, energy_of, eighths_of, binary_digits}
use Rattle.l3_transform.proofs.band.band_eighths.Goals as goal

pub returns-clause-value : goal.returns-clause-value
unfolding energy_of eighths_of
returns-clause-value c =
    let lines = c.band_lines-lines.result.now in
    let width = band_width c.args.rate c.args.band in
    let energy : c.sum_of_energies.result ≡ energy_of c.args.rate c.args.lines.now c.args.band =
    c.sum_of_energies.ensures.value ∙ ap (sum_by energy_of_line) c.band_lines-lines.ensures.value in
    let mean = ap (λ e. e / length lines) energy ∙ ap (λ w. energy_of c.args.rate c.args.lines.now c.args.band / w) c.band_lines-lines.ensures.width in
    ap (λ w. w * c.digits.result) c.band_lines-lines.ensures.width ∙ ap (λ d. width * d) (c.digits.ensures.value ∙ ap binary_digits mean)
