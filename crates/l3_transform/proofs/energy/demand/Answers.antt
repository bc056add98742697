use Rattle.std.proofs.Common.{◌≡◌, ◌<◌, ◌+◌, ◌/◌, arith, ap, sym, ◌∙◌}
use Rattle.std.specs.List.{sum}
use Rattle.l3_base.specs.Rates.{hertz_index_of}
use Rattle.l3_base.specs.Bands.{edge_at}
use Rattle.l3_base.specs.Lists.{tabulate}
use Rattle.l3_transform.specs.Demand.{eighths_of, demand_of}
use Rattle.l3_base.proofs.Edges.{edge_rises, edge_last, edge_within, index_small}
use Rattle.l3_transform.proofs.EnergySums.{sum_tabulate-none, sum_tabulate-more}
use Rattle.l3_transform.proofs.energy.demand.Goals as goal

pub loop-band-init : goal.loop-band-init
loop-band-init c = record { value = sym (sum_tabulate-none _); bound = omega arith }

pub overflow_add-eighths : goal.overflow_add-eighths
overflow_add-eighths c =
    let index : c.index-frequency.result < 3 = omega (arith, c.index-frequency.ensures, index_small c.args.rate) in
    omega (
      arith,
      edge_rises c.index-frequency.result c.loop-band.band index c.loop-band-test.true,
      edge_within c.index-frequency.result (c.loop-band.band + 1) index (omega arith),
      c.loop-band.invariant.bound,
      c.band_eighths-eighths.ensures.bound,
    )

pub loop-band-preserved : goal.loop-band-preserved
loop-band-preserved c =
    let index : c.index-frequency.result < 3 = omega (arith, c.index-frequency.ensures, index_small c.args.rate) in
    let rising = edge_rises c.index-frequency.result c.loop-band.band index c.loop-band-test.true in
    let more = sum_tabulate-more c.loop-band.band (eighths_of c.index-frequency.result c.lines-lines.result.now) in
    record {
      value = omega (arith, more, c.loop-band.invariant.value, c.band_eighths-eighths.ensures.value);
      bound = omega (arith, rising, c.loop-band.invariant.bound, c.band_eighths-eighths.ensures.bound);
    }

pub returns-clause-value : goal.returns-clause-value
unfolding demand_of
returns-clause-value c =
    let lines = c.lines-lines.result.now in
    let end : c.loop-band.band ≡ 22 = omega arith in
    let whole : c.loop-band.eighths ≡ sum (tabulate 22 (eighths_of c.index-frequency.result lines)) =
    c.loop-band.invariant.value ∙ ap (λ n. sum (tabulate n (eighths_of c.index-frequency.result lines))) end in
    ap (λ s. s / 8) whole ∙ (ap (λ f. demand_of f lines) c.index-frequency.ensures ∙ ap (demand_of (hertz_index_of c.args.rate)) c.lines-lines.ensures.value)

pub returns-clause-limit : goal.returns-clause-limit
returns-clause-limit c =
    let index : c.index-frequency.result < 3 = omega (arith, c.index-frequency.ensures, index_small c.args.rate) in
    let end : c.loop-band.band ≡ 22 = omega arith in
    let edge : edge_at c.index-frequency.result c.loop-band.band ≡ 576 = ap (λ b. edge_at c.index-frequency.result b) end ∙ edge_last c.index-frequency.result index in
    omega (arith, edge, c.loop-band.invariant.bound)
