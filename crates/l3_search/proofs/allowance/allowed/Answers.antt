use Rattle.std.proofs.Common.{◌≡◌, ◌+◌, ◌/◌, ◌<◌, ◌^◌, arith, ap, ◌∙◌, get_or, length}
use Rattle.std.proofs.Math.ListN.{length-set}
use Rattle.std.proofs.lemmas.List.Elements.{All-from_get_or}
use Rattle.l3_base.proofs.ListLemmas.{filled_more, tabulate-entries}
use Rattle.l3_search.specs.Noise.{allowances_of, allowed_of}
use Rattle.l3_search.proofs.allowance.allowed.Goals as goal

pub loop-band-preserved : goal.loop-band-preserved
unfolding allowed_of
loop-band-preserved c =
    let energies = c.args.energies.now in
    let band = c.loop-band.band in
    let rate = c.index-frequency.result in
    let room : band < length c.loop-band.out = omega (arith, c.loop-band.invariant.long) in
    let energy : get_or energies band 0 < 2 ^ 64 = omega (arith, c.type_inv.energies) in
    record {
      long = length-set c.loop-band.out band _ ∙ c.loop-band.invariant.long;
      value = filled_more (λ k a. a ≡ allowed_of rate energies k) c.loop-band.out band _ 0 room c.loop-band.invariant.value
          (ap (λ w. get_or energies band 0 / 32 + w) c.width.ensures.value);
      bound = filled_more (λ _ a. a < 2 ^ 60) c.loop-band.out band _ 0 room c.loop-band.invariant.bound
          (omega (arith, energy, c.width.ensures.bound));
    }

pub returns-clause-value : goal.returns-clause-value
unfolding allowances_of
returns-clause-value c =
    tabulate-entries 22 (allowed_of c.index-frequency.result c.args.energies.now) 0 c.loop-band.out c.loop-band.invariant.long
    (λ k lt. c.loop-band.invariant.value k (omega arith))
    ∙ ap (λ f. allowances_of f c.args.energies.now) c.index-frequency.ensures

pub returns-clause-bound : goal.returns-clause-bound
returns-clause-bound c =
    All-from_get_or (λ a. a < 2 ^ 60) c.loop-band.out 0
    (λ k lt. c.loop-band.invariant.bound k (omega (arith, c.loop-band.invariant.long, lt)))
