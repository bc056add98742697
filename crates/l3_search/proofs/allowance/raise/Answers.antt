use Rattle.std.proofs.Common.{◌+◌, ◌<◌, arith, get_or, if◌then◌else◌}
use Rattle.l3_base.proofs.ListLemmas.{tabulate-entries}
use Rattle.l3_search.specs.Noise.{bands_over, is_over, raised}
use Rattle.l3_search.proofs.allowance.raise.Goals as goal

pub returns-clause-some : goal.returns-clause-some
unfolding raised
returns-clause-some c =
    let noise = c.args.noise.now in
    let allowed = c.args.allowed.now in
    let some : 0 < bands_over noise allowed = omega (arith, c.over.ensures.value, c.if-over-eq0.false) in (
      tabulate-entries 21 (λ band. get_or c.args.amp.now band 0 + (if is_over noise allowed band then 1 else 0)) 0 c.loop-band.next
          c.loop-band.invariant.long (λ k lt. c.loop-band.invariant.value k (omega arith)),
      some,
    )
