use Rattle.std.proofs.Common.{◌≡◌, ◌<◌, ◌+◌, arith, ap, ◌∙◌, get_or, length, max, subst, sym, ℕ}
use Rattle.std.specs.Prelude.{slice_range}
use Rattle.l3_search.proofs.CompressLemmas.{IsTop, top-more}
use Rattle.l3_search.proofs.scalefactors.greatest.Goals as goal

pub loop-band-preserved : goal.loop-band-preserved
loop-band-preserved c =
    let amp = c.args.amp.now in
    let band = c.loop-band.band in
    let room : band < length amp = omega (arith, c.get.ensures.amp.long) in
    let top : max c.loop-band.top (get_or amp band 0) ≡ c.max-top.result =
    sym (c.max-top.ensures ∙ ap (max c.loop-band.top) c.get.ensures.value) in
    record {
      from = omega (arith, c.loop-band.invariant.from);
      small = omega (arith, c.max-top.ensures, c.get.ensures.bound, c.loop-band.invariant.small);
      value = subst (λ (t : ℕ). IsTop (slice_range amp c.args.from (band + 1)) t) top
          (top-more amp c.args.from band c.loop-band.top c.loop-band.invariant.from room c.loop-band.invariant.value);
    }
