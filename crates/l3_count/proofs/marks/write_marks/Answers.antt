use Rattle.std.proofs.Common.{◌≡◌, ◌+◌, ◌∙◌, ℕ, subst, FitsSigned, w8, rules, arith}
use Rattle.std.proofs.lemmas.Int.{to_z-of_z}
use Rattle.l3_base.specs.Rates.{hertz_index_of}
use Rattle.l3_base.specs.Bands.{edge_at}
use Rattle.l3_base.proofs.Edges.{index_small}
use Rattle.l3_count.proofs.MarkLemmas.{AreMarked, all_marked, band_marked}
use Rattle.l3_count.proofs.marks.write_marks.Goals as goal

pub loop-band-preserved : goal.loop-band-preserved
loop-band-preserved c =
    let band = c.loop-band.band in
    let rate = c.index-frequency.result in
    let mark = c.mark.result in
    let fits : FitsSigned w8 mark = search rules in
    let e = to_z-of_z w8 mark fits in
    let from : c.from-from.result ≡ edge_at rate band = c.from-from.ensures ∙ c.edge.ensures.value in
    let to : c.from-to.result ≡ edge_at rate (band + 1) = c.from-to.ensures ∙ c.edge-in-loop-band.ensures.value in
    let here = rw (from, to, e) at c.mark_lines.ensures.here in
    let before = rw from at c.mark_lines.ensures.before in
    record {
      marked = band_marked rate band c.args.keys.now mark c.loop-band.marks c.mark_lines.new.marks (search rules) (omega arith) c.mark.ensures c.loop-band.invariant.marked here before;
    }

pub returns : goal.returns
returns c amp gain are =
    let rate = c.args.rate in
    let marks = c.loop-band.marks in
    let keys = c.args.keys.now in
    let least = c.mark-2.result in
    let fits : FitsSigned w8 least = search rules in
    let e = to_z-of_z w8 least fits in
    let end : c.loop-band.band ≡ 22 = omega (arith, c.loop-band-test.false, c.loop-band.auto.band-end) in
    let marked = subst (λ (r : ℕ). AreMarked r keys 22 marks) c.index-frequency.ensures (subst (λ (n : ℕ). AreMarked c.index-frequency.result keys n marks) end c.loop-band.invariant.marked) in
    rw e (all_marked (hertz_index_of rate) amp gain keys marks c.least_key.result least (index_small rate) are marked c.least_key.ensures.least c.mark-2.ensures)
