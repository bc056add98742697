use Rattle.std.proofs.Common.{◌≡◌, ℕ, ◌+◌, ◌/◌, ◌∙◌, get_or, length, inl, inr, arith, ap, sym, min}
use Rattle.std.proofs.lemmas.Bool.{cases_lt}
use Rattle.std.proofs.lemmas.Simd.{get_or-replicate}
use Rattle.l3_base.specs.Bands.{edge_at}
use Rattle.l3_region.specs.Pairs.{lines_in}
use Rattle.l3_region.specs.Lanes.{cell_at, short_sum}
use Rattle.l3_base.proofs.Edges.{edge_first, edge_order}
use Rattle.l3_region.proofs.Kept.{cells_last, short_sum-none}
use Rattle.l3_region.proofs.LaneSums.{none_here}
use Rattle.l3_region.proofs.sums.sum_all.Goals as goal

pub loop-band-init : goal.loop-band-init
loop-band-init c =
    let none = c.no_bits-sum.ensures in
    record {
      start = omega (arith, edge_first c.args.rate c.requires.rate);
      long = ap length none;
      sum = λ t lt. ap (λ s. get_or s t 0) none ∙ (get_or-replicate 16 t 0 0 lt ∙ sym (short_sum-none (lines_in c.args.pairs.now) t));
      lanes = (none_here c.args.sums.now c.requires.none).0;
      edges = (none_here c.args.sums.now c.requires.none).1;
      cells = λ t b lt less. absurd (omega arith);
    }

pub loop-band-preserved : goal.loop-band-preserved
loop-band-preserved c =
    let inv = c.loop-band.invariant in
    let rate = c.args.rate in
    let end = c.args.end in
    let lines = lines_in c.args.pairs.now in
    let band : ℕ = c.loop-band.band in
    record {
      start = omega (arith, c.min-to.ensures, c.from.ensures, c.edge.ensures.value);
      long = c.add_pairs.ensures.long;
      sum = c.add_pairs.ensures.sums;
      lanes = c.put.ensures.lanes;
      edges = c.put.ensures.edges;
      cells = λ t b lt less. elim (cases_lt b band) [
        | inl before ↦ c.put.ensures.others t b lt (omega arith) ∙ inv.cells t b lt before
        | inr here ↦
            (let same : b ≡ band = omega arith in
            ap (cell_at c.put.new.sums t) same
            ∙ (c.put.ensures.here t lt ∙ (inv.sum t lt ∙ (ap (λ n. short_sum lines t (n / 2)) inv.start ∙ ap (λ i. short_sum lines t (min (edge_at rate i) end / 2)) (sym same)))))
      ];
    }

-- from one edge to the next
pub add_pairs-requires-clause-order : goal.add_pairs-requires-clause-order
add_pairs-requires-clause-order c =
    omega (arith, edge_order c.args.rate c.loop-band.band (c.loop-band.band + 1) c.requires.rate (omega arith) (omega arith), c.loop-band.invariant.start, c.edge.ensures.value, c.from.ensures, c.min-to.ensures)

pub returns : goal.returns
returns c =
    let rate = c.args.rate in
    let end = c.args.end in
    let lines = lines_in c.args.pairs.now in
    let inv = c.loop-band.invariant in
    let last : c.loop-band.band ≡ 22 = omega arith in
    let start : c.loop-band.from ≡ min (edge_at rate 22) end = inv.start ∙ ap (λ b. min (edge_at rate b) end) last in
    record {
      lanes = c.put-4.ensures.lanes;
      edges = c.put-4.ensures.edges;
      summed =
          cells_last lines rate end c.loop-band.sums c.put-2.new.sums c.put-3.new.sums c.put-4.new.sums c.loop-band.sum (λ t b lt less. inv.cells t b lt (omega arith)) (λ t lt. inv.sum t (omega arith) ∙ ap (λ n. short_sum lines t (n / 2)) start)
          c.put-2.ensures.here c.put-2.ensures.others c.put-3.ensures.here c.put-3.ensures.others c.put-4.ensures.here c.put-4.ensures.others;
    }
