use Rattle.std.proofs.Common.{◌≡◌, ℕ, List, ◌+◌, ◌*◌, ◌/◌, ◌%◌, ◌<◌, ◌≤◌, ◌≢◌, ◌∙◌, inl, inr, arith, ap, sym, min}
use Rattle.std.specs.Prelude.{ℤ}
use Rattle.std.proofs.lemmas.Bool.{cases_lt}
use Rattle.l3_base.specs.Bands.{edge_at}
use Rattle.l3_region.specs.Pairs.{lines_in}
use Rattle.l3_region.specs.Lanes.{cell_at, pairs_at, short_sum}
use Rattle.l3_base.proofs.Edges.{edge_first, edge_order}
use Rattle.l3_region.proofs.Kept.{short_sum-le, short_sum-none}
use Rattle.l3_region.proofs.LaneSums.{none_here, none_cells}
use Rattle.l3_region.proofs.sums.sum_long.Goals as goal

pub loop-band-init : goal.loop-band-init
loop-band-init c =
    let none = none_here c.args.sums.now c.requires.none in
    let lines = lines_in c.args.pairs.now in
    record {
      start = omega (arith, edge_first c.args.rate c.requires.rate);
      sum = omega (arith, short_sum-none lines 12, short_sum-none lines 13);
      lanes = none.0;
      edges = none.1;
      first = λ b less. absurd (omega arith);
      second = λ b less. absurd (omega arith);
      zeros = λ t b lt _ _. none_cells c.args.sums.now c.requires.none t b lt;
    }

-- a packed sum gives both numbers
apart : (lines : List ℤ) (n sum : ℕ) → n ≤ 288 → sum ≡ short_sum lines 12 n + 65536 * short_sum lines 13 n → (sum % 65536 ≡ short_sum lines 12 n) × (sum / 65536 ≡ short_sum lines 13 n)
apart lines n sum within is =
    let low = short_sum-le lines 12 n (omega arith) in
    (omega (arith, low, is, within), omega (arith, low, is, within))

-- one edge more in a lane
cell_more : (lines : List ℤ) (rate end t band from : ℕ) (before after : List (List ℕ)) → from ≡ min (edge_at rate (min band 22)) end → cell_at after t band ≡ short_sum lines t (from / 2) →
    ((b : ℕ) → b ≢ band → cell_at after t b ≡ cell_at before t b) → ((b : ℕ) → b < band → cell_at before t b ≡ short_sum lines t (pairs_at rate end b)) →
    (b : ℕ) → b < band + 1 → cell_at after t b ≡ short_sum lines t (pairs_at rate end b)
cell_more lines rate end t band from before after start here others done b lt = elim (cases_lt b band) [
  | inl less ↦ (let ne : b ≢ band = omega arith in others b ne ∙ done b less)
  | inr more ↦
      (let same : b ≡ band = omega arith in
      ap (cell_at after t) same ∙ (here ∙ (ap (λ n. short_sum lines t (n / 2)) start ∙ ap (λ i. short_sum lines t (pairs_at rate end i)) (sym same))))
]

pub loop-band-preserved : goal.loop-band-preserved
loop-band-preserved c =
    let inv = c.loop-band.invariant in
    let rate = c.args.rate in
    let end = c.args.end in
    let lines = lines_in c.args.pairs.now in
    let band : ℕ = c.loop-band.band in
    let from = c.loop-band.from in
    let both = apart lines (from / 2) c.loop-band.sum (omega (arith, inv.start, c.requires.within)) inv.sum in
    let put = c.put_long.ensures in
    record {
      start = omega (arith, c.min-to.ensures, c.from.ensures, c.edge.ensures.value, ap (edge_at rate) c.min.ensures);
      sum = c.add_long-sum.ensures;
      lanes = put.lanes;
      edges = put.edges;
      first = cell_more lines rate end 12 band from c.loop-band.sums c.put_long.new.sums inv.start (put.first ∙ both.0) (λ b ne. put.others 12 b (omega arith) ne) inv.first;
      second = cell_more lines rate end 13 band from c.loop-band.sums c.put_long.new.sums inv.start (put.second ∙ both.1) (λ b ne. put.others 13 b (omega arith) ne) inv.second;
      zeros = λ t b lt low high. put.zeros t b lt low high ∙ inv.zeros t b lt low high;
    }

pub add_long-sum-requires-clause-order : goal.add_long-sum-requires-clause-order
add_long-sum-requires-clause-order c =
    omega (
      arith,
      edge_order c.args.rate (min c.loop-band.band 22) (min (c.loop-band.band + 1) 22) c.requires.rate (omega arith) (omega arith),
      c.loop-band.invariant.start,
      c.edge.ensures.value,
      ap (edge_at c.args.rate) c.min.ensures,
      c.from.ensures,
      c.min-to.ensures,
    )

pub returns : goal.returns
returns c =
    let inv = c.loop-band.invariant in
    let lines = lines_in c.args.pairs.now in
    let last : c.loop-band.band ≡ 25 = omega arith in
    record {
      lanes = inv.lanes;
      edges = inv.edges;
      summed = λ t b low high lt. elim (cases_lt t 13) [
        | inl one ↦
            (let same : t ≡ 12 = omega arith in
            ap (λ k. cell_at c.loop-band.sums k b) same ∙ (inv.first b (omega (arith, last)) ∙ ap (λ k. short_sum lines k (pairs_at c.args.rate c.args.end b)) (sym same)))
        | inr two ↦
            (let same : t ≡ 13 = omega arith in
            ap (λ k. cell_at c.loop-band.sums k b) same ∙ (inv.second b (omega (arith, last)) ∙ ap (λ k. short_sum lines k (pairs_at c.args.rate c.args.end b)) (sym same)))
      ];
      zeros = inv.zeros;
    }
