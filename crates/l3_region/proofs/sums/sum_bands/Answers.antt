use Rattle.std.proofs.Common.{◌≡◌, ℕ, List, ◌%◌, arith, ◌+◌}
use Rattle.std.specs.Prelude.{ℤ}
use Rattle.l3_region.specs.Pairs.{IsBandClass, lines_in, unpacked}
use Rattle.l3_region.specs.Split.{end_of_pairs}
use Rattle.l3_region.specs.Lanes.{lane_sum}
use Rattle.l3_region.proofs.CutLines.{sums_same}
use Rattle.l3_region.proofs.Unpacked.{unpacked_same}
use Rattle.l3_region.proofs.LaneSums.{before, grow_lanes, kept_lanes, ready_lanes}
use Rattle.l3_region.proofs.sums.sum_bands.Goals as goal

end_even : (end : ℕ) (lines : List ℤ) → end ≡ end_of_pairs lines → end % 2 ≡ 0
end_even end lines is = omega arith

pub returns-clause-kept : goal.returns-clause-kept
returns-clause-kept c = kept_lanes (lines_in c.args.pairs.now) c.args.rate c.args.end c.part_classes.result c.sum_lanes.new.sums c.requires.rate c.requires.within c.sum_lanes.ensures

pub returns-clause-ready : goal.returns-clause-ready
returns-clause-ready c =
    ready_lanes (lines_in c.args.pairs.now) c.args.rate c.args.end c.part_classes.result c.sum_lanes.new.sums c.requires.rate c.requires.within (λ b lt. c.part_classes.ensures.few b) c.sum_lanes.ensures

pub returns-clause-made : goal.returns-clause-made
unfolding IsBandClass
returns-clause-made c = λ q is.
    let rate = c.args.rate in
    let end = c.args.end in
    let pairs = c.args.pairs.now in
    let lines = lines_in pairs in
    let same : (k n : ℕ) → lane_sum lines k n ≡ lane_sum q k n = λ k n. sums_same q (unpacked pairs) k n (unpacked_same q pairs c.args.classes.now c.told-pairs is) in
    record {
      rate_small = c.requires.rate;
      even = end_even end lines c.requires.ends;
      within = c.requires.within;
      long = is.long;
      codable = is.codable;
      ready = returns-clause-ready c;
      sums = λ i n k le lk held.
          omega (
            arith,
            grow_lanes lines rate end c.part_classes.result c.sum_lanes.new.sums c.requires.rate c.sum_lanes.ensures i n k le lk held,
            same k (before rate end i),
            same k (before rate end (i + n)),
          );
      classed = λ b lt. c.part_classes.ensures.value b lt q is;
      few = λ b lt. c.part_classes.ensures.few b;
    }
