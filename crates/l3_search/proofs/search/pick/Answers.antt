use Rattle.std.proofs.Common.{◌≡◌, ℕ, ◌+◌, ◌<◌, refl, sym, ap, ◌∙◌, arith}
use Rattle.l3_quant.specs.Gains.{first_gain_of}
use Rattle.l3_count.specs.Bands.{band_edges}
use Rattle.l3_count.specs.Count.{count_of}
use Rattle.l3_count.specs.Memo.{lane_of}
use Rattle.l3_search.specs.Gain.{lacking, picked_gain}
use Rattle.l3_search.proofs.Fits.{below_top, counted_at, least_within, none_before, none_before-more, picked_gain-is}
use Rattle.l3_search.proofs.Lacking.{lacking-le, lacking-more, lacking-one_same}
use Rattle.l3_search.proofs.Counts.{HasLaneTo-more, HasLaneTo-named}
use Rattle.l3_search.proofs.search.pick.Goals as goal

pub loop-found-init : goal.loop-found-init
loop-found-init g c =
    let edges = band_edges c.args.rate in
    let amp = c.args.amp.now in
    let lines = c.args.spec.now in
    let gain = c.start-gain.result in
    let is : gain ≡ first_gain_of edges amp lines = c.start-gain.ensures.value in
    record {
      first = omega arith;
      most = omega arith;
      count = c.look_up-found.ensures.count;
      none_before = none_before edges amp lines c.args.budget gain is;
      made = c.look_up-found.ensures.made ∙ ap (λ (k : ℕ). lacking (lane_of c.args.memo.now c.args.lane).counts k gain) is;
      ticks = c.look_up-found.ensures.ticks;
      memo = HasLaneTo-named edges amp lines c.args.lane gain gain (first_gain_of edges amp lines) gain c.args.memo.now c.look_up-found.new.memo is refl c.look_up-found.ensures.memo;
      own = c.look_up-found.ensures.own;
      kept = c.look_up-found.ensures.kept;
    }

pub overflow_add-gain : goal.overflow_add-gain
overflow_add-gain g c =
    let inv = c.loop-found.invariant in
    let room = below_top (band_edges c.args.rate) c.args.amp.now c.args.spec.now c.args.budget c.loop-found.gain c.loop-found.found.count c.start-gain.ensures.amp c.start-gain.ensures.small inv.most inv.count (omega arith) in
    omega arith

pub overflow_add-made : goal.overflow_add-made
overflow_add-made g c =
    let inv = c.loop-found.invariant in
    let all = lacking-le (lane_of c.args.memo.now c.args.lane).counts (first_gain_of (band_edges c.args.rate) c.args.amp.now c.args.spec.now) c.loop-found.gain in
    omega (arith, c.look_up-found-in-loop-found.ensures.one)

pub loop-found-smaller : goal.loop-found-smaller
loop-found-smaller g c =
    let inv = c.loop-found.invariant in
    let room = below_top (band_edges c.args.rate) c.args.amp.now c.args.spec.now c.args.budget c.loop-found.gain c.loop-found.found.count c.start-gain.ensures.amp c.start-gain.ensures.small inv.most inv.count (omega arith) in
    omega arith

pub loop-found-preserved : goal.loop-found-preserved
loop-found-preserved g c =
    let edges = band_edges c.args.rate in
    let amp = c.args.amp.now in
    let lines = c.args.spec.now in
    let first = first_gain_of edges amp lines in
    let gain = c.loop-found.gain in
    let inv = c.loop-found.invariant in
    let next = c.look_up-found-in-loop-found.ensures in
    let room : gain < 255 = below_top edges amp lines c.args.budget gain c.loop-found.found.count c.start-gain.ensures.amp c.start-gain.ensures.small inv.most inv.count (omega arith) in
    let same = lacking-one_same (lane_of c.loop-found.memo c.args.lane).counts (lane_of c.args.memo.now c.args.lane).counts (gain + 1) (inv.memo.counts.above (gain + 1) (omega arith)) in
    let more = lacking-more (lane_of c.args.memo.now c.args.lane).counts first gain (omega arith) in
    record {
      first = omega arith;
      most = omega arith;
      count = next.count;
      none_before = none_before-more edges amp lines c.args.budget gain c.loop-found.found.count inv.none_before inv.count (omega arith);
      made = omega arith;
      ticks = omega arith;
      memo = HasLaneTo-more edges amp lines c.args.lane first gain c.args.memo.now c.loop-found.memo c.look_up-found-in-loop-found.new.memo (omega arith) inv.memo next.memo;
      own = next.own;
      kept = next.kept;
    }

pub returns-clause-count : goal.returns-clause-count
returns-clause-count g c =
    let edges = band_edges c.args.rate in
    let inv = c.loop-found.invariant in
    let e = picked_gain-is edges c.args.amp.now c.args.spec.now c.args.budget c.loop-found.gain c.loop-found.found.count inv.most inv.count (omega arith) inv.none_before in
    ap (count_of edges c.args.amp.now c.args.spec.now) e ∙ inv.count

pub returns-clause-gain : goal.returns-clause-gain
returns-clause-gain g c =
    let edges = band_edges c.args.rate in
    let inv = c.loop-found.invariant in
    let e = picked_gain-is edges c.args.amp.now c.args.spec.now c.args.budget c.loop-found.gain c.loop-found.found.count inv.most inv.count (omega arith) inv.none_before in
    counted_at edges c.args.amp.now c.args.spec.now c.loop-found.gain c.loop-found.found.count inv.count ∙ sym e

pub returns-clause-least : goal.returns-clause-least
returns-clause-least g c =
    let inv = c.loop-found.invariant in
    least_within (band_edges c.args.rate) c.args.amp.now c.args.spec.now c.args.budget c.loop-found.gain c.loop-found.found.count inv.count (omega arith) inv.none_before

pub returns-clause-made : goal.returns-clause-made
returns-clause-made g c =
    let inv = c.loop-found.invariant in
    let e = picked_gain-is (band_edges c.args.rate) c.args.amp.now c.args.spec.now c.args.budget c.loop-found.gain c.loop-found.found.count inv.most inv.count (omega arith) inv.none_before in
    inv.made ∙ ap (λ (k : ℕ). lacking (lane_of c.args.memo.now c.args.lane).counts (first_gain_of (band_edges c.args.rate) c.args.amp.now c.args.spec.now) k) (sym e)

pub returns-clause-tried : goal.returns-clause-tried
returns-clause-tried g c =
    let inv = c.loop-found.invariant in
    let e = picked_gain-is (band_edges c.args.rate) c.args.amp.now c.args.spec.now c.args.budget c.loop-found.gain c.loop-found.found.count inv.most inv.count (omega arith) inv.none_before in
    let all = lacking-le (lane_of c.args.memo.now c.args.lane).counts (first_gain_of (band_edges c.args.rate) c.args.amp.now c.args.spec.now) c.loop-found.gain in
    omega arith

pub returns-clause-limit : goal.returns-clause-limit
returns-clause-limit g c =
    let inv = c.loop-found.invariant in
    let all = lacking-le (lane_of c.args.memo.now c.args.lane).counts (first_gain_of (band_edges c.args.rate) c.args.amp.now c.args.spec.now) c.loop-found.gain in
    omega arith

pub returns-clause-memo : goal.returns-clause-memo
returns-clause-memo g c =
    let edges = band_edges c.args.rate in
    let first = first_gain_of (band_edges c.args.rate) c.args.amp.now c.args.spec.now in
    let gain = c.loop-found.gain in
    let inv = c.loop-found.invariant in
    let e = picked_gain-is edges c.args.amp.now c.args.spec.now c.args.budget gain c.loop-found.found.count inv.most inv.count (omega arith) inv.none_before in
    HasLaneTo-named edges c.args.amp.now c.args.spec.now c.args.lane first gain first (picked_gain edges c.args.amp.now c.args.spec.now c.args.budget) c.args.memo.now c.loop-found.memo refl (sym e) inv.memo
