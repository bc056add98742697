use Rattle.std.proofs.Common.{◌∙◌, sym, arith}
use Rattle.l3_count.specs.Bands.{band_edges}
use Rattle.l3_search.proofs.Fits.{counted_at, counted_under}
use Rattle.l3_search.proofs.Counts.{HasLaneTo-put, IsLaneOf-more}
use Rattle.l3_search.proofs.search.make.Goals as goal

pub put-requires-clause-amp : goal.put-requires-clause-amp
put-requires-clause-amp g c =
    counted_under (band_edges c.args.rate) c.args.amp.now c.args.spec.now c.args.gain c.count-count.result c.count-count.ensures.count ∙ sym c.requires.amp

pub returns-clause-memo : goal.returns-clause-memo
returns-clause-memo g c =
    let edges = band_edges c.args.rate in
    let is = c.count-count.ensures.count in
    let at = counted_at edges c.args.amp.now c.args.spec.now c.args.gain c.count-count.result is in
    HasLaneTo-put edges c.args.amp.now c.args.spec.now c.args.lane c.args.gain c.count-count.result c.args.memo.now c.put.new.self c.requires.lane c.put.ensures.memo c.requires.amp
    (omega arith) at is c.put.ensures.value

pub returns-clause-kept : goal.returns-clause-kept
returns-clause-kept g c =
    IsLaneOf-more (band_edges c.args.rate) c.args.amp.now c.args.spec.now c.args.lane c.args.gain c.args.gain c.args.memo.now c.put.new.self c.requires.amp c.requires.memo
    (returns-clause-memo g c)
