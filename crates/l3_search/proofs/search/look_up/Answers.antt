use Rattle.std.proofs.Common.{List, ℕ, sym, ap, ◌∙◌}
use Rattle.l3_count.specs.Bands.{band_edges}
use Rattle.l3_count.specs.Count.{count_of}
use Rattle.l3_count.specs.Memo.{lane_of}
use Rattle.l3_search.proofs.Counts.{HasLaneTo-same}
use Rattle.l3_search.proofs.Lacking.{lacking-one_none, lacking-one_there}
use Rattle.l3_search.proofs.search.look_up.Goals as goal

pub returns-in-Some-clause-count : goal.returns-in-Some-clause-count
returns-in-Some-clause-count g c =
    ap (λ (a : List ℕ). count_of (band_edges c.args.rate) a c.args.spec.now c.args.gain) (sym c.requires.amp)
    ∙ c.requires.memo c.args.gain c.in-Some.count (sym c.in-Some.ensures.value)

pub returns-in-Some-clause-made : goal.returns-in-Some-clause-made
returns-in-Some-clause-made g c = lacking-one_there (lane_of c.args.memo.now c.args.lane).counts c.args.gain c.in-Some.count (sym c.in-Some.ensures.value)

pub returns-in-Some-clause-memo : goal.returns-in-Some-clause-memo
returns-in-Some-clause-memo g c =
    HasLaneTo-same (band_edges c.args.rate) c.args.amp.now c.args.spec.now c.args.lane c.args.gain c.in-Some.count c.args.memo.now c.requires.amp c.requires.memo (sym c.in-Some.ensures.value)

pub returns-in-None-clause-made : goal.returns-in-None-clause-made
returns-in-None-clause-made g c = lacking-one_none (lane_of c.args.memo.now c.args.lane).counts c.args.gain (sym c.in-None.ensures.value)
