use Rattle.std.proofs.Common.{rules, arith}
use Rattle.l3_count.specs.Bands.{band_edges}
use Rattle.l3_count.proofs.Counts.{first_gain_of-codable}
use Rattle.l3_count.proofs.Zeros.{zeros_from_peaks}
use Rattle.l3_search.proofs.search.count.Goals as goal

pub count_over-requires : goal.count_over-requires
count_over-requires g c =
    let codable = first_gain_of-codable (band_edges c.args.rate) c.args.amp.now c.args.spec.now c.args.gain (omega arith) c.requires.first in
    (search rules, (c.args.spec.now, c.prepare.ensures, codable))

pub returns-then-is_silent-clause-count : goal.returns-then-is_silent-clause-count
returns-then-is_silent-clause-count g c =
    c.count_zeros.ensures.value c.args.spec.now c.requires.peaks.long (zeros_from_peaks c.args.rate c.args.spec.now c.args.peaks.now c.requires.peaks (c.is_silent.ensures c.if-is_silent.true))

pub returns-clause-count : goal.returns-clause-count
returns-clause-count g c =
    let codable = first_gain_of-codable (band_edges c.args.rate) c.args.amp.now c.args.spec.now c.args.gain (omega arith) c.requires.first in
    c.count_over.ensures.value c.args.spec.now c.prepare.ensures codable
