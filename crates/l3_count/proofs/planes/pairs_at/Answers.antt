use Rattle.std.proofs.Common.{FitsSigned, w8, rules}
use Rattle.std.proofs.lemmas.Int.{to_z-of_z}
use Rattle.l3_base.specs.Rates.{hertz_index_of}
use Rattle.l3_count.specs.Marks.{line_steps}
use Rattle.l3_count.proofs.GainLemmas.{pairs_are}
use Rattle.l3_count.proofs.MarkLemmas.{equal_mark}
use Rattle.l3_count.proofs.planes.pairs_at.Goals as goal

pub returns-then-is_plain : goal.returns-then-is_plain
returns-then-is_plain c lines are =
    let rate = c.args.rate in
    let amp = c.args.amp.now in
    let gain = c.args.gain in
    let mark = c.mark.result in
    let fits : FitsSigned w8 mark = search rules in
    let e = to_z-of_z w8 mark fits in
    let each = rw e at c.count_pairs_above.ensures in
    let is = equal_mark (hertz_index_of rate) gain amp c.equal_key.result mark (search rules) c.equal_key.ensures.value c.mark.ensures in
    pairs_are rate amp gain lines c.count_pairs_above.new.out are.peaks_are.long (each lines (line_steps (hertz_index_of rate) amp gain) are.rows are.tops is)

pub returns-else-is_plain : goal.returns-else-is_plain
returns-else-is_plain c lines are =
    let rate = c.args.rate in
    let amp = c.args.amp.now in
    let gain = c.args.gain in
    let least = c.marks_at-least.result in
    let fits : FitsSigned w8 least = search rules in
    let e = to_z-of_z w8 least fits in
    let each = rw e at c.count_pairs.ensures in
    pairs_are rate amp gain lines c.count_pairs.new.out are.peaks_are.long
    (each lines (line_steps (hertz_index_of rate) amp gain) are.rows are.tops c.marks_at-least.ensures)
