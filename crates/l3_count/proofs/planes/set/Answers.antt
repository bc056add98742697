use Rattle.std.proofs.Common.{List, ℤ, subst}
use Rattle.l3_count.specs.Rows.{AreRows}
use Rattle.l3_count.proofs.planes.set.Goals as goal

pub returns : goal.returns
returns c rate are =
    let rows = subst (λ (z : List ℤ). AreRows z c.write_rows.new.out) c.lines.ensures.value (c.write_rows.ensures c.lines.result.now c.rank_lines.ensures) in
    record {
      peaks = c.args.peaks.now;
      peaks_are = are;
      rows = rows;
      tops = c.write_tops.ensures;
      nonzero = c.write_ends.ensures c.args.spec.now rows;
      above_one = c.write_ends-2.ensures c.args.spec.now rows;
      classes = c.write_classes.ensures;
    }
