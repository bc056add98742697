use Rattle.std.proofs.Common.{◌<◌, ◌*◌, ◌/◌, ◌%◌, ◌+◌, ℕ, ℤ, sym, subst, pos, get_or, arith, below_more}
use Rattle.std.specs.Prelude.{unsigned_abs}
use Rattle.l3_count.specs.Rows.{line_at, IsStored}
use Rattle.l3_count.proofs.rows.write_rows.Goals as goal

pub loop-row-preserved : goal.loop-row-preserved
loop-row-preserved c =
    let n = c.loop-row.row in
    let out = c.write_row.new.out in
    record {
      long = c.write_row.ensures.long;
      value = λ lines are.
          below_more (λ row. (j : ℕ) → j < 32 → IsStored (row % 15 + 1) (unsigned_abs (get_or lines (line_at (32 * (row / 15) + j)) (pos 0))) (get_or out (32 * row + j) (pos 0))) n
          (λ row lt j room. subst (λ (z : ℤ). IsStored (row % 15 + 1) (unsigned_abs (get_or lines (line_at (32 * (row / 15) + j)) (pos 0))) z)
          (sym (c.write_row.ensures.before (32 * row + j) (omega arith)))
          (c.loop-row.invariant.value lines are row lt j room))
          (λ j room. c.write_row.ensures.value j room (unsigned_abs (get_or lines (line_at (32 * (n / 15) + j)) (pos 0))) (are.is (32 * (n / 15) + j) (let lt : n < 270 = omega arith in omega arith)));
    }
