-- The planes of a unit.
use Rattle.std.specs.Prelude.{ℕ, List, ℤ}
use Rattle.l3_quant.specs.Magnitudes.{AreLinePeaks}
use Rattle.l3_count.specs.declared.planes.Planes.{Planes}
use Rattle.l3_count.specs.Rows.{AreRows, AreTops}
use Rattle.l3_count.specs.Ends.{AreEnds}
use Rattle.l3_count.specs.Classes.{AreClassPlanes}

-- planes are those of 576 lines, with bands that have these edges
pub record ArePlanesOf (edges : List ℕ) (lines : List ℤ) (planes : Planes) : Type 0 where
  pub peaks : List ℕ
  pub peaks_are : AreLinePeaks edges lines peaks
  pub rows : AreRows lines planes.rows
  pub tops : AreTops planes.rows planes.tops
  pub nonzero : AreEnds lines 0 planes.nonzero
  pub above_one : AreEnds lines 1 planes.above_one
  pub classes : AreClassPlanes peaks planes.classes
