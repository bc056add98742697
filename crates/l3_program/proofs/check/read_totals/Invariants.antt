use Rattle.std.proofs.Common.{◌≡◌, ◌-◌, ◌*◌, ◌^◌, ◌≤◌}
use Rattle.std.specs.Prelude.{IfSome, None}
use Rattle.l3_program.specs.Check.{frames_limit}
use Rattle.l3_program.proofs.CheckLemmas.{IsSummed}
use Rattle.l3_program.proofs.check.read_totals.Given as goal

abbrev pub invariant-loop-frame : goal.invariant-loop-frame
invariant-loop-frame g l = record {
  most : l.reader.limit ≡ frames_limit;
  number : l.totals.frames ≡ l.reader.place.number;
  within : l.reader.place.number ≤ frames_limit;
  bits : l.totals.bits ≤ 2 ^ 18 * l.totals.frames;
  goes_on : l.reader.fault ≡ None;
  steady : g.S.Source.faults l.source ≡ g.S.Source.faults l.fn.source;
  summed : IfSome (g.S.Source.left l.fn.source) (λ bytes. IsSummed bytes l.totals l.reader (g.S.Source.left l.source));
}

abbrev pub decreases-loop-frame : goal.decreases-loop-frame
decreases-loop-frame g l = frames_limit - l.reader.place.number
