use Rattle.std.proofs.Common.{◌≡◌, ◌+◌, ◌-◌, ◌*◌, ◌%◌, ◌≤◌, List, ℕ, All, FitsSigned, w16, length, take}
use Rattle.std.specs.Prelude.{IfSome}
use Rattle.std.specs.Io.KnownBytes.{Consumes}
use Rattle.l3_base.specs.Rates.{channels_of}
use Rattle.l3_wav.proofs.SampleLemmas.{HasRead}
use Rattle.l3_wav.proofs.samples.read_values.Given as goal

abbrev pub invariant-loop-count : goal.invariant-loop-count
invariant-loop-count g l = record {
  room : l.count ≤ length l.out;
  samples : l.count % channels_of l.channels ≡ 0;
  declared : 2 * l.count + l.remaining ≡ l.declared;
  content : IfSome (g.S.Source.left l.fn.source) (λ left. HasRead l.channels l.declared left l.count l.out (g.S.Source.left l.source));
  range : All (FitsSigned w16) (take l.count l.out);
  some : (bytes : List ℕ) × (length bytes ≤ 2 * l.count) × Consumes (g.S.Source.left l.fn.source) (g.S.Source.left l.source) bytes;
  steady : g.S.Source.faults l.source ≡ g.S.Source.faults l.fn.source;
}

abbrev pub decreases-loop-count : goal.decreases-loop-count
decreases-loop-count g l = length l.initial.out - l.count
