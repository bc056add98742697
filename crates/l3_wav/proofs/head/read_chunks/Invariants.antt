use Rattle.std.proofs.Common.{◌≡◌, ◌-◌, ◌≤◌}
use Rattle.std.specs.Prelude.{IfSome}
use Rattle.l3_wav.specs.Wav.{head_limit}
use Rattle.l3_wav.proofs.ChunkLemmas.{IsAt}
use Rattle.l3_wav.proofs.head.read_chunks.Given as goal

abbrev pub invariant-loop-head : goal.invariant-loop-head
invariant-loop-head g l = record {
  low : 12 ≤ l.read;
  within : l.read ≤ head_limit;
  at : IfSome (g.S.Source.left l.fn.source) (λ bytes. IsAt bytes l.format l.read (g.S.Source.left l.source));
  steady : g.S.Source.faults l.source ≡ g.S.Source.faults l.fn.source;
}

abbrev pub decreases-loop-head : goal.decreases-loop-head
decreases-loop-head g l = head_limit - l.read
