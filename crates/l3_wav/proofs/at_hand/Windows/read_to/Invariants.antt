use Rattle.std.proofs.Common.{◌≡◌, ◌-◌, ◌≤◌, ◌<◌, ◌⊎◌, true, false, max, cond}
use Rattle.l3_wav.specs.Holding.{GoesOn}
use Rattle.l3_wav.specs.ReadingOn.{AreGone}
use Rattle.l3_wav.proofs.at_hand.Windows.read_to.Given as goal

abbrev pub invariant-reading : goal.invariant-reading
invariant-reading g l = record {
  content : GoesOn l.fn.self l.self (g.S.Source.left l.fn.source) (g.S.Source.left l.source);
  same : (l.self.channels ≡ l.fn.self.channels) × (l.self.ahead ≡ l.fn.self.ahead) × (l.self.base ≡ l.fn.self.base);
  few : l.self.read ≤ max l.fn.self.read l.end;
  grows : l.fn.self.read ≤ l.self.read;
  short : l.fn.self.ended ≡ false → l.self.ended ≡ true → l.self.read < l.end;
  idle : (l.fn.self.ended ≡ true) ⊎ (l.end ≤ l.fn.self.read) → (l.self ≡ l.fn.self) × (l.source ≡ l.fn.source);
  gone : AreGone l.fn.self.samples.remaining l.self.samples.remaining (g.S.Source.left l.fn.source) (g.S.Source.left l.source);
  sound : l.self.samples.failed ≡ false;
  steady : g.S.Source.faults l.source ≡ g.S.Source.faults l.fn.source;
}

abbrev pub decreases-reading : goal.decreases-reading
decreases-reading g l = cond l.self.ended 0 (l.end - l.self.read)
