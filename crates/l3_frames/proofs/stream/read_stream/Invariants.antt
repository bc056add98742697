use Rattle.std.proofs.Common.{◌≡◌, ◌≤◌, ◌-◌, [], None, length}
use Rattle.std.specs.Prelude.{All, IfSome}
use Rattle.l3_stream.specs.Frames.{IsCoded}
use Rattle.l3_frames.specs.InTurn.{HasGiven}
use Rattle.l3_frames.proofs.stream.read_stream.Given as goal

abbrev pub invariant-loop-frames : goal.invariant-loop-frames
invariant-loop-frames g l = record {
  most : l.reader.limit ≡ l.limit;
  goes_on : l.reader.fault ≡ None;
  number : length l.frames.items ≡ l.reader.place.number;
  few : l.reader.place.number ≤ l.limit;
  coded : IfSome l.reader.settings (λ st. All (IsCoded st) l.frames.items);
  none : l.reader.settings ≡ None → l.frames.items ≡ [];
  empty : l.frames.items ≡ [] → l.reader.settings ≡ None;
  steady : g.S.Source.faults l.source ≡ g.S.Source.faults l.fn.source;
  given : IfSome (g.S.Source.left l.fn.source) (λ bytes. HasGiven l.limit bytes l.frames.items
      l.reader (g.S.Source.left l.source));
}

abbrev pub decreases-loop-frames : goal.decreases-loop-frames
decreases-loop-frames g l = l.limit - l.reader.place.number
