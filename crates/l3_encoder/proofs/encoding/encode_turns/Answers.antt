use Rattle.std.proofs.Common.{arith, ◌≡◌, ◌∙◌, ap, sym, subst, inl, inr, ℕ, ◌+◌, ◌*◌, ◌<◌, ◌≤◌, ◌⊎◌, true, false, length, refl}
use Rattle.std.specs.Prelude.{Result, Ok, Err, ℤ, List}
use Rattle.l3_base.specs.Lengths.{granules_for}
use Rattle.l3_io.specs.Causes.{count_after}
use Rattle.l3_wav.specs.Holding.{WindowsView, Holds}
use Rattle.l3_commit.specs.Tracks.{TrackView, next_of}
use Rattle.l3_encoder.proofs.Counts.{later-same, later-same-then, later-more, later-more-then, read-next}
use Rattle.l3_encoder.proofs.Loop.{AllDone, owes-fresh, IfSome-samples}
use Rattle.l3_encoder.proofs.SoFar.{so_far-first, so_far-read, so_far-gathered, so_far-turned, so_far-half, so_far-whole, gone-here, gone-with, rose-here, rose-broken, rest-here, report-here, good-here, behind-here, front-here, frames-here, front-broken, frames-broken, stream-ended, frames-ended}
use Rattle.l3_encoder.specs.declared.encoding.TurnFault.TheVariants.{Read, Write}
use Rattle.l3_encoder.proofs.encoding.encode_turns.Goals as goal

pub granules-init : goal.granules-init
granules-init g c =
    let start = c.requires.start in
    let next = ap next_of start.0 in
    record {
      so_far = so_far-first c.args.committer.now c.args.settings c.new-writer.result (g.K.Sink.taken c.args.sink.now) (g.S.Source.left c.args.source.now) c.args.steps.now start.0 c.new-writer.ensures.value;
      turn = inl (next ∙ sym start.1);
      limit = omega (arith, next);
      few = omega (arith, ap (λ (t : TrackView). length t.granules) start.0);
      frames = sym (ap (λ (t : TrackView). t.frame) start.0);
      alike = refl;
      small = omega arith;
      ticks = omega arith;
      alone = c.requires.alone;
      ahead = c.requires.ahead;
      sound = c.requires.sound;
      reads = refl;
      writes = refl;
    }

-- ---- a read failed

pub returns-in_default-clause-bytes : goal.returns-in_default-clause-bytes
returns-in_default-clause-bytes g c =
    let owes = owes-fresh c.args.settings c.new-writer.result c.new-writer.ensures.value c.new-writer.ensures.owes in
    front-here c.granules.invariant.so_far c.requires.start.0 owes

pub returns-in_default-clause-frames : goal.returns-in_default-clause-frames
returns-in_default-clause-frames g c =
    let owes = owes-fresh c.args.settings c.new-writer.result c.new-writer.ensures.value c.new-writer.ensures.owes in
    frames-here c.granules.invariant.so_far c.requires.start.0 owes Read

pub returns-in_default-clause-gone : goal.returns-in_default-clause-gone
returns-in_default-clause-gone g c = gone-with c.granules.invariant.so_far (g.S.Source.left c.read_ahead.new.source) c.in_default.ensures.some

pub returns-in_default-clause-rise : goal.returns-in_default-clause-rise
returns-in_default-clause-rise g c = rose-here c.granules.invariant.so_far

pub returns-in_default-clause-rest : goal.returns-in_default-clause-rest
returns-in_default-clause-rest g c = tt

pub returns-in_default-clause-report : goal.returns-in_default-clause-report
returns-in_default-clause-report g c = tt

pub returns-in_default-clause-ticks : goal.returns-in_default-clause-ticks
returns-in_default-clause-ticks g c = tt

pub returns-in_default-clause-later_steps : goal.returns-in_default-clause-later_steps
returns-in_default-clause-later_steps g c = later-more c.args.steps.now c.granules.steps c.granules.made c.granules.invariant.ticks

pub returns-in_default-clause-cause : goal.returns-in_default-clause-cause
returns-in_default-clause-cause g c = (c.in_default.ensures.cause.failed ∙ ap count_after c.granules.invariant.reads, c.granules.invariant.writes)

pub returns-in_default-clause-later : goal.returns-in_default-clause-later
returns-in_default-clause-later g c = (later-same-then (g.S.Source.faults c.args.source.now) (g.S.Source.faults c.granules.source) (g.S.Source.faults c.read_ahead.new.source) c.granules.invariant.reads c.in_default.ensures.cause.later, later-same (g.K.Sink.faults c.args.sink.now) (g.K.Sink.faults c.granules.sink) c.granules.invariant.writes)

-- ---- what is asked of the next granule

pub next-requires-clause-there : goal.next-requires-clause-there
next-requires-clause-there g c = rw (ap next_of c.in-Ok.ensures.track) (read-next c.read_ahead.new.self.windows.ended (next_of c.granules.committer.track) c.granules.committer.windows.ahead c.read_ahead.new.self.windows.read c.granules.invariant.ahead c.in-Ok.ensures.at_hand)

pub next-requires-clause-limit : goal.next-requires-clause-limit
next-requires-clause-limit g c = rw (ap next_of c.in-Ok.ensures.track) c.granules.invariant.limit

pub gather_alone-requires-clause-alone : goal.gather_alone-requires-clause-alone
gather_alone-requires-clause-alone g c = rw c.in-Ok.ensures.offers c.granules.invariant.alone

pub gather_alone-requires-clause-base : goal.gather_alone-requires-clause-base
gather_alone-requires-clause-base g c = c.in-Ok.ensures.base ∙ ap next_of (sym c.in-Ok.ensures.track)

pub gather_alone-requires-clause-there : goal.gather_alone-requires-clause-there
gather_alone-requires-clause-there g c = rw (ap next_of c.in-Ok.ensures.track) (read-next c.read_ahead.new.self.windows.ended (next_of c.granules.committer.track) c.granules.committer.windows.ahead c.read_ahead.new.self.windows.read c.granules.invariant.ahead c.in-Ok.ensures.at_hand)

pub gather_alone-requires-clause-limit : goal.gather_alone-requires-clause-limit
gather_alone-requires-clause-limit g c = rw (ap next_of c.in-Ok.ensures.track) c.granules.invariant.limit

-- ---- a turn

pub turn-requires-clause-behind : goal.turn-requires-clause-behind
turn-requires-clause-behind g c κs within =
    let left = g.S.Source.left in
    let read = c.in-Ok.ensures in
    let mid = c.read_ahead.new.self in
    let now = so_far-read c.granules.invariant.so_far mid (left c.read_ahead.new.source) read.track read.stands read.content read.gone in
    let same = c.gather_alone.ensures.same in
    let ready = c.gather_alone.new.self in
    let here = so_far-gathered now ready same.0 same.1 c.gather_alone.ensures.stands in
    behind-here here c.requires.start.0

pub granules-preserved-then-get-eq1 : goal.granules-preserved-then-get-eq1
granules-preserved-then-get-eq1 g c =
    let left = g.S.Source.left in
    let read = c.in-Ok.ensures in
    let mid = c.read_ahead.new.self in
    let now = so_far-read c.granules.invariant.so_far mid (left c.read_ahead.new.source) read.track read.stands read.content read.gone in
    let same = c.gather_alone.ensures.same in
    let ready = c.gather_alone.new.self in
    let here = so_far-gathered now ready same.0 same.1 c.gather_alone.ensures.stands in
    let done = c.in-Ok-turn.ensures in
    let last = c.turn.new.committer in
    let number : c.in-Some.number ≡ next_of mid.track = c.in-Some.ensures.some.0 in
    let at : next_of ready.track ≡ next_of mid.track = ap next_of same.0 in
    let next : next_of last.track ≡ next_of ready.track + 1 = omega (arith, done.next, number, at) in
    let windows : last.windows ≡ mid.windows = done.same.0 ∙ same.1 in
    let base : last.windows.base ≡ mid.windows.base = ap (λ (w : WindowsView). w.base) windows in
    let frames = so_far-whole here last c.get.result (c.get.ensures.value ∙ (number ∙ sym at)) (omega (arith, done.next, c.get.ensures.value)) done.few c.if-get-eq1.true in
    let turned = so_far-turned here last c.turn.new.writer (g.K.Sink.taken c.turn.new.sink) _ c.in-Ok-turn.done.tried c.in-Ok-turn.done.made c.turn.new.steps done.same.0 next done.few done.tried done.turns done.limit done.made.0 done.made.1 frames in
    record {
      so_far = rw (c.from-tried.ensures, c.from-made.ensures) turned;
      turn = inr (omega (arith, next, at, base, read.base, ap next_of read.track));
      limit = omega (arith, done.next, c.in-Some.ensures.small);
      few = done.few;
      frames = frames;
      alike = omega (arith, c.granules.invariant.alike, done.alone c.gather_alone.ensures.fresh, c.from-tried.ensures, c.from-made.ensures);
      small = rw c.from-tried.ensures turned.small;
      ticks = rw c.from-made.ensures turned.ticks;
      ahead = omega (arith, c.granules.invariant.ahead, read.ahead, ap (λ (w : WindowsView). w.ahead) windows);
      sound = subst (λ (w : WindowsView). w.samples.failed ≡ false) (sym windows) read.sound;
      reads = read.cause.served ∙ c.granules.invariant.reads;
      writes = done.cause.served ∙ c.granules.invariant.writes;
      alone = rw (done.same.1 ∙ (same.2 ∙ read.offers)) c.granules.invariant.alone;
    }

pub granules-preserved : goal.granules-preserved
granules-preserved g c =
    let left = g.S.Source.left in
    let read = c.in-Ok.ensures in
    let mid = c.read_ahead.new.self in
    let now = so_far-read c.granules.invariant.so_far mid (left c.read_ahead.new.source) read.track read.stands read.content read.gone in
    let same = c.gather_alone.ensures.same in
    let ready = c.gather_alone.new.self in
    let here = so_far-gathered now ready same.0 same.1 c.gather_alone.ensures.stands in
    let done = c.in-Ok-turn.ensures in
    let last = c.turn.new.committer in
    let number : c.in-Some.number ≡ next_of mid.track = c.in-Some.ensures.some.0 in
    let at : next_of ready.track ≡ next_of mid.track = ap next_of same.0 in
    let next : next_of last.track ≡ next_of ready.track + 1 = omega (arith, done.next, number, at) in
    let windows : last.windows ≡ mid.windows = done.same.0 ∙ same.1 in
    let base : last.windows.base ≡ mid.windows.base = ap (λ (w : WindowsView). w.base) windows in
    let frames = so_far-half here last c.get.result (c.get.ensures.value ∙ (number ∙ sym at)) (omega (arith, done.next, c.get.ensures.value)) done.few c.if-get-eq1.false in
    let turned = so_far-turned here last c.turn.new.writer (g.K.Sink.taken c.turn.new.sink) _ c.in-Ok-turn.done.tried c.in-Ok-turn.done.made c.turn.new.steps done.same.0 next done.few done.tried done.turns done.limit done.made.0 done.made.1 frames in
    record {
      so_far = rw (c.from-tried.ensures, c.from-made.ensures) turned;
      turn = inr (omega (arith, next, at, base, read.base, ap next_of read.track));
      limit = omega (arith, done.next, c.in-Some.ensures.small);
      few = done.few;
      frames = frames;
      alike = omega (arith, c.granules.invariant.alike, done.alone c.gather_alone.ensures.fresh, c.from-tried.ensures, c.from-made.ensures);
      small = rw c.from-tried.ensures turned.small;
      ticks = rw c.from-made.ensures turned.ticks;
      ahead = omega (arith, c.granules.invariant.ahead, read.ahead, ap (λ (w : WindowsView). w.ahead) windows);
      sound = subst (λ (w : WindowsView). w.samples.failed ≡ false) (sym windows) read.sound;
      reads = read.cause.served ∙ c.granules.invariant.reads;
      writes = done.cause.served ∙ c.granules.invariant.writes;
      alone = rw (done.same.1 ∙ (same.2 ∙ read.offers)) c.granules.invariant.alone;
    }

-- ---- a write failed

pub returns-in_default-turn-clause-bytes : goal.returns-in_default-turn-clause-bytes
returns-in_default-turn-clause-bytes g c =
    let left = g.S.Source.left in
    let read = c.in-Ok.ensures in
    let mid = c.read_ahead.new.self in
    let now = so_far-read c.granules.invariant.so_far mid (left c.read_ahead.new.source) read.track read.stands read.content read.gone in
    let same = c.gather_alone.ensures.same in
    let ready = c.gather_alone.new.self in
    let here = so_far-gathered now ready same.0 same.1 c.gather_alone.ensures.stands in
    let owes = owes-fresh c.args.settings c.new-writer.result c.new-writer.ensures.value c.new-writer.ensures.owes in
    front-broken here c.requires.start.0 owes (g.K.Sink.taken c.turn.new.sink) c.in_default-turn.ensures.breaks

pub returns-in_default-turn-clause-frames : goal.returns-in_default-turn-clause-frames
returns-in_default-turn-clause-frames g c =
    let left = g.S.Source.left in
    let read = c.in-Ok.ensures in
    let mid = c.read_ahead.new.self in
    let now = so_far-read c.granules.invariant.so_far mid (left c.read_ahead.new.source) read.track read.stands read.content read.gone in
    let same = c.gather_alone.ensures.same in
    let ready = c.gather_alone.new.self in
    let here = so_far-gathered now ready same.0 same.1 c.gather_alone.ensures.stands in
    let owes = owes-fresh c.args.settings c.new-writer.result c.new-writer.ensures.value c.new-writer.ensures.owes in
    frames-broken here c.requires.start.0 owes (g.K.Sink.taken c.turn.new.sink) Write c.in_default-turn.ensures.breaks

pub returns-in_default-turn-clause-gone : goal.returns-in_default-turn-clause-gone
returns-in_default-turn-clause-gone g c =
    let left = g.S.Source.left in
    let read = c.in-Ok.ensures in
    let mid = c.read_ahead.new.self in
    let now = so_far-read c.granules.invariant.so_far mid (left c.read_ahead.new.source) read.track read.stands read.content read.gone in
    gone-here now

pub returns-in_default-turn-clause-rise : goal.returns-in_default-turn-clause-rise
returns-in_default-turn-clause-rise g c =
    let left = g.S.Source.left in
    let read = c.in-Ok.ensures in
    let mid = c.read_ahead.new.self in
    let now = so_far-read c.granules.invariant.so_far mid (left c.read_ahead.new.source) read.track read.stands read.content read.gone in
    let same = c.gather_alone.ensures.same in
    let ready = c.gather_alone.new.self in
    let here = so_far-gathered now ready same.0 same.1 c.gather_alone.ensures.stands in
    let below : (bytes : List ℕ) (p q : List ℤ) → Holds ready.windows bytes p q → next_of ready.track < granules_for (length p) =
    λ bytes p q h. rw (ap next_of same.0) (rw c.in-Some.ensures.some.0 at (c.in-Some.ensures.some.1 bytes p q (subst (λ (w : WindowsView). Holds w bytes p q) same.1 h))) in
    rose-broken here c.turn.new.steps below c.in_default-turn.ensures.rise

pub returns-in_default-turn-clause-rest : goal.returns-in_default-turn-clause-rest
returns-in_default-turn-clause-rest g c = tt

pub returns-in_default-turn-clause-report : goal.returns-in_default-turn-clause-report
returns-in_default-turn-clause-report g c = tt

pub returns-in_default-turn-clause-ticks : goal.returns-in_default-turn-clause-ticks
returns-in_default-turn-clause-ticks g c = tt

pub returns-in_default-turn-clause-later_steps : goal.returns-in_default-turn-clause-later_steps
returns-in_default-turn-clause-later_steps g c = later-more-then c.args.steps.now c.granules.steps c.granules.made c.turn.new.steps c.granules.invariant.ticks c.in_default-turn.ensures.later

pub returns-in_default-turn-clause-cause : goal.returns-in_default-turn-clause-cause
returns-in_default-turn-clause-cause g c = (c.in-Ok.ensures.cause.served ∙ c.granules.invariant.reads, c.in_default-turn.ensures.cause.failed ∙ ap count_after c.granules.invariant.writes)

pub returns-in_default-turn-clause-later : goal.returns-in_default-turn-clause-later
returns-in_default-turn-clause-later g c = (later-same (g.S.Source.faults c.args.source.now) (g.S.Source.faults c.read_ahead.new.source) (c.in-Ok.ensures.cause.served ∙ c.granules.invariant.reads), later-same-then (g.K.Sink.faults c.args.sink.now) (g.K.Sink.faults c.granules.sink) (g.K.Sink.faults c.turn.new.sink) c.granules.invariant.writes c.in_default-turn.ensures.cause.later)

-- ---- behind the last granule

pub finish-requires-after_bounds : goal.finish-requires-after_bounds
finish-requires-after_bounds g c κs within =
    let left = g.S.Source.left in
    let read = c.in-Ok.ensures in
    let mid = c.read_ahead.new.self in
    let now = so_far-read c.granules.invariant.so_far mid (left c.read_ahead.new.source) read.track read.stands read.content read.gone in
    good-here now c.requires.start.0

pub returns-in-Ok-finish-clause-bytes : goal.returns-in-Ok-finish-clause-bytes
returns-in-Ok-finish-clause-bytes g c =
    let left = g.S.Source.left in
    let read = c.in-Ok.ensures in
    let mid = c.read_ahead.new.self in
    let now = so_far-read c.granules.invariant.so_far mid (left c.read_ahead.new.source) read.track read.stands read.content read.gone in
    let owes = owes-fresh c.args.settings c.new-writer.result c.new-writer.ensures.value c.new-writer.ensures.owes in
    let all : AllDone mid = c.in_default-next.ensures.none in
    let r : Result ℕ ℕ = Ok 0 in
    stream-ended now c.requires.start.0 owes (g.K.Sink.taken c.finish.new.sink) r all c.in-Ok-finish.ensures.bytes

pub returns-in-Ok-finish-clause-frames : goal.returns-in-Ok-finish-clause-frames
returns-in-Ok-finish-clause-frames g c =
    let left = g.S.Source.left in
    let read = c.in-Ok.ensures in
    let mid = c.read_ahead.new.self in
    let now = so_far-read c.granules.invariant.so_far mid (left c.read_ahead.new.source) read.track read.stands read.content read.gone in
    let owes = owes-fresh c.args.settings c.new-writer.result c.new-writer.ensures.value c.new-writer.ensures.owes in
    let r : Result ℕ ℕ = Ok 0 in
    frames-ended now c.requires.start.0 owes (g.K.Sink.taken c.finish.new.sink) r c.in-Ok-finish.ensures.bytes

pub returns-in-Ok-finish-clause-gone : goal.returns-in-Ok-finish-clause-gone
returns-in-Ok-finish-clause-gone g c =
    let left = g.S.Source.left in
    let read = c.in-Ok.ensures in
    let mid = c.read_ahead.new.self in
    let now = so_far-read c.granules.invariant.so_far mid (left c.read_ahead.new.source) read.track read.stands read.content read.gone in
    gone-here now

pub returns-in-Ok-finish-clause-report : goal.returns-in-Ok-finish-clause-report
returns-in-Ok-finish-clause-report g c =
    let left = g.S.Source.left in
    let read = c.in-Ok.ensures in
    let mid = c.read_ahead.new.self in
    let now = so_far-read c.granules.invariant.so_far mid (left c.read_ahead.new.source) read.track read.stands read.content read.gone in
    let all : AllDone mid = c.in_default-next.ensures.none in
    report-here now _ all refl refl

pub returns-in-Ok-finish-clause-rise : goal.returns-in-Ok-finish-clause-rise
returns-in-Ok-finish-clause-rise g c =
    rose-here c.granules.invariant.so_far

pub returns-in-Ok-finish-clause-rest : goal.returns-in-Ok-finish-clause-rest
returns-in-Ok-finish-clause-rest g c =
    let left = g.S.Source.left in
    let read = c.in-Ok.ensures in
    let mid = c.read_ahead.new.self in
    let now = so_far-read c.granules.invariant.so_far mid (left c.read_ahead.new.source) read.track read.stands read.content read.gone in
    let all : AllDone mid = c.in_default-next.ensures.none in
    let there = subst (λ (t : TrackView). (mid.windows.ended ≡ true) ⊎ (576 * (next_of t + c.granules.committer.windows.ahead) ≤ mid.windows.read)) (sym read.track) read.at_hand in
    rest-here now c.granules.committer.windows.ahead c.granules.invariant.ahead all there read.done

pub returns-in-Err-clause-bytes : goal.returns-in-Err-clause-bytes
returns-in-Err-clause-bytes g c =
    let left = g.S.Source.left in
    let read = c.in-Ok.ensures in
    let mid = c.read_ahead.new.self in
    let now = so_far-read c.granules.invariant.so_far mid (left c.read_ahead.new.source) read.track read.stands read.content read.gone in
    let owes = owes-fresh c.args.settings c.new-writer.result c.new-writer.ensures.value c.new-writer.ensures.owes in
    let all : AllDone mid = c.in_default-next.ensures.none in
    let r : Result ℕ ℕ = Err 0 in
    IfSome-samples c.args.committer.now c.args.settings (g.K.Sink.taken c.args.sink.now) (g.K.Sink.taken c.finish.new.sink) (left c.args.source.now) (stream-ended now c.requires.start.0 owes (g.K.Sink.taken c.finish.new.sink) r all c.in-Err.ensures.bytes)

pub returns-in-Err-clause-frames : goal.returns-in-Err-clause-frames
returns-in-Err-clause-frames g c =
    let left = g.S.Source.left in
    let read = c.in-Ok.ensures in
    let mid = c.read_ahead.new.self in
    let now = so_far-read c.granules.invariant.so_far mid (left c.read_ahead.new.source) read.track read.stands read.content read.gone in
    let owes = owes-fresh c.args.settings c.new-writer.result c.new-writer.ensures.value c.new-writer.ensures.owes in
    let r : Result ℕ ℕ = Err 0 in
    let p = frames-ended now c.requires.start.0 owes (g.K.Sink.taken c.finish.new.sink) r c.in-Err.ensures.bytes in
    (p.0, p.1, p.2, tt)

pub returns-in-Err-clause-gone : goal.returns-in-Err-clause-gone
returns-in-Err-clause-gone g c =
    let left = g.S.Source.left in
    let read = c.in-Ok.ensures in
    let mid = c.read_ahead.new.self in
    let now = so_far-read c.granules.invariant.so_far mid (left c.read_ahead.new.source) read.track read.stands read.content read.gone in
    gone-here now

pub returns-in-Err-clause-rise : goal.returns-in-Err-clause-rise
returns-in-Err-clause-rise g c =
    rose-here c.granules.invariant.so_far

pub returns-in-Ok-finish-clause-ticks : goal.returns-in-Ok-finish-clause-ticks
returns-in-Ok-finish-clause-ticks g c = (c.granules.invariant.alike, c.granules.invariant.ticks)

pub returns-in-Ok-finish-clause-later_steps : goal.returns-in-Ok-finish-clause-later_steps
returns-in-Ok-finish-clause-later_steps g c = later-more c.args.steps.now c.granules.steps c.granules.made c.granules.invariant.ticks

pub returns-in-Ok-finish-clause-cause : goal.returns-in-Ok-finish-clause-cause
returns-in-Ok-finish-clause-cause g c = (c.in-Ok.ensures.cause.served ∙ c.granules.invariant.reads, c.in-Ok-finish.ensures.cause.served ∙ c.granules.invariant.writes)

pub returns-in-Ok-finish-clause-later : goal.returns-in-Ok-finish-clause-later
returns-in-Ok-finish-clause-later g c = (later-same (g.S.Source.faults c.args.source.now) (g.S.Source.faults c.read_ahead.new.source) (c.in-Ok.ensures.cause.served ∙ c.granules.invariant.reads), later-same-then (g.K.Sink.faults c.args.sink.now) (g.K.Sink.faults c.granules.sink) (g.K.Sink.faults c.finish.new.sink) c.granules.invariant.writes c.in-Ok-finish.ensures.cause.later)

pub returns-in-Err-clause-rest : goal.returns-in-Err-clause-rest
returns-in-Err-clause-rest g c = tt

pub returns-in-Err-clause-report : goal.returns-in-Err-clause-report
returns-in-Err-clause-report g c = tt

pub returns-in-Err-clause-ticks : goal.returns-in-Err-clause-ticks
returns-in-Err-clause-ticks g c = tt

pub returns-in-Err-clause-later_steps : goal.returns-in-Err-clause-later_steps
returns-in-Err-clause-later_steps g c = later-more c.args.steps.now c.granules.steps c.granules.made c.granules.invariant.ticks

pub returns-in-Err-clause-cause : goal.returns-in-Err-clause-cause
returns-in-Err-clause-cause g c = (c.in-Ok.ensures.cause.served ∙ c.granules.invariant.reads, c.in-Err.ensures.cause.failed ∙ ap count_after c.granules.invariant.writes)

pub returns-in-Err-clause-later : goal.returns-in-Err-clause-later
returns-in-Err-clause-later g c = (later-same (g.S.Source.faults c.args.source.now) (g.S.Source.faults c.read_ahead.new.source) (c.in-Ok.ensures.cause.served ∙ c.granules.invariant.reads), later-same-then (g.K.Sink.faults c.args.sink.now) (g.K.Sink.faults c.granules.sink) (g.K.Sink.faults c.finish.new.sink) c.granules.invariant.writes c.in-Err.ensures.cause.later)
