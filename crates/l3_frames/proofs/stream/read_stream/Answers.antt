use Rattle.std.proofs.Common.{◌≡◌, ◌++◌, ◌∷◌, [], length, None, Err, sym, ap, subst, ◌∙◌, refl, arith, rules, length-append}
use Rattle.std.specs.Prelude.{All, IfSome}
use Rattle.l3_stream.specs.Frames.{IsCoded}
use Rattle.l3_frames.specs.InTurn.{BeginsWithFrame, GivesFrame, HasStopped}
use Rattle.l3_frames.proofs.WholeSteps.{if_some, refused}
use Rattle.l3_frames.proofs.StreamSteps.{coded_more, some_frames, some_settings, so_far_memory, so_far_more, so_far_none, so_far_stopped}
use Rattle.l3_frames.proofs.stream.read_stream.Goals as goal

pub loop-frames-init : goal.loop-frames-init
loop-frames-init g c =
    let none : c.new-frames.result.items ≡ [] = search rules in
    let start = c.new-reader.ensures in
    let unknown : c.new-reader.result.settings ≡ None = ap (λ p. p.settings) start in
    record {
      most = ap (λ p. p.limit) start;
      goes_on = ap (λ p. p.fault) start;
      number = ap length none ∙ sym (ap (λ p. p.place.number) start);
      few = omega (arith, ap (λ p. p.place.number) start);
      coded = subst (λ o. IfSome o (λ st. All (IsCoded st) c.new-frames.result.items))
          (sym unknown) tt;
      none = λ e. none;
      empty = λ e. unknown;
      steady = refl;
      given = so_far_none c.args.limit (g.S.Source.left c.args.source.now) c.new-reader.result
          c.new-frames.result.items start none;
    }

pub returns-in_err-frame-clause-stopped : goal.returns-in_err-frame-clause-stopped
returns-in_err-frame-clause-stopped g c =
    let left = g.S.Source.left in
    let now = left c.next.new.source in
    let fault = c.in_err-frame.field-0.0 in
    let inv = c.loop-frames.invariant in
    let is : c.from_residual.result ≡ Err fault = search rules in
    refused c.from_residual.result fault (λ d. IfSome (left c.args.source.now)
    (λ bytes. HasStopped c.args.limit bytes d now)) is
    (so_far_stopped c.args.limit (left c.args.source.now) (left c.loop-frames.source) now
    c.loop-frames.frames.items c.loop-frames.reader inv.given fault
    (λ e. c.in_err-frame.ensures.memory (ap (λ d. Err d) e))
    (c.in_err-frame.ensures.gone inv.goes_on))

pub loop-frames-preserved : goal.loop-frames-preserved
loop-frames-preserved g c =
    let left = g.S.Source.left in
    let mid = left c.loop-frames.source in
    let now = left c.next.new.source in
    let inv = c.loop-frames.invariant in
    let p = c.loop-frames.reader in
    let q = c.next.new.self in
    let f = c.in-Some.frame in
    let frames = c.loop-frames.frames.items in
    let more = c.keep.new.frames.items in
    let pushed = c.in_ok-keep.ensures.kept in
    let gives = if_some c.in_ok-frame.field-0 f (λ x. GivesFrame p q x) c.in-Some.is
    c.in_ok-frame.ensures.frame in
    let begins = if_some c.in_ok-frame.field-0 f
    (λ x. IfSome mid (λ l. BeginsWithFrame p q x l now)) c.in-Some.is
    c.in_ok-frame.ensures.begins in
    record {
      most = gives.limit ∙ inv.most;
      goes_on = gives.goes_on.1;
      number = omega (
        arith,
        ap length pushed,
        length-append frames (f ∷ []),
        inv.number,
        gives.number,
      );
      few = omega (arith, gives.room, gives.number, inv.most);
      coded = coded_more p q f frames more gives pushed inv.none inv.coded;
      none = λ e. absurd (some_settings p q f gives e);
      empty = λ e. absurd (some_frames frames more f pushed e);
      steady = search rules;
      given = so_far_more c.args.limit (left c.args.source.now) mid now frames p inv.given q f more
          pushed gives begins;
    }

pub returns-in_err-keep-clause-stopped : goal.returns-in_err-keep-clause-stopped
returns-in_err-keep-clause-stopped g c =
    let left = g.S.Source.left in
    let old = left c.args.source.now in
    let mid = left c.loop-frames.source in
    let now = left c.next.new.source in
    let inv = c.loop-frames.invariant in
    let p = c.loop-frames.reader in
    let q = c.next.new.self in
    let f = c.in-Some.frame in
    let frames = c.loop-frames.frames.items in
    let fault = c.in_err-keep.field-0.0 in
    let is : c.from_residual-in_err-keep.result ≡ Err fault = search rules in
    let gives = if_some c.in_ok-frame.field-0 f (λ x. GivesFrame p q x) c.in-Some.is
    c.in_ok-frame.ensures.frame in
    let begins = if_some c.in_ok-frame.field-0 f
    (λ x. IfSome mid (λ l. BeginsWithFrame p q x l now)) c.in-Some.is
    c.in_ok-frame.ensures.begins in
    let more = so_far_more c.args.limit old mid now frames p inv.given q f (frames ++ f ∷ []) refl
    gives begins in
    refused c.from_residual-in_err-keep.result fault
    (λ d. IfSome old (λ bytes. HasStopped c.args.limit bytes d now)) is
    (so_far_memory c.args.limit old now (frames ++ f ∷ []) q fault c.in_err-keep.ensures.memory
    (omega (arith, length-append frames (f ∷ []))) more)
