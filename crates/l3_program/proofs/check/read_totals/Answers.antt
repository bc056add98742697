use Rattle.std.proofs.Common.{rules, ◌≡◌, ◌+◌, ◌∙◌, ap, sym, refl, arith, Err, Some}
use Rattle.std.specs.Prelude.{IfSome}
use Rattle.l3_stream.specs.declared.fault.StreamFault.TheVariants as faults
use Rattle.l3_frames.specs.InTurn.{Progress, BeginsWithFrame, GivesFrame, HasStopped}
use Rattle.l3_program.specs.Check.{deviation_in, frames_limit}
use Rattle.l3_program.proofs.CheckLemmas.{summed_first, summed_more, deviates, stopped, when_some, when_err}
use Rattle.l3_program.proofs.check.read_totals.Goals as goal

pub loop-frame-init : goal.loop-frame-init
loop-frame-init g c =
    let start = c.new-reader.ensures in
    let number = ap (λ (p : Progress). p.place.number) start in
    record {
      most = ap (λ (p : Progress). p.limit) start;
      number = sym number;
      within = omega (arith, number);
      bits = omega arith;
      goes_on = ap (λ (p : Progress). p.fault) start;
      steady = refl;
      summed = summed_first (g.S.Source.left c.args.source.now) _ c.new-reader.result start refl refl;
    }

pub returns-in_err-frame-clause-deviation : goal.returns-in_err-frame-clause-deviation
returns-in_err-frame-clause-deviation g c =
    let left = g.S.Source.left in
    let fault = c.in_err-frame.field-0.0 in
    let is : c.from_residual.result ≡ Err fault = search rules in
    when_err c.from_residual.result fault (λ d. (d ≡ faults.Read → ⊥) → IfSome (left c.args.source.now) (λ bytes. deviation_in bytes ≡ Some d)) is
    (λ own. deviates (left c.args.source.now) (left c.loop-frame.source) c.loop-frame.totals c.loop-frame.reader fault c.loop-frame.invariant.summed (c.in_err-frame.ensures.deviation own))

pub returns-in_err-frame-clause-stopped : goal.returns-in_err-frame-clause-stopped
returns-in_err-frame-clause-stopped g c =
    let left = g.S.Source.left in
    let now = left c.next.new.source in
    let fault = c.in_err-frame.field-0.0 in
    let is : c.from_residual.result ≡ Err fault = search rules in
    when_err c.from_residual.result fault (λ d. IfSome (left c.args.source.now) (λ bytes. HasStopped frames_limit bytes d now)) is
    (stopped (left c.args.source.now) (left c.loop-frame.source) now c.loop-frame.totals c.loop-frame.reader fault
    (λ e. c.in_err-frame.ensures.memory (ap (λ d. Err d) e)) c.loop-frame.invariant.summed (c.in_err-frame.ensures.gone c.loop-frame.invariant.goes_on))

pub loop-frame-preserved : goal.loop-frame-preserved
loop-frame-preserved g c =
    let left = g.S.Source.left in
    let mid = left c.loop-frame.source in
    let now = left c.next.new.source in
    let inv = c.loop-frame.invariant in
    let p = c.loop-frame.reader in
    let q = c.next.new.self in
    let f = c.in-Some.frame in
    let gives = when_some c.in_ok-frame.field-0 f (λ x. GivesFrame p q x) c.in-Some.is c.in_ok-frame.ensures.frame in
    let begins = when_some c.in_ok-frame.field-0 f (λ x. IfSome mid (λ l. BeginsWithFrame p q x l now)) c.in-Some.is c.in_ok-frame.ensures.begins in
    record {
      most = gives.limit ∙ inv.most;
      number = ap (λ n. n + 1) inv.number ∙ sym gives.number;
      within = omega (arith, gives.room, gives.number, inv.most);
      bits = omega (arith, inv.bits, c.main_data_length.ensures.limit);
      goes_on = gives.goes_on.1;
      steady = search rules;
      summed = summed_more (left c.args.source.now) mid now c.loop-frame.totals _ p q f inv.summed gives begins refl (ap (λ n. c.loop-frame.totals.bits + n) c.main_data_length.ensures.value);
    }
