use Rattle.std.proofs.Common.{◌≡◌, ◌≢◌, get_or, get_or-set_other, ◌+◌, ◌-◌, ◌∙◌, ℕ, subst, arith}
use Rattle.std.proofs.Math.ListN.{length-set}
use Rattle.l3_count.specs.Ends.{IsEnd}
use Rattle.l3_count.proofs.Ends.{end_more, ends_more}
use Rattle.l3_count.proofs.split.write_ends.Goals as goal

pub loop-r-preserved : goal.loop-r-preserved
loop-r-preserved c =
    let r = c.loop-r.r in
    let pair = 287 - r in
    let lines_end = c.max-end.result in
    record {
      long = length-set c.loop-r.out pair c.max-end.result ∙ c.loop-r.invariant.long;
      end = λ lines are.
          let next : 288 - r ≡ pair + 1 = omega arith in
          let same : pair ≡ 288 - (r + 1) = omega arith in
          subst (λ (z : ℕ). IsEnd lines c.args.k z c.max-end.result) same
          (end_more lines c.args.k pair c.loop-r.end (get_or c.loop-r.out pair 0) c.max-end.result (omega arith)
          (subst (λ (z : ℕ). IsEnd lines c.args.k z c.loop-r.end) next (c.loop-r.invariant.end lines are)) (c.loop-r.invariant.rest lines are pair (omega arith)) c.max-end.ensures);
      is = λ lines are.
          let next : 288 - r ≡ pair + 1 = omega arith in
          ends_more lines c.args.k r c.loop-r.out c.max-end.result (omega arith) c.loop-r.invariant.long
          (end_more lines c.args.k pair c.loop-r.end (get_or c.loop-r.out pair 0) c.max-end.result (omega arith)
          (subst (λ (z : ℕ). IsEnd lines c.args.k z c.loop-r.end) next (c.loop-r.invariant.end lines are)) (c.loop-r.invariant.rest lines are pair (omega arith)) c.max-end.ensures)
          (c.loop-r.invariant.is lines are);
      rest = λ lines are other lt.
          let apart : other ≢ pair = λ same. absurd (omega (arith, lt, same)) in
          rw get_or-set_other (c.loop-r.invariant.rest lines are other (omega arith));
    }

pub returns : goal.returns
returns c lines are = record { long = c.loop-r.invariant.long; is = λ pair lt. c.loop-r.invariant.is lines are pair (omega arith) lt }
