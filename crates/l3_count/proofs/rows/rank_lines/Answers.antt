use Rattle.std.proofs.Common.{◌≡◌, ◌≤◌, ◌∙◌, ℕ, ap, subst, pos, get_or, FitsSigned, w32, rules, arith}
use Rattle.std.proofs.lemmas.Int.{to_z-of_z}
use Rattle.std.specs.Prelude.{unsigned_abs}
use Rattle.std.proofs.Math.ListN.{length-set}
use Rattle.l3_base.proofs.ListLemmas.{filled_more}
use Rattle.l3_count.specs.Planes.{IsRanked}
use Rattle.l3_count.specs.Rows.{line_at}
use Rattle.l3_count.proofs.PlaneCounts.{filled_both}
use Rattle.l3_count.proofs.rows.rank_lines.Goals as goal

pub loop-i-preserved : goal.loop-i-preserved
loop-i-preserved c =
    let i = c.loop-i.i in
    let lines = c.args.lines.now in
    let octave = c.ranked_line-ranked.result.octave in
    let rank = c.ranked_line-ranked.result.rank in
    let fits : FitsSigned w32 (get_or lines c.line_of.result (pos 0)) = search rules in
    let size : c.unsigned_abs.result ≡ unsigned_abs (get_or lines (line_at i) (pos 0)) = c.unsigned_abs.ensures.value ∙ (ap unsigned_abs (to_z-of_z w32 (get_or lines c.line_of.result (pos 0)) fits) ∙ ap (λ k. unsigned_abs (get_or lines k (pos 0))) c.line_of.ensures.value) in
    record {
      long = length-set c.loop-i.octaves i octave ∙ c.loop-i.invariant.long;
      long_too = length-set c.loop-i.ranks i rank ∙ c.loop-i.invariant.long_too;
      is = filled_both (λ k o r. IsRanked (unsigned_abs (get_or lines (line_at k) (pos 0))) o r) c.loop-i.octaves c.loop-i.ranks i octave rank
          (omega (arith, c.loop-i.invariant.long)) (omega (arith, c.loop-i.invariant.long_too)) c.loop-i.invariant.is
          (subst (λ (z : ℕ). IsRanked z octave rank) size c.ranked_line-ranked.ensures.is);
      small = filled_more (λ _ o. o ≤ 242) c.loop-i.octaves i octave 0 (omega (arith, c.loop-i.invariant.long)) c.loop-i.invariant.small c.ranked_line-ranked.ensures.small;
    }
