use Rattle.std.proofs.Common.{rules, FitsSigned, w32, to_z, of_z, ◌≡◌, ◌<◌, ap, sym, subst, ◌∙◌, arith, get_or, length, pos}
use Rattle.std.proofs.Math.ListN.{length-set}
use Rattle.std.proofs.lemmas.Int.{to_z-of_z}
use Rattle.l3_base.specs.Lists.{entry}
use Rattle.l3_base.specs.Sums.{IsWithin}
use Rattle.l3_base.proofs.ListLemmas.{tabulate-entries}
use Rattle.l3_transform.specs.Joint.{middle_line, side_line, middle_of, side_of}
use Rattle.l3_transform.proofs.LineLemmas.{entry-set}
use Rattle.l3_transform.proofs.turning.turn.Goals as goal

pub loop-k-preserved : goal.loop-k-preserved
loop-k-preserved c =
    let left = c.args.left.now in
    let right = c.args.right.now in
    let k = c.loop-k.k in
    let room : k < length c.loop-k.middle = omega (arith, c.loop-k.invariant.middle_long) in
    let beside : k < length c.loop-k.side = omega (arith, c.loop-k.invariant.side_long) in
    let l = get_or c.lines-left.result.now k (pos 0) in
    let r = get_or c.lines-right.result.now k (pos 0) in
    let l_fits : FitsSigned w32 l = search rules in
    let r_fits : FitsSigned w32 r = search rules in
    let m_fits : FitsSigned w32 c.middle_of_line.result = search rules in
    let s_fits : FitsSigned w32 c.side_of_line.result = search rules in
    let m_whole = to_z-of_z w32 c.middle_of_line.result m_fits in
    let s_whole = to_z-of_z w32 c.side_of_line.result s_fits in
    let l_is = to_z-of_z w32 l l_fits ∙ ap (λ xs. entry xs k) c.lines-left.ensures.value in
    let r_is = to_z-of_z w32 r r_fits ∙ ap (λ xs. entry xs k) c.lines-right.ensures.value in
    record {
      middle_long = ap length c.set.ensures ∙ (length-set c.loop-k.middle k _ ∙ c.loop-k.invariant.middle_long);
      side_long = ap length c.set-in-loop-k.ensures ∙ (length-set c.loop-k.side k _ ∙ c.loop-k.invariant.side_long);
      middle = entry-set (λ m x. x ≡ middle_line (entry left m) (entry right m)) c.loop-k.middle c.set.new.self k _
          c.set.ensures room c.loop-k.invariant.middle (m_whole ∙ (c.middle_of_line.ensures.value ∙ (ap (λ x. middle_line x (to_z w32 (of_z w32 r))) l_is ∙ ap (middle_line (entry left k)) r_is)));
      side = entry-set (λ m x. x ≡ side_line (entry left m) (entry right m)) c.loop-k.side c.set-in-loop-k.new.self k _
          c.set-in-loop-k.ensures beside c.loop-k.invariant.side (s_whole ∙ (c.side_of_line.ensures.value ∙ (ap (λ x. side_line x (to_z w32 (of_z w32 r))) l_is ∙ ap (side_line (entry left k)) r_is)));
      middle_small = entry-set (λ _ x. IsWithin 379617280 x) c.loop-k.middle c.set.new.self k _
          c.set.ensures room c.loop-k.invariant.middle_small (subst (IsWithin 379617280) (sym m_whole) c.middle_of_line.ensures.bound);
      side_small = entry-set (λ _ x. IsWithin 379617280 x) c.loop-k.side c.set-in-loop-k.new.self k _
          c.set-in-loop-k.ensures beside c.loop-k.invariant.side_small (subst (IsWithin 379617280) (sym s_whole) c.side_of_line.ensures.bound);
    }

pub returns-clause-middle : goal.returns-clause-middle
unfolding middle_of
returns-clause-middle c =
    let left = c.args.left.now in
    let right = c.args.right.now in
    tabulate-entries 576 (λ k. middle_line (entry left k) (entry right k)) (pos 0) c.loop-k.middle
    c.loop-k.invariant.middle_long (λ k lt. c.loop-k.invariant.middle k (omega arith))

pub returns-clause-side : goal.returns-clause-side
unfolding side_of
returns-clause-side c =
    let left = c.args.left.now in
    let right = c.args.right.now in
    tabulate-entries 576 (λ k. side_line (entry left k) (entry right k)) (pos 0) c.loop-k.side
    c.loop-k.invariant.side_long (λ k lt. c.loop-k.invariant.side k (omega arith))
