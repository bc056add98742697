use Rattle.std.proofs.Common.{◌≡◌, ◌-◌, ◌+◌, ◌*◌, ℕ, sym, subst, get_or, arith, inl, inr}
use Rattle.std.proofs.lemmas.Bool.{cases_lt}
use Rattle.l3_count.specs.Ends.{IsPairPlane}
use Rattle.l3_count.proofs.split.write_pair_planes.Goals as goal

pub loop-block-preserved : goal.loop-block-preserved
loop-block-preserved c =
    let block = c.loop-block.block in
    let out = c.write_block.new.out in
    record {
      long = c.write_block.ensures.long;
      value = λ lines are pair lt. elim (cases_lt pair (16 * block)) [
        | inl early ↦
            subst (λ (p : ℕ). IsPairPlane lines c.args.k pair p) (sym (c.write_block.ensures.before pair early)) (c.loop-block.invariant.value lines are pair early)
        | inr late ↦
            (let there : 16 * block + (pair - 16 * block) ≡ pair = omega arith in
            subst (λ (i : ℕ). IsPairPlane lines c.args.k i (get_or out i 0)) there (c.write_block.ensures.here lines are (pair - 16 * block) (omega arith)))
      ];
    }
