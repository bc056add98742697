use Rattle.std.proofs.Common.{rules, ◌∙◌, ◌*◌, ◌+◌, ap, FitsSigned, w16, pos, get_or, ◌++◌, ◌∷◌, [], arith, ◌≡◌, List, ℤ, length, take}
use Rattle.std.proofs.lemmas.Int.{to_z-of_z}
use Rattle.std.proofs.Math.Seq.{take-length}
use Rattle.l3_wav.specs.Pcm.{firsts, seconds}
use Rattle.l3_wav.proofs.PcmLemmas.{firsts_more, seconds_more}
use Rattle.l3_wav.proofs.kept.add_pairs.Goals as goal

pub loop-i-preserved : goal.loop-i-preserved
loop-i-preserved c =
    let first : FitsSigned w16 (get_or c.args.values.now (2 * c.loop-i.i) (pos 0)) = search rules in
    let second : FitsSigned w16 (get_or c.args.values.now (2 * c.loop-i.i + 1) (pos 0)) = search rules in
    let inv = c.loop-i.invariant in
    record {
      left_is = c.push_reserved.ensures.items ∙ (ap (λ x. c.loop-i.left.items ++ (x ∷ [])) (to_z-of_z w16 _ first) ∙ firsts_more c.args.values.now c.args.left.now.items c.loop-i.left.items c.loop-i.i c.loop-i-test.true inv.left_is);
      right_is = c.push_reserved-in-loop-i.ensures.items ∙ (ap (λ x. c.loop-i.right.items ++ (x ∷ [])) (to_z-of_z w16 _ second) ∙ seconds_more c.args.values.now c.args.right.now.items c.loop-i.right.items c.loop-i.i c.loop-i-test.true inv.right_is);
      left_long = omega (arith, c.push_reserved.ensures.len, inv.left_long);
      right_long = omega (arith, c.push_reserved-in-loop-i.ensures.len, inv.right_long);
      left_capacity = c.push_reserved.ensures.capacity ∙ inv.left_capacity;
      right_capacity = c.push_reserved-in-loop-i.ensures.capacity ∙ inv.right_capacity;
    }

pub returns-clause-left : goal.returns-clause-left
returns-clause-left c =
    let all : 2 * c.loop-i.i ≡ length c.args.values.now = omega arith in
    c.loop-i.invariant.left_is ∙ ap (λ (xs : List ℤ). c.args.left.now.items ++ firsts xs) (ap (λ n. take n c.args.values.now) all ∙ take-length c.args.values.now)

pub returns-clause-right : goal.returns-clause-right
returns-clause-right c =
    let all : 2 * c.loop-i.i ≡ length c.args.values.now = omega arith in
    c.loop-i.invariant.right_is ∙ ap (λ (xs : List ℤ). c.args.right.now.items ++ seconds xs) (ap (λ n. take n c.args.values.now) all ∙ take-length c.args.values.now)

pub push_reserved-requires : goal.push_reserved-requires
push_reserved-requires c = omega (arith, c.loop-i.invariant.left_long, c.loop-i.invariant.left_capacity, c.requires.left_room, c.loop-i-test.true)
