use Rattle.std.proofs.Common.{rules, ◌≡◌, ◌<◌, ℤ, pos, get_or, refl, ap, ◌∙◌, w32, w64, to_z, of_z, FitsSigned}
use Rattle.std.proofs.lemmas.Int.{to_z-of_z}
use Rattle.std.specs.Prelude.{unsigned_abs}
use Rattle.std.specs.Int.{int_rem_euclid}
use Rattle.l3_base.specs.Cosines.{cosine64}
use Rattle.l3_base.specs.declared.cosines.TheConstants.{CIRCLE64}
use Rattle.l3_base.proofs.Entries.{same_at, within_same}
use Rattle.l3_base.proofs.Circles.{cosine64-rem, cosine64_small}
use Rattle.l3_base.proofs.cosines.k64.Goals as goal

-- the entry at the remainder, through the casts of the code
entry_is : (m r : ℤ) → FitsSigned w64 m → FitsSigned w64 r → r ≡ int_rem_euclid (to_z w64 (of_z w64 m)) (pos 128) → unsigned_abs r < 128 → to_z w32 (of_z w32 (get_or CIRCLE64 (unsigned_abs (to_z w64 (of_z w64 r))) (pos 0))) ≡ cosine64 m
unfolding cosine64
entry_is m r fits_m fits_r e small =
    let whole : to_z w64 (of_z w64 m) ≡ m = to_z-of_z w64 m fits_m in
    let value : r ≡ int_rem_euclid m (pos 128) = e ∙ ap (λ z. int_rem_euclid z (pos 128)) whole in
    let here : to_z w32 (of_z w32 (get_or CIRCLE64 (unsigned_abs r) (pos 0))) ≡ cosine64 (pos (unsigned_abs r)) =
    same_at (λ i. to_z w32 (of_z w32 (get_or CIRCLE64 i (pos 0)))) (λ i. cosine64 (pos i)) 128 (unsigned_abs r) refl small in
    ap (λ z. to_z w32 (of_z w32 (get_or CIRCLE64 (unsigned_abs z) (pos 0)))) (to_z-of_z w64 r fits_r)
    ∙ (here ∙ (ap (λ z. cosine64 (pos (unsigned_abs z))) value ∙ cosine64-rem m))

pub returns-clause-value : goal.returns-clause-value
returns-clause-value c = entry_is c.args.m c.rem_euclid.result c.ranges.m (search rules) c.rem_euclid.ensures.value (search rules)

pub returns-clause-bound : goal.returns-clause-bound
returns-clause-bound c =
    within_same 32768 _ (cosine64 c.args.m) (entry_is c.args.m c.rem_euclid.result c.ranges.m (search rules) c.rem_euclid.ensures.value (search rules)) (cosine64_small c.args.m)
