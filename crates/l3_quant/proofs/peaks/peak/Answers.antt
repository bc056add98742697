use Rattle.std.proofs.Common.{◌≡◌, ◌<◌, ◌+◌, ◌&&◌, ◌∙◌, ℕ, ℤ, pos, List, length, take, get_or, max, unsigned_abs, nat_le, sym, ap, FitsSigned, w32, arith}
use Rattle.std.specs.List.{list_all}
use Rattle.std.proofs.lemmas.Bool.Decides.{nat_tests}
use Rattle.std.proofs.lemmas.Int.{to_z-of_z, fits_signed_from_abs}
use Rattle.std.proofs.lemmas.List.Folds.{list_all_more}
use Rattle.l3_quant.proofs.peaks.peak.Goals as goal

-- both are at most n where the greater one is
both_at_most : (a b n : ℕ) → (nat_le a n && nat_le b n) ≡ nat_le (max a b) n
both_at_most a b n = grind (arith, nat_tests)

-- the peak of one line more
peak_more : (lines : List ℤ) (i old size new : ℕ) → i < length lines → ((n : ℕ) → list_all (λ x. nat_le (unsigned_abs x) n) (take i lines) ≡ nat_le old n) → size ≡ unsigned_abs (get_or lines i (pos 0)) → new ≡ max old size →
    (n : ℕ) → list_all (λ x. nat_le (unsigned_abs x) n) (take (i + 1) lines) ≡ nat_le new n
peak_more lines i old size new lt before is greater n =
    list_all_more (λ x. nat_le (unsigned_abs x) n) lines i (pos 0) lt
    ∙ (ap (λ b. b && nat_le (unsigned_abs (get_or lines i (pos 0))) n) (before n)
    ∙ (both_at_most old (unsigned_abs (get_or lines i (pos 0))) n ∙ ap (λ m. nat_le m n) (ap (max old) (sym is) ∙ sym greater)))

pub loop-x-preserved : goal.loop-x-preserved
loop-x-preserved c =
    let bound = c.requires c.loop-x.x-index (pos 0) c.loop-x-test.true in
    let fits : FitsSigned w32 (get_or c.args.lines.now c.loop-x.x-index (pos 0)) = fits_signed_from_abs w32 _ (omega arith) in
    let size : c.unsigned_abs.result ≡ unsigned_abs (get_or c.args.lines.now c.loop-x.x-index (pos 0)) = c.unsigned_abs.ensures.value ∙ ap unsigned_abs (to_z-of_z w32 _ fits) in
    record {
      small = let old = c.loop-x.invariant.small in let new = c.max-peak.ensures in omega arith;
      value = peak_more c.args.lines.now c.loop-x.x-index c.loop-x.peak c.unsigned_abs.result c.max-peak.result c.loop-x-test.true c.loop-x.invariant.value size c.max-peak.ensures;
    }
