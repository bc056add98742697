-- Counts and sums over bands and lines.
use Rattle.std.proofs.Common.{◌≡◌, ℕ, zero, suc, ◌+◌, Bool, [], ◌∷◌, ◌++◌, ap, ◌∙◌, add-one, arith, if◌then◌else◌}
use Rattle.std.specs.List.{count_by, range_with_len}
use Rattle.std.proofs.lemmas.List.Sums.{sum_by_push}

range-more : (a n : ℕ) → range_with_len a (suc n) ≡ range_with_len a n ++ (a + n) ∷ []
range-more a zero = ap (λ k. k ∷ []) (let same : a ≡ a + 0 = omega arith in same)
range-more a (suc n) =
    let same : a + 1 + n ≡ a + suc n = omega arith in
    ap (λ xs. a ∷ xs) (range-more (a + 1) n ∙ ap (λ k. range_with_len (a + 1) n ++ k ∷ []) same)

-- one number more is counted where it passes
pub count_by-range_more : (p : ℕ → Bool) (n : ℕ) →
    count_by p (range_with_len 0 (n + 1)) ≡ count_by p (range_with_len 0 n) + (if p n then 1 else 0)
count_by-range_more p n =
    let same : 0 + n ≡ n = omega arith in
    rw add-one (ap (count_by p) (range-more 0 n ∙ ap (λ k. range_with_len 0 n ++ k ∷ []) same) ∙ sum_by_push (λ k. if p k then 1 else 0) (range_with_len 0 n) n)
