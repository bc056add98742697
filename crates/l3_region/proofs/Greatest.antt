-- The greatest of a list, as it grows by one value.

use Rattle.std.proofs.Common.{◌≡◌, ◌<◌, ◌+◌, ◌&&◌, ◌∙◌, ℕ, ℤ, pos, List, length, take, get_or, max, unsigned_abs, nat_le, sym, ap, arith}
use Rattle.std.specs.List.{list_all}
use Rattle.std.proofs.lemmas.Bool.Decides.{nat_tests}
use Rattle.std.proofs.lemmas.List.Folds.{list_all_more}
use Rattle.l3_base.specs.Peaks.{IsPeak}

-- both are at most n where the greater one is
both_at_most : (a b n : ℕ) → (nat_le a n && nat_le b n) ≡ nat_le (max a b) n
both_at_most a b n = grind (arith, nat_tests)

pub greatest_more : (values : List ℕ) (i old new : ℕ) → i < length values → ((n : ℕ) → list_all (λ x. nat_le x n) (take i values) ≡ nat_le old n) → new ≡ max old (get_or values i 0) →
    (n : ℕ) → list_all (λ x. nat_le x n) (take (i + 1) values) ≡ nat_le new n
greatest_more values i old new lt before greater n =
    list_all_more (λ x. nat_le x n) values i 0 lt
    ∙ (ap (λ b. b && nat_le (get_or values i 0) n) (before n)
    ∙ (both_at_most old (get_or values i 0) n ∙ ap (λ m. nat_le m n) (sym greater)))

pub peak_more : (values : List ℤ) (i old size new : ℕ) → i < length values → IsPeak (take i values) old → size ≡ unsigned_abs (get_or values i (pos 0)) → new ≡ max old size → IsPeak (take (i + 1) values) new
peak_more values i old size new lt before is greater n =
    list_all_more (λ x. nat_le (unsigned_abs x) n) values i (pos 0) lt
    ∙ (ap (λ b. b && nat_le (unsigned_abs (get_or values i (pos 0))) n) (before n)
    ∙ (both_at_most old (unsigned_abs (get_or values i (pos 0))) n ∙ ap (λ m. nat_le m n) (ap (max old) (sym is) ∙ sym greater)))
