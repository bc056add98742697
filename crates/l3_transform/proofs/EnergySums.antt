-- Sums over bands and lines.
use Rattle.std.proofs.Common.{◌≡◌, ℕ, zero, suc, ◌+◌, [], ◌∷◌, ◌++◌, refl, ap, ◌∙◌, add-one}
use Rattle.std.specs.List.{sum}
use Rattle.std.proofs.lemmas.List.Sums.{sum_by_push}
use Rattle.l3_base.specs.Lists.{tabulate}

tabulate-more : (n : ℕ) (f : ℕ → ℕ) → tabulate (suc n) f ≡ tabulate n f ++ f n ∷ []
unfolding tabulate
tabulate-more zero f = refl
tabulate-more (suc n) f = ap (λ xs. f 0 ∷ xs) (tabulate-more n (λ i. f (suc i)))

pub sum_tabulate-none : (f : ℕ → ℕ) → sum (tabulate 0 f) ≡ 0
unfolding tabulate
sum_tabulate-none f = refl

pub sum_tabulate-more : (n : ℕ) (f : ℕ → ℕ) → sum (tabulate (n + 1) f) ≡ sum (tabulate n f) + f n
sum_tabulate-more n f = rw add-one (ap sum (tabulate-more n f) ∙ sum_by_push (λ x. x) (tabulate n f) (f n))
