-- Lists by index.
use Rattle.std.specs.Prelude.{ℕ, zero, suc, List, [], ◌∷◌, ℤ, pos, slice_index_or}

-- entry i, and 0 past the end
abbrev pub entry : List ℤ → ℕ → ℤ
entry xs i = slice_index_or xs i (pos 0)

-- f 0, f 1 and so on to f (n - 1)
unfoldable pub tabulate : {A : Type 0} → ℕ → (ℕ → A) → List A
tabulate zero f = []
tabulate (suc n) f = f 0 ∷ tabulate n (λ i. f (suc i))
