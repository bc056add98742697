-- Choosing among candidates: the first of least cost, the least number that passes a test, the
-- greatest that does.
use Rattle.std.specs.Prelude.{◌≡◌, ℕ, zero, suc, ◌<◌, ◌≤◌, Bool, true, false, List, [], ◌∷◌, ◌++◌, All, nat_le, if◌then◌else◌}

-- the first candidate of least cost, of the first one and the others in their order
abbrev pub first_least : {A : Type 0} → (A → ℕ) → A → List A → A
first_least cost first [] = first
first_least cost first (second ∷ others) =
    let best = first_least cost second others in if nat_le (cost first) (cost best) then first else best

-- what that means: each candidate before the chosen one costs more, and none after it costs less
pub record IsFirstLeast {A : Type 0} (cost : A → ℕ) (candidates : List A) (chosen : A) : Type 0 where
  pub before : List A
  pub after : List A
  pub placed : candidates ≡ before ++ chosen ∷ after
  pub dearer : All (λ other. cost chosen < cost other) before
  pub no_cheaper : All (λ other. cost chosen ≤ cost other) after

-- the least number below the limit that passes, or the limit where none does
unfoldable pub least_passing : ℕ → (ℕ → Bool) → ℕ
least_passing zero passes = 0
least_passing (suc n) passes = if passes 0 then 0 else suc (least_passing n (λ k. passes (suc k)))

-- what that means: no number below the chosen one passes, and it passes where it is below the limit
pub record IsLeastPassing (limit : ℕ) (passes : ℕ → Bool) (chosen : ℕ) : Type 0 where
  pub within : chosen ≤ limit
  pub passing : chosen < limit → passes chosen ≡ true
  pub least : (k : ℕ) → k < chosen → passes k ≡ false

-- the greatest number below the limit that passes, or 0 where none does
unfoldable pub greatest_passing : ℕ → (ℕ → Bool) → ℕ
greatest_passing zero passes = 0
greatest_passing (suc n) passes = if passes n then n else greatest_passing n passes

-- what that means: where some number below the limit passes, the chosen one does and is no less;
-- else it is 0
pub record IsGreatestPassing (limit : ℕ) (passes : ℕ → Bool) (chosen : ℕ) : Type 0 where
  pub greatest : (k : ℕ) → k < limit → passes k ≡ true → (k ≤ chosen) × (chosen < limit) × (passes chosen ≡ true)
  pub none : ((k : ℕ) → k < limit → passes k ≡ false) → chosen ≡ 0
