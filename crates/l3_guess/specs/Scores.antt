-- The scores of a panel's members: how they rise, which is the best and which the worst.
use Rattle.std.specs.Prelude.{ℕ, ◌+◌, ◌-◌, ◌^◌, ◌==◌, min, nat_le, if◌then◌else◌, List, [], ◌∷◌, length, remove, slice_index}
use Rattle.std.specs.List.{list_all}
use Rattle.l3_base.specs.Choosing.{least_passing, greatest_passing}

-- how far a guess is from the reserve
abbrev pub distance : (guess reserve : ℕ) → ℕ
distance guess reserve = (guess - reserve) + (reserve - guess)

-- a score once a guess is compared with the reserve; it stands at the greatest number of 128 bits
abbrev pub risen : (score guess reserve : ℕ) → ℕ
risen score guess reserve = min (score + distance guess reserve) (2 ^ 128 - 1)

-- the scores of members that gave these answers
abbrev pub all_risen : (scores answers : List ℕ) (reserve : ℕ) → List ℕ
all_risen (score ∷ scores) (answer ∷ answers) reserve = risen score answer reserve ∷ all_risen scores answers reserve
all_risen _ _ reserve = []

-- the place of the first of the least scores
abbrev pub best_place : List ℕ → ℕ
best_place scores = least_passing (length scores) (λ place. list_all (λ other. nat_le (slice_index scores place) other) scores)

-- the place of the last of the greatest scores
abbrev pub worst_place : List ℕ → ℕ
worst_place scores = greatest_passing (length scores) (λ place. list_all (λ other. nat_le other (slice_index scores place)) scores)

-- the scores without the worst, where there are others
abbrev pub without_worst : List ℕ → List ℕ
without_worst scores = if nat_le (length scores) 1 then scores else remove scores (worst_place scores)

-- the scores after a tell, the tells being counted modulo 256: the worst goes after each 256th
abbrev pub after_tell : (tells : ℕ) → List ℕ → List ℕ
after_tell tells scores = if tells == 0 then without_worst scores else scores

-- the answers of the members that are left then
abbrev pub kept_answers : (tells : ℕ) (scores answers : List ℕ) → List ℕ
kept_answers tells scores answers =
    if tells == 0 then (if nat_le (length scores) 1 then answers else remove answers (worst_place scores)) else answers

-- the answer of the member of the best score
abbrev pub guess_of : (scores answers : List ℕ) → ℕ
guess_of scores answers = slice_index answers (best_place scores)

-- the answer of the best of those that are left (only the inside of this crate)
abbrev pub guess_after : (tells : ℕ) (scores answers : List ℕ) → ℕ
guess_after tells scores answers = guess_of (after_tell tells scores) (kept_answers tells scores answers)
